-- No name is listed twice: of every key at most one record stands in the file with the buffer put back, after any calls whatever; and the listing hands
-- out the names in ascending order. Nothing is proved here.
use Rattle.std.specs.Prelude.{ℕ, ◌≤◌, ◌<◌, ◌≡◌, true, false, List, [], ◌∷◌, ◌++◌, length, take, drop}
use Rattle.numbers.specs.Numbers.{done, at_end}
use Rattle.layout.specs.Holds.{All, ascending, keys_of}
use Rattle.rules.specs.State.{State, desc, key_in}
use Rattle.rules.specs.Open.{open_file}
use Rattle.demands.specs.History.{with_key, handed}
use Rattle.demands.specs.Contents.{Contains}
use Rattle.demands.specs.Answers.{Lent, Keyed, Advanced, ordinary, above_position}
use Rattle.registered.specs.Deeds.{Deed, listing, did, left_by}

-- P of the state that any run of register calls, and of the routine's, leaves from an OPEN that answers 0, with the records that it holds
abbrev pub AfterRun : (State → List (List ℕ) → Type 0) → Type 0
AfterRun P = (st : State) (marks : List ℕ) → (open_file st marks).outcome.number ≡ done → (ds : List Deed) (rows : List (List ℕ))
    → let now = left_by (open_file st marks).outcome.after ds in
    Contains now rows → P now rows

-- "or lists a name twice": of every key that a call can be lent, at most one record [G8]
abbrev pub NoNameTwice : Type 0
NoNameTwice = AfterRun λ now rows. (work : List ℕ) → Keyed now (desc now).k work → length (with_key (desc now) (key_in (desc now) work) rows) ≤ 1

-- the listing: where a record has a data word, the first name above the position, in ascending order, or 030002 where none is left [G9]
abbrev pub ListsNext : Type 0
ListsNext = AfterRun λ now rows. (work : List ℕ) → Lent now work → (desc now).k < (desc now).wpr
    → Advanced (desc now) (ordinary (desc now) (above_position now.session rows)) (did now (listing work))

-- ---- the whole listing

-- calls of `next`, lent these workspaces one after another
unfoldable pub listings : List (List ℕ) → List Deed
listings [] = []
listings (w ∷ ws) = listing w ∷ listings ws

-- the names that they hand out
unfoldable pub handed_out : State → List (List ℕ) → List (List ℕ)
handed_out st [] = []
handed_out st (w ∷ ws) = let o = did st (listing w) in handed o ++ handed_out o.after ws

-- P of an open file whose records have a data word, and of any workspaces of the right length
abbrev pub Listing : (State → List (List ℕ) → List (List ℕ) → Type 0) → Type 0
Listing P = AfterRun λ now rows. now.session.opened ≡ true → (desc now).k < (desc now).wpr → (ws : List (List ℕ))
    → All (λ w. length w ≡ (desc now).wpr) ws → P now rows ws

-- n calls of `next` hand out the first n names above the position, and the call after them the next of these, or 030002 where none is left [G9]
abbrev pub ListsOn : Type 0
ListsOn = Listing λ now rows ws.
    let names = ordinary (desc now) (above_position now.session rows) in
    (handed_out now ws ≡ take (length ws) names)
    × ((w : List ℕ) → length w ≡ (desc now).wpr → Advanced (desc now) (drop (length ws) names) (did (left_by now (listings ws)) (listing w)))

-- "lists a name twice": from no position, as many calls as there are names hand out every name of the file once, ascending, and then 030002 [G8, G9]
abbrev pub ListsWhole : Type 0
ListsWhole = Listing λ now rows ws.
    let names = ordinary (desc now) rows in
    now.session.placed ≡ false → length ws ≡ length names
    → (handed_out now ws ≡ names)
    × (ascending (keys_of (desc now) names) ≡ true)
    × ((w : List ℕ) → length w ≡ (desc now).wpr → (did (left_by now (listings ws)) (listing w)).number ≡ at_end)
