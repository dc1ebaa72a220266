-- Document 01, "What the promises pin": "Two results allowed by one promise are proved equal". Of the exported functions: the number returned,
-- and every word lent. Nothing is proved here.
use Rattle.std.specs.Prelude.{ℕ, ◌≡◌, List, []}
use Rattle.rules.specs.State.{State, Outcome}
use Rattle.capi.specs.Calls.{returned, called, marked, called_open}
use Rattle.capi.specs.View.{viewed}
use Rattle.capi.specs.Plan.{most_in}

-- the same number, and the same session, file, buffer and workspace
abbrev pub Same : ℕ → List ℕ → List ℕ → List ℕ → List ℕ → ℕ → List ℕ → List ℕ → List ℕ → List ℕ → Type 0
Same r us f b w s vs g d u = (r ≡ s) × (us ≡ vs) × (f ≡ g) × (b ≡ d) × (w ≡ u)

-- `nasturakh_create`, `nasturakh_close`, `nasturakh_seek` .. `nasturakh_xtend`
abbrev pub OneReturned : Type 0
OneReturned =
    (call : State → Outcome) (ws file buffer work : List ℕ) (r s : ℕ) (us vs f g b d w u : List ℕ)
    → returned r us f b w ≡ called call ws file buffer work → returned s vs g d u ≡ called call ws file buffer work → Same r us f b w s vs g d u

-- `nasturakh_open`: and its marks
abbrev pub OneReturnedOpen : Type 0
OneReturnedOpen =
    (ws file buffer marks : List ℕ) (r s : ℕ) (us vs f g b d m n : List ℕ)
    → marked (returned r us f b []) m ≡ called_open ws file buffer marks → marked (returned s vs g d []) n ≡ called_open ws file buffer marks
    → Same r us f b m s vs g d n

-- `nasturakh_view`, `nasturakh_most_transfers`
abbrev pub OneViewed : Type 0
OneViewed = (ws file buffer : List ℕ) (block r s : ℕ) → r ≡ viewed ws file buffer block → s ≡ viewed ws file buffer block → r ≡ s

-- the bound of a plan
abbrev pub OneMost : Type 0
OneMost = (ws plan : List ℕ) (r s : ℕ) → r ≡ most_in ws plan → s ≡ most_in ws plan → r ≡ s
