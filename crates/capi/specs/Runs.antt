-- A run of the exported functions, each lent the session words, file and buffer that the last left, as their promises alone tell it. What it
-- leaves, and demand 3 over the numbers that it returns. Nothing is proved here.
use Rattle.std.specs.Prelude.{ℕ, ◌+◌, ◌/◌, ◌%◌, ◌≤◌, true, ◌≡◌, List, [], ◌∷◌, length}
use Rattle.numbers.specs.Numbers.{done}
use Rattle.rules.specs.State.{State, lent}
use Rattle.rules.specs.Close.{close}
use Rattle.rules.specs.Seek.{seek, updat}
use Rattle.rules.specs.Adv.{adv}
use Rattle.rules.specs.NsertDone.{nsert}
use Rattle.rules.specs.Dlete.{dlete}
use Rattle.rules.specs.XtendDone.{xtend}
use Rattle.rules.specs.Requests.{Request, opening, closing, seeking, advancing, inserting, deleting, updating, extending, left}
use Rattle.demands.specs.Formula.{all_transfers}
use Rattle.demands.specs.Planned.{Keeps}
use Rattle.demands.specs.Promises.{AfterOpen}
use Rattle.demands.specs.Turns.{Turn, turns, Formula}
use Rattle.capi.specs.Words.{is_session, session_of}
use Rattle.searchfile.specs.Promise.{creating}
use Rattle.capi.specs.Calls.{Returned, returned, called, called_open}
use Rattle.capi.specs.Plan.{plan_in, most_in}

-- the two parts of a returned number: "transfers times 2^32, plus the number"
abbrev pub number_in : ℕ → ℕ
number_in r = r % 4294967296

-- the transfers in a returned number [T3]
abbrev pub transfers_in : ℕ → ℕ
transfers_in r = r / 4294967296

-- the state in the words that a call leaves
abbrev pub state_in : Returned → State
state_in x = lent (session_of x.session) x.file x.buffer x.work

-- what a function that is lent no workspace leaves of the caller's words
abbrev pub keeping : List ℕ → Returned → Returned
keeping w r = returned r.answer r.session r.file r.buffer w

-- what a function promises to return and leave, lent the words in x; the workspace, or OPEN's marks, are lent anew
unfoldable pub promised : Returned → Request → Returned
promised x (opening marks) = keeping x.work (called_open x.session x.file x.buffer marks).returned
promised x closing = keeping x.work (called close x.session x.file x.buffer [])
promised x (seeking w) = called seek x.session x.file x.buffer w
promised x (advancing w) = called adv x.session x.file x.buffer w
promised x (inserting w) = called nsert x.session x.file x.buffer w
promised x (deleting w) = called dlete x.session x.file x.buffer w
promised x (updating w) = called updat x.session x.file x.buffer w
promised x (extending w) = called xtend x.session x.file x.buffer w

-- the same of `nasturakh_create`, which is lent session and file alone
unfoldable pub promised_create : Returned → Returned
promised_create x = let r = called creating x.session x.file [] [] in returned r.answer r.session r.file x.buffer x.work

-- one call of a run: the function with what is lent to it anew, and what it returned and left
pub record Call : Type 0 where
  pub request : Request
  pub gave : Returned

-- every function keeps its promise, "each given what the last left", from the words in x on
abbrev pub Promises : Returned → List Call → Type 0
Promises x [] = Unit {0}
Promises x (c ∷ cs) = (c.gave ≡ promised x c.request) × Promises c.gave cs

-- what is seen of a call in the number it returned and the words it left
abbrev pub seen_of : Call → Turn
seen_of c = record { request = c.request; number = number_in c.gave.answer; count = transfers_in c.gave.answer; after = state_in c.gave }

-- the words that a run leaves; what was asked; what is seen of it; the transfers in the numbers returned
unfoldable pub last : Returned → List Call → Returned
last x [] = x
last x (c ∷ cs) = last c.gave cs

-- the requests that a run of functions is [S7]
unfoldable pub requests : List Call → List Request
requests [] = []
requests (c ∷ cs) = c.request ∷ requests cs

-- its turns as a caller sees them
unfoldable pub seen : List Call → List Turn
seen [] = []
seen (c ∷ cs) = seen_of c ∷ seen cs

-- the transfers in its returned numbers, summed [F4]
unfoldable pub transfers_of : List Call → ℕ
transfers_of [] = 0
transfers_of (c ∷ cs) = transfers_in c.gave.answer + transfers_of cs

-- "each proved to do what the session call does", of a whole run: number, transfers and state of every call; so what is left, and the sum
pub record RunFollows (x : Returned) (cs : List Call) : Type 0 where
  pub calls : seen cs ≡ turns (state_in x) (requests cs)
  pub leaves : state_in (last x cs) ≡ left (state_in x) (requests cs)
  pub transfers : transfers_of cs ≡ all_transfers (state_in x) (requests cs)
  pub session : is_session (last x cs).session ≡ true

-- a run of the functions, told by their promises, is a run of the calls [S7]
abbrev pub ArchiveFollows : Type 0
ArchiveFollows = (x : Returned) (cs : List Call) → is_session x.session ≡ true → Promises x cs → RunFollows x cs

-- what holds after each call of any run of requests from an OPEN that answers 0 holds of the states in the words that the functions leave
abbrev pub ArchiveAfterOpen : Type 1
ArchiveAfterOpen =
    (P : State → Type 0) → AfterOpen P → (x : Returned) (marks : List ℕ) (o : Returned) (cs : List Call)
    → o ≡ promised x (opening marks) → number_in o.answer ≡ done → Promises o cs → P (state_in (last o cs))

-- "From a CREATE and then an OPEN that both answer 0, any calls, each given what the last left, closing and reopening included"
pub record Begins (x made : Returned) (marks : List ℕ) (o : Returned) : Type 0 where
  pub create : made ≡ promised_create x
  pub created : number_in made.answer ≡ done
  pub open-file : o ≡ promised made (opening marks)
  pub opened : number_in o.answer ≡ done

-- demand 3 over the numbers that the functions return [F3, F4]
abbrev pub ArchiveFormula : Type 0
ArchiveFormula = (x made : Returned) (marks : List ℕ) (o : Returned) (cs : List Call) → Begins x made marks o → Promises o cs → Formula (state_in o) (seen cs)

-- and a run that keeps to a plan of eight words costs at most what `nasturakh_most_transfers` returns for it
abbrev pub ArchivePlanned : Type 0
ArchivePlanned =
    (x made : Returned) (marks : List ℕ) (o : Returned) (cs : List Call) (plan : List ℕ) → Begins x made marks o → Promises o cs
    → length plan ≡ 8 → Keeps (plan_in plan) (state_in o) (requests cs) → transfers_of cs ≤ most_in o.session plan
