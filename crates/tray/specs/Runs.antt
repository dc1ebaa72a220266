-- Runs of calls with trays among them: "The formula counts each as one NSERT." A run with trays is turned into a run of single calls, and so demands
-- 2 and 3 hold of it. Nothing is proved here.
use Rattle.std.specs.Prelude.{ℕ, ◌+◌, ◌*◌, ◌≤◌, Bool, false, cond, ◌≡◌, List, [], ◌∷◌, ◌++◌, map, length, take}
use Rattle.numbers.specs.Numbers.{done, bad_file, accepted}
use Rattle.numbers.specs.Checked.{Checked, passed, refused}
use Rattle.layout.specs.Tree.{Tree, contents}
use Rattle.layout.specs.Holds.{Holds, WellFormed}
use Rattle.rules.specs.State.{Session, State, desc, lent, key_in}
use Rattle.rules.specs.Open.{create, open_file}
use Rattle.rules.specs.Requests.{Request, seeking, lending, answer, left}
use Rattle.demands.specs.Formula.{h_d, h_i, accepted_by, of_nsert, of_xtend, share, M, S, s, X, x, all_transfers, shares}
use Rattle.demands.specs.declared.Plan.{Plan}
use Rattle.demands.specs.Planned.{planned, Keeps}
use Rattle.demands.specs.History.{Event, stored, event_of, events, standing, with_key, handed}
use Rattle.demands.specs.Promises.{AfterOpen, put_back}
use Rattle.demands.specs.Refusals.{leaves_all}
use Rattle.drum.specs.Params.{FD, FI}
use Rattle.tray.specs.Tray.{records_of, nsert_one, tray_checks, nsert_tray}
use Rattle.tray.specs.Singles.{singles}

-- a call of a run: a call of a session, or a tray [Y5]
pub data Turn : Type 0 where
  single : Request → Turn
  tray : List ℕ → Turn

-- the state that it leaves
unfoldable pub after_turn : State → Turn → State
after_turn st (single q) = (answer st q).after
after_turn st (tray t) = (nsert_tray st t).after

-- the state that a run leaves, "each given what the last left" [S7]
unfoldable pub left_by : State → List Turn → State
left_by st [] = st
left_by st (c ∷ cs) = left_by (after_turn st c) cs

-- the records of which NSERTs are made: up to and with the first that is not stored [Y2, Y5]
unfoldable pub tried : State → List (List ℕ) → List (List ℕ)
tried st [] = []
tried st (r ∷ rs) = let o = nsert_one st r in r ∷ cond (accepted o.number) (tried o.after rs) []

-- none where the tray is refused
unfoldable pub tried_after : State → List ℕ → Checked Bool → List (List ℕ)
tried_after st t (refused n) = []
tried_after st t (passed x) = tried st (records_of (desc st) t)

-- the single calls that a call of the run is [Y5]
unfoldable pub calls_of : State → Turn → List Request
calls_of st (single q) = q ∷ []
calls_of st (tray t) = singles (tried_after st t (tray_checks st t))

-- the run of single calls that a run with trays is [Y5]
unfoldable pub expand : State → List Turn → List Request
expand st [] = []
expand st (c ∷ cs) = calls_of st c ++ expand (after_turn st c) cs

-- a number of each call of a run, summed
unfoldable pub summed : (State → Turn → ℕ) → State → List Turn → ℕ
summed value st [] = 0
summed value st (c ∷ cs) = value st c + summed value (after_turn st c) cs

-- transfers, as the call tells them: "the sum of transfers" [Y2, F4]
unfoldable pub transfers_of : State → Turn → ℕ
transfers_of st (single q) = length (answer st q).transfers
transfers_of st (tray t) = length (nsert_tray st t).transfers

-- records accepted: "how many were stored" [Y2, F2]
unfoldable pub accepted_of : State → Turn → ℕ
accepted_of st (single q) = of_nsert (accepted_by (answer st q)) q + of_xtend (accepted_by (answer st q)) q
accepted_of st (tray t) = (nsert_tray st t).stored

-- shares: "The formula counts each as one NSERT", each that is made [Y5, F4]
unfoldable pub share_of : State → Turn → ℕ
share_of st (single q) = share q
share_of st (tray t) = 3 * length (tried_after st t (tray_checks st t))

-- what it has done to the records: as many of the tray's as were stored are put in
unfoldable pub events_of : State → Turn → List Event
events_of st (single q) = event_of (desc st) q (answer st q)
events_of st (tray t) = map stored (take (nsert_tray st t).stored (records_of (desc st) t))

-- what the calls of a run have done, one after another
unfoldable pub events_by : State → List Turn → List Event
events_by st [] = []
events_by st (c ∷ cs) = events_of st c ++ events_by (after_turn st c) cs

-- the run of single calls leaves the same session, file and buffer, and all that is counted of it is the same: of any state [Y4, Y5]
pub record SameRun (st : State) (cs : List Turn) : Type 0 where
  pub session : (left_by st cs).session ≡ (left st (expand st cs)).session
  pub file : (left_by st cs).file ≡ (left st (expand st cs)).file
  pub buffer : (left_by st cs).buffer ≡ (left st (expand st cs)).buffer
  pub transfers : summed transfers_of st cs ≡ all_transfers st (expand st cs)
  pub records : summed accepted_of st cs ≡ M st (expand st cs)
  pub shares : summed share_of st cs ≡ shares st (expand st cs)
  pub events : events_by st cs ≡ events st (expand st cs)

-- P holds after each call of any run with trays from an OPEN that answers 0 [S7]
abbrev pub AfterTrays : (State → Type 0) → Type 0
AfterTrays P = (st : State) (marks : List ℕ) → (open_file st marks).outcome.number ≡ done → (cs : List Turn) → P (left_by (open_file st marks).outcome.after cs)

-- what holds after each call of any run of single calls, and does not look at the workspace, holds after each call of any run with trays
abbrev pub HoldsWithTrays : Type 1
HoldsWithTrays = (P : State → Type 0) → ((w : List ℕ) (st : State) → P st → P (lending w st)) → AfterOpen P → AfterTrays P

-- demand 2: "A seek not refused under 1 finds a name exactly when it stood there or was put in, and was not taken out since."
abbrev pub FoundWithTrays : Type 0
FoundWithTrays =
    (st : State) (marks : List ℕ) → (open_file st marks).outcome.number ≡ done
    → (t : Tree) × Holds (desc st) st.file t × ((cs : List Turn) (work : List ℕ)
    → let opened = (open_file st marks).outcome.after in
    let o = answer (left_by opened cs) (seeking work) in
    let key = key_in (desc st) work in
    leaves_all o.number ≡ false → handed o ≡ standing (desc st) key (events_by opened cs) (with_key (desc st) key (contents t)))

-- demand 2: "Each block is reached once, chained once, or still unused." [L16]
abbrev pub BlocksWithTrays : Type 0
BlocksWithTrays = AfterTrays λ st. WellFormed (desc st) (put_back st) × WellFormed (desc st) st.file

-- demand 2: no call finds the file bad, and no tray [N5]
pub record NeverBad (st : State) : Type 0 where
  pub calls : (q : Request) → (answer st q).number ≡ bad_file → ⊥
  pub trays : (t : List ℕ) → (nsert_tray st t).number ≡ bad_file → ⊥

-- after each call of any run with trays from an OPEN that answers 0 [N5]
abbrev pub NeverBadWithTrays : Type 0
NeverBadWithTrays = AfterTrays NeverBad

-- demand 3 of a run with trays: its records, shares and transfers as its calls tell them; splits and starts of the NSERTs and XTENDs that are made
pub record WithinTrays (st : State) (cs : List Turn) : Type 0 where
  pub splits : h_d (desc st) * S st (expand st cs) ≤ summed accepted_of st cs
  pub starts : FD (desc st) * X st (expand st cs) ≤ summed accepted_of st cs
  pub index-splits : h_i (desc st) * s st (expand st cs) ≤ S st (expand st cs) + X st (expand st cs)
  pub index-starts : FI (desc st) * x st (expand st cs) ≤ S st (expand st cs) + X st (expand st cs)
  pub transfers : summed transfers_of st cs
      ≤ summed share_of st cs + 4 * (S st (expand st cs) + X st (expand st cs)) + s st (expand st cs) + x st (expand st cs)

-- P holds "From a CREATE and then an OPEN that both answer 0, any calls, each given what the last left, closing and reopening included", trays among them
abbrev pub AfterCreateTrays : (State → List Turn → Type 0) → Type 0
AfterCreateTrays P =
    (session : Session) (f buffer work marks : List ℕ) → (create session.desc f).number ≡ done
    → let made = lent session (create session.desc f).file buffer work in
    (open_file made marks).outcome.number ≡ done → (cs : List Turn) → P (open_file made marks).outcome.after cs

-- demand 3 of every such run [F3, F4, Y5]
abbrev pub FormulaWithTrays : Type 0
FormulaWithTrays = AfterCreateTrays WithinTrays

-- what a planner counts on: a run that keeps to a plan, with every NSERT that a tray makes among the planned, costs no more transfers than are planned
abbrev pub PlanWithTrays : Type 0
PlanWithTrays = AfterCreateTrays λ st cs. (plan : Plan) → Keeps plan st (expand st cs) → summed transfers_of st cs ≤ planned (desc st) plan
