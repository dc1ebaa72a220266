-- No call looks at the workspace that the call before it left: each is lent its own, and OPEN and CLOSE have none. So a run from a state with another
-- workspace does the same. And a run is its first calls and then the others.
use Prim.Native.Nat.{ℕ, ◌+◌}
use mathlib.Core.Path.{◌≡◌, refl, sym, ap, ◌∙◌}
use mathlib.Core.Bool.{Bool}
use mathlib.Core.List.{List, [], ◌∷◌, ◌++◌, append_assoc}
use native.Mathlib.Omega.{arith}
use Rattle.numbers.specs.Checked.{Checked, passed, refused}
use Rattle.drum.specs.Blocks.{Transfer}
use Rattle.layout.specs.Inspect.{layout_marks}
use Rattle.rules.specs.State.{State, Outcome, desc}
use Rattle.rules.specs.Checks.{sizes_ok, is_open}
use Rattle.rules.specs.Open.{open_checks, open_layout, open_done, open_file}
use Rattle.rules.specs.Close.{close_checks, close_done, close}
use Rattle.rules.specs.Seek.{seek, updat}
use Rattle.rules.specs.Adv.{adv}
use Rattle.rules.specs.NsertDone.{nsert}
use Rattle.rules.specs.Dlete.{dlete}
use Rattle.rules.specs.XtendDone.{xtend}
use Rattle.rules.specs.Requests.{Request, opening, closing, seeking, advancing, inserting, deleting, updating, extending, lending, answer, left, tally}
use Rattle.demands.specs.History.{Event, event_of, events}
use Rattle.tray.specs.Singles.{joined, last_number}

-- an outcome with another workspace
abbrev pub relent : List ℕ → Outcome → Outcome
relent w o = record { number = o.number; transfers = o.transfers; after = lending w o.after }

module _ (w : List ℕ) (st : State) where
  layout-blind : (c : Checked (List ℕ)) → (open_layout (lending w st) c).outcome ≡ relent w (open_layout st c).outcome
  unfolding open_layout lending
  layout-blind (refused n) = refl
  layout-blind (passed marks) = refl

  open-blind : (marks : List ℕ) → (open_file (lending w st) marks).outcome ≡ relent w (open_file st marks).outcome
  unfolding open_file open_checks open_done sizes_ok lending
  open-blind marks = go (open_checks st marks)
    where
      go : (c : Checked Bool) → (open_done (lending w st) marks c).outcome ≡ relent w (open_done st marks c).outcome
      go (refused n) = refl
      go (passed x) = layout-blind (layout_marks (desc st) st.file)

  close-blind : close (lending w st) ≡ relent w (close st)
  unfolding close close_checks close_done sizes_ok is_open lending
  close-blind = go (close_checks st)
    where
      go : (c : Checked Bool) → close_done (lending w st) c ≡ relent w (close_done st c)
      go (refused n) = refl
      go (passed x) = refl

  -- a call given another workspace: it leaves that one, or the one that it is lent
  pub record Unseen (q : Request) : Type 0 where
    pub then-work : List ℕ
    pub same : answer (lending w st) q ≡ relent then-work (answer st q)

  pub unseen : (q : Request) → Unseen q
  unfolding answer lending
  unseen (opening marks) = record { then-work = w; same = open-blind marks }
  unseen closing = record { then-work = w; same = close-blind }
  unseen (seeking v) = record { then-work = (seek (lending v st)).after.work; same = refl }
  unseen (advancing v) = record { then-work = (adv (lending v st)).after.work; same = refl }
  unseen (inserting v) = record { then-work = (nsert (lending v st)).after.work; same = refl }
  unseen (deleting v) = record { then-work = (dlete (lending v st)).after.work; same = refl }
  unseen (updating v) = record { then-work = (updat (lending v st)).after.work; same = refl }
  unseen (extending v) = record { then-work = (xtend (lending v st)).after.work; same = refl }

-- what a run leaves but for the workspace, its transfers, its last number
pub left-blind : (u w : List ℕ) (qs : List Request) (st : State) → lending u (left (lending w st) qs) ≡ lending u (left st qs)
unfolding left lending
left-blind u w [] st = refl
left-blind u w (q ∷ qs) st =
    let e = unseen w st q in
    ap (λ (o : Outcome). lending u (left o.after qs)) e.same ∙ left-blind u e.then-work qs (answer st q).after

pub joined-blind : (w : List ℕ) (qs : List Request) (st : State) → joined (lending w st) qs ≡ joined st qs
unfolding joined
joined-blind w [] st = refl
joined-blind w (q ∷ qs) st =
    let e = unseen w st q in
    ap (λ (o : Outcome). o.transfers ++ joined o.after qs) e.same
    ∙ ap (λ (l : List Transfer). (answer st q).transfers ++ l) (joined-blind e.then-work qs (answer st q).after)

pub number-blind : (w : List ℕ) (n : ℕ) (qs : List Request) (st : State) → last_number (lending w st) qs n ≡ last_number st qs n
unfolding last_number
number-blind w n [] st = refl
number-blind w n (q ∷ qs) st =
    let e = unseen w st q in
    ap (λ (o : Outcome). last_number o.after qs o.number) e.same ∙ number-blind e.then-work (answer st q).number qs (answer st q).after

-- a number of each call that does not look at the workspace
abbrev pub Blind : (State → Request → Outcome → ℕ) → Type 0
Blind value = (w u : List ℕ) (st : State) (q : Request) (o : Outcome) → value (lending w st) q (relent u o) ≡ value st q o

module _ (value : State → Request → Outcome → ℕ) where
  pub tally-blind : Blind value → (w : List ℕ) (qs : List Request) (st : State) → tally value (lending w st) qs ≡ tally value st qs
  unfolding tally
  tally-blind h w [] st = refl
  tally-blind h w (q ∷ qs) st =
      let e = unseen w st q in
      let i = tally-blind h e.then-work qs (answer st q).after in
      let v = h w e.then-work st q (answer st q) in
      ap (λ (o : Outcome). value (lending w st) q o + tally value o.after qs) e.same ∙ λ j. v j + i j

  -- of two runs, one after the other
  pub tally-after : (qs rs : List Request) (st : State) → tally value st (qs ++ rs) ≡ tally value st qs + tally value (left st qs) rs
  unfolding tally left
  tally-after [] rs st = omega arith
  tally-after (q ∷ qs) rs st =
      let i = tally-after qs rs (answer st q).after in
      omega arith

pub left_after : (qs rs : List Request) (st : State) → left st (qs ++ rs) ≡ left (left st qs) rs
unfolding left
left_after [] rs st = refl
left_after (q ∷ qs) rs st = left_after qs rs (answer st q).after

-- the events of a run
event-blind : (w u : List ℕ) (st : State) (q : Request) (o : Outcome) → event_of (desc (lending w st)) q (relent u o) ≡ event_of (desc st) q o
unfolding event_of lending
event-blind w u st (opening marks) o = refl
event-blind w u st closing o = refl
event-blind w u st (seeking v) o = refl
event-blind w u st (advancing v) o = refl
event-blind w u st (inserting v) o = refl
event-blind w u st (deleting v) o = refl
event-blind w u st (updating v) o = refl
event-blind w u st (extending v) o = refl

pub events-blind : (w : List ℕ) (qs : List Request) (st : State) → events (lending w st) qs ≡ events st qs
unfolding events
events-blind w [] st = refl
events-blind w (q ∷ qs) st =
    let e = unseen w st q in
    let i = events-blind e.then-work qs (answer st q).after in
    let v = event-blind w e.then-work st q (answer st q) in
    ap (λ (o : Outcome). event_of (desc (lending w st)) q o ++ events o.after qs) e.same ∙ λ j. v j ++ i j

pub events-after : (qs rs : List Request) (st : State) → events st (qs ++ rs) ≡ events st qs ++ events (left st qs) rs
unfolding events left
events-after [] rs st = refl
events-after (q ∷ qs) rs st =
    let o = answer st q in
    ap (λ (l : List Event). event_of (desc st) q o ++ l) (events-after qs rs o.after)
    ∙ sym (append_assoc (event_of (desc st) q o) (events o.after qs) (events (left o.after qs) rs))
