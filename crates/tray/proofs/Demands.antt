-- Demands 2 and 3 of runs with trays, by those of the runs of single calls that they are.
use Prim.Native.Nat.{ℕ, ◌*◌, ◌≤◌}
use mathlib.Core.Path.{◌≡◌, refl, sym, ap, subst, ◌∙◌}
use mathlib.Core.Bool.{Bool, true, false, ◌&&◌}
use mathlib.Core.List.{List, [], ◌∷◌, ◌++◌}
use native.Mathlib.Omega.{arith}
use lib.ListN.{length}
use Rattle.numbers.specs.Numbers.{done, bad_file}
use Rattle.drum.specs.Params.{FD, sized}
use Rattle.layout.specs.Tree.{contents}
use Rattle.layout.specs.Holds.{WellFormed}
use Rattle.rules.specs.State.{State, Outcome, desc, lent, key_in}
use Rattle.rules.specs.Open.{create, open_file}
use Rattle.rules.specs.Requests.{Request, seeking, lending, answer, left}
use Rattle.demands.specs.Formula.{h_d, S, X}
use Rattle.demands.specs.Planned.{planned}
use Rattle.demands.specs.History.{Event, standing, with_key, handed}
use Rattle.demands.specs.Promises.{put_back}
use Rattle.demands.specs.Refusals.{leaves_all}
use Rattle.demands.proofs.Mission.{second, third}
use Rattle.tray.specs.Tray.{TrayOutcome, records_of, matches, nsert_tray}
use Rattle.tray.specs.Singles.{singles, last_number}
use Rattle.tray.specs.Runs.{Turn, left_by, tried, expand}
use Rattle.tray.specs.Runs.{HoldsWithTrays, FoundWithTrays, BlocksWithTrays, NeverBadWithTrays, FormulaWithTrays, PlanWithTrays}
use Rattle.tray.proofs.Blind.{left_after, number-blind}
use Rattle.tray.proofs.Refused.{wrong_size_lem, closed, made}
use Rattle.tray.proofs.Singles.{inserts-made}
use Rattle.tray.proofs.Runs.{run-state, same-run}

-- what does not look at the workspace, and holds after every run of single calls, holds after every run with trays
pub holds-with-trays : HoldsWithTrays
holds-with-trays P blind h st marks o cs =
    let opened = (open_file st marks).outcome.after in
    subst P (sym (run-state cs opened)) (blind _ _ (h st marks o (expand opened cs)))

pub blocks-with-trays : BlocksWithTrays
unfolding lending
blocks-with-trays = holds-with-trays (λ st. WellFormed (desc st) (put_back st) × WellFormed (desc st) st.file) (λ w st h. h) second.blocks

-- a SEEK after the run
sought : (st : State) (cs : List Turn) (w : List ℕ) → answer (left_by st cs) (seeking w) ≡ answer (left st (expand st cs)) (seeking w)
unfolding answer lending
sought st cs w = ap (λ (x : State). answer x (seeking w)) (run-state cs st)

pub found-with-trays : FoundWithTrays
found-with-trays st marks o =
    let f = second.seek st marks o in
    let opened = (open_file st marks).outcome.after in (
      f.0,
      f.1,
      λ cs w h.
          let e = sought opened cs w in
          let was = with_key (desc st) (key_in (desc st) w) (contents f.0) in
          ap handed e
          ∙ f.2 (expand opened cs) w (ap (λ (x : Outcome). leaves_all x.number) (sym e) ∙ h)
          ∙ ap (λ (es : List Event). standing (desc st) (key_in (desc st) w) es was) (sym (same-run opened cs).events),
    )

-- the last number of a run of calls none of which finds the file bad
last-good : (qs : List Request) (st : State) (n : ℕ) → (n ≡ bad_file → ⊥)
    → ((rs : List Request) (q : Request) → (answer (left st rs) q).number ≡ bad_file → ⊥) → last_number st qs n ≡ bad_file → ⊥
unfolding last_number left
last-good [] st n h good e = h e
last-good (q ∷ qs) st n h good e = last-good qs (answer st q).after (answer st q).number (good [] q) (λ rs r. good (q ∷ rs) r) e

module _ (st : State) (marks : List ℕ) (o : (open_file st marks).outcome.number ≡ done) (cs : List Turn) where
  abbrev opened : State
  opened = (open_file st marks).outcome.after

  abbrev here : State
  here = left_by opened cs

  run-good : (qs : List Request) (n : ℕ) → (n ≡ bad_file → ⊥) → last_number here qs n ≡ bad_file → ⊥
  run-good qs n h e =
      let ys = expand opened cs in
      let l = sym (number-blind here.work n qs (left opened ys)) ∙ ap (λ (x : State). last_number x qs n) (sym (run-state cs opened)) in
      last-good qs (left opened ys) n h
      (λ rs q b. second.never-bad st marks o (ys ++ rs) q (ap (λ (x : State). (answer x q).number) (left_after ys rs opened) ∙ b)) (l ∙ e)

  calls-good : (q : Request) → (answer here q).number ≡ bad_file → ⊥
  unfolding last_number
  calls-good q = run-good (q ∷ []) done (λ e. omega arith)

  trays-good : (t : List ℕ) → (nsert_tray here t).number ≡ bad_file → ⊥
  trays-good t e = go (sized (desc here) (length here.file) (length here.buffer) && matches (desc here) t) here.session.opened refl refl
    where
      number_is : (x : TrayOutcome) → nsert_tray here t ≡ x → x.number ≡ bad_file
      number_is x h = ap (λ (z : TrayOutcome). z.number) (sym h) ∙ e

      go : (a c : Bool) → sized (desc here) (length here.file) (length here.buffer) && matches (desc here) t ≡ a → here.session.opened ≡ c → ⊥
      go false c h k = let b = number_is _ (wrong_size_lem here t h) in omega arith
      go true false h k = let b = number_is _ (closed here t h k) in omega arith
      go true true h k =
          let rs = records_of (desc here) t in
          run-good (singles (tried here rs)) done (λ z. omega arith) (sym (inserts-made rs here done).number ∙ number_is _ (made here t h k))

pub never-bad-with-trays : NeverBadWithTrays
never-bad-with-trays st marks o cs = record { calls = calls-good st marks o cs; trays = trays-good st marks o cs }

pub formula-with-trays : FormulaWithTrays
formula-with-trays session f buffer work marks c o cs =
    let opened = (open_file (lent session (create session.desc f).file buffer work) marks).outcome.after in
    let w = third.formula session f buffer work marks c o (expand opened cs) in
    let e = same-run opened cs in
    let m = e.records in
    let t = w.transfers in
    let n = e.transfers in
    let k = e.shares in
    record {
      splits = subst (λ (z : ℕ). h_d (desc opened) * S opened (expand opened cs) ≤ z) (sym m) w.splits;
      starts = subst (λ (z : ℕ). FD (desc opened) * X opened (expand opened cs) ≤ z) (sym m) w.starts;
      index-splits = w.index-splits;
      index-starts = w.index-starts;
      transfers = omega arith;
    }

pub plan-with-trays : PlanWithTrays
plan-with-trays session f buffer work marks c o cs plan keeps =
    let opened = (open_file (lent session (create session.desc f).file buffer work) marks).outcome.after in
    let h = third.plans session f buffer work marks c o (expand opened cs) plan keeps in
    subst (λ (z : ℕ). z ≤ planned (desc opened) plan) (sym (same-run opened cs).transfers) h
