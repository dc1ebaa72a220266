-- The call as a whole: the fresh file opens with the records carried, and what it costs.
use mathlib.Core.Path.{◌≡◌, refl, sym, ap, ◌∙◌, subst}
use mathlib.Core.Bool.{Bool, true, false, cond}
use mathlib.Core.List.{List, [], ◌∷◌, ◌++◌, map}
use Prim.Native.Nat.{ℕ, ◌+◌, ◌*◌}
use native.Mathlib.Omega.{arith}
use lib.ListN.{length}
use Rattle.numbers.specs.Numbers.{done, wrong_size}
use Rattle.numbers.specs.Checked.{Checked, passed, refused}
use Rattle.drum.specs.declared.Description.{Description}
use Rattle.layout.specs.Create.{end_record}
use Rattle.rules.specs.State.{State, Outcome, desc, lent}
use Rattle.rules.specs.Checks.{sizes_ok, is_open}
use Rattle.rules.specs.Close.{close_checks, close_done, close}
use Rattle.rules.specs.Requests.{inserting, opening, closing, lending, answer, left, tally}
use Rattle.demands.specs.History.{stored}
use Rattle.demands.specs.Contents.{changed, Contains}
use Rattle.demands.specs.Durable.{ClosesBy}
use Rattle.demands.specs.Formula.{of_xtend, started_new, share, new_details, new_indexes, X, x, shares, all_transfers, Within}
use Rattle.demands.proofs.Durable.{closed-stands}
use Rattle.demands.proofs.Demands.{session-formula}
use Rattle.salvage.specs.Met.{met}
use Rattle.salvage.specs.Salvage.{Walk, Salvaging, run, begun, ended, roomy, salvage}
use Rattle.salvaged.specs.Spots.{Spot, spots_of, rows_of, inserts, started, carried_of}
use Rattle.salvaged.specs.Carried.{SalvageOpens, SalvageCost}
use Rattle.salvaged.proofs.Runs.{left-stays, from-open, from-create, contains, state_of, ran}
use Rattle.salvaged.proofs.Carried.{described}

-- ---- a call that is not refused

picks : (a b : Salvaging) (c : Bool) → b.number ≡ wrong_size → (cond c a b).number ≡ done → cond c a b ≡ a
picks a b true w h = refl
picks a b false w h = absurd (omega arith)

pub called : (p : Description) (copy fresh buffer report : List ℕ) → (salvage p copy fresh buffer report).number ≡ done
    → salvage p copy fresh buffer report ≡ ended (run (begun p buffer report) (met p copy))
unfolding salvage
called p copy fresh buffer report h = picks _ _ (roomy p (length copy) (length fresh) (length buffer) (length report)) refl h

pub starts : (p : Description) (buffer report : List ℕ) → (state_of (begun p buffer report) ≡ started p buffer) × ((begun p buffer report).session.desc ≡ p)
    × ((begun p buffer report).transfers ≡ 0) × ((begun p buffer report).lines ≡ 0) × ((begun p buffer report).report ≡ report)
unfolding begun started
starts p buffer report = (refl, refl, refl, refl, refl)

-- CLOSE does not look at the workspace
close-lent : (st : State) → ((close (lending [] st)).after.file ≡ (close st).after.file) × (length (close (lending [] st)).transfers ≡ length (close st).transfers)
unfolding close close_checks close_done sizes_ok is_open lending
close-lent st = go (close_checks st)
  where
    go : (c : Checked Bool) → ((close_done (lending [] st) c).after.file ≡ (close_done st c).after.file) × (length (close_done (lending [] st) c).transfers ≡ length (close_done st c).transfers)
    go (refused n) = (refl, refl)
    go (passed b) = (refl, refl)

module _ (p : Description) (copy fresh buffer report : List ℕ) (h : (salvage p copy fresh buffer report).number ≡ done) where
  abbrev end : State
  end = left (started p buffer) (inserts (spots_of p copy))

  abbrev walk : Walk
  walk = run (begun p buffer report) (met p copy)

  state-is : state_of walk ≡ lending [] end
  state-is =
      (ran p (met p copy) (begun p buffer report) (starts p buffer report).1).state
      ∙ ap (λ (u : State). lending [] (left u (inserts (spots_of p copy)))) (starts p buffer report).0

  fresh-is : (salvage p copy fresh buffer report).fresh ≡ (answer end closing).after.file
  unfolding ended answer
  fresh-is = ap (λ (o : Salvaging). o.fresh) (called p copy fresh buffer report h) ∙ ap (λ (u : State). (close u).after.file) state-is ∙ (close-lent end).0

  cost-is : (salvage p copy fresh buffer report).transfers ≡ all_transfers (started p buffer) (inserts (spots_of p copy)) + length (answer end closing).transfers
  unfolding ended answer
  cost-is =
      let k = ran p (met p copy) (begun p buffer report) (starts p buffer report).1 in
      let t : walk.transfers ≡ all_transfers (started p buffer) (inserts (spots_of p copy))
      = omega (arith, k.transfers, (starts p buffer report).2, ap (λ (u : State). all_transfers u (inserts (spots_of p copy))) (starts p buffer report).0) in
      let c : length (close (state_of walk)).transfers ≡ length (close end).transfers = ap (λ (u : State). length (close u).transfers) state-is ∙ (close-lent end).1 in
      ap (λ (o : Salvaging). o.transfers) (called p copy fresh buffer report h) ∙ λ j. t j + c j

-- ---- it opens

pub salvage-opens : SalvageOpens
unfolding started begun
salvage-opens p copy fresh buffer report l h session b work marks d o lb lm =
    let xs = spots_of p copy in
    let u = left (started p buffer) (inserts xs) in
    let q = described p buffer l.good l.buffer-is xs in
    let c = from-open p buffer l.good l.buffer-is (ClosesBy answer) closed-stands (inserts xs) in
    let rows = changed p (map stored (rows_of (carried_of (started p buffer) xs))) (end_record p ∷ []) in
    subst (λ (f : List ℕ). ((answer (lent session f b work) (opening marks)).number ≡ done) × Contains (answer (lent session f b work) (opening marks)).after rows)
    (sym (fresh-is p copy fresh buffer report h))
    (c.stands rows (contains p buffer l.good l.buffer-is xs) (c.answers (left-stays xs (started p buffer)).opened) session b work marks (d ∙ sym q) o
    (lb ∙ ap (λ (z : Description). z.wpb) (sym q)) (lm ∙ ap (λ (z : Description). z.n) (sym q)))

-- ---- its cost

no-xtend : (f : State → Outcome → ℕ) (xs : List Spot) (st : State)
    → tally (λ before q o. started_new (f before o) q before o.after) st (inserts xs ++ closing ∷ []) ≡ 0
unfolding tally started_new of_xtend
no-xtend f [] st = refl
no-xtend f (s ∷ xs) st = let e = no-xtend f xs (answer st (inserting s.row)).after in omega arith

shares-are : (xs : List Spot) (st : State) → shares st (inserts xs ++ closing ∷ []) ≡ 3 * length xs + 1
unfolding shares tally share
shares-are [] st = refl
shares-are (s ∷ xs) st = let e = shares-are xs (answer st (inserting s.row)).after in omega arith

sum_is : (xs : List Spot) (st : State)
    → all_transfers st (inserts xs ++ closing ∷ []) ≡ all_transfers st (inserts xs) + length (answer (left st (inserts xs)) closing).transfers
unfolding all_transfers tally left
sum_is [] st = omega arith
sum_is (s ∷ xs) st = let e = sum_is xs (answer st (inserting s.row)).after in omega arith

pub salvage-cost : SalvageCost
unfolding X x
salvage-cost p copy fresh buffer report l h =
    let xs = spots_of p copy in
    let st = started p buffer in
    let w = from-create p buffer l.good l.buffer-is Within session-formula (inserts xs ++ closing ∷ []) in
    let t = w.transfers in
    omega (arith, cost-is p copy fresh buffer report h, sum_is xs st, shares-are xs st, no-xtend new_details xs st, no-xtend new_indexes xs st)
