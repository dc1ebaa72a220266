-- A run that keeps to a plan costs no more transfers than `most_transfers` says of the plan.
use Prim.Native.Nat.{ℕ, ◌+◌, ◌*◌, ◌/◌, ◌≤◌, ◌<◌}
use mathlib.Core.Path.{◌≡◌, refl}
use mathlib.Core.Bool.{Bool, true, false, cond}
use mathlib.Core.List.{List, [], ◌∷◌}
use native.Mathlib.Omega.{arith}
use native.Mathlib.Nat.{le-div_iff_mul-le, mul_comm}
use Rattle.numbers.specs.Numbers.{accepted}
use Rattle.drum.specs.Params.{FD, FI, good_params}
use Rattle.drum.proofs.Good.{caps, good-facts}
use Rattle.rules.specs.State.{State, desc}
use Rattle.rules.specs.Requests.{Request, opening, closing, seeking, advancing, inserting, deleting, updating, extending, answer, tally}
use Rattle.demands.specs.declared.Plan.{Plan}
use Rattle.demands.specs.Formula.{h_d, h_i, accepted_by, of_nsert, of_xtend, share, M, S, s, X, x, all_transfers, shares, Within}
use Rattle.demands.specs.Planned.{plan_shares, plan_details, plan_indexes, planned, one_call, count_of, Keeps, PlanHolds, RecordsWithin}
use Rattle.demands.proofs.Within.{ran-within, ran-good}
use Rattle.demands.proofs.Demands.{after-create}

-- so many at a price of a, out of m or fewer
pub bought : (a n m most : ℕ) → 0 < a → a * n ≤ m → m ≤ most → n ≤ most / a
bought a n m most p h l = (le-div_iff_mul-le p).1 (omega (arith, mul_comm a n))

-- the shares of a run, kind by kind
shares-are : (st : State) (qs : List Request)
    → shares st qs
    ≡ 3 * (count_of (λ c. c.seeks) qs + count_of (λ c. c.updats) qs + count_of (λ c. c.nserts) qs)
    + 5 * count_of (λ c. c.advs) qs
    + 6 * count_of (λ c. c.dletes) qs
    + 6 * count_of (λ c. c.xtends) qs
    + count_of (λ c. c.closes) qs
unfolding shares tally count_of share one_call plan_shares
shares-are st [] = refl
shares-are st (q ∷ qs) = omega (arith, shares-are (answer st q).after qs, one q)
  where
    one : (r : Request) → share r ≡ plan_shares (one_call r)
    one (opening marks) = refl
    one closing = refl
    one (seeking w) = refl
    one (advancing w) = refl
    one (inserting w) = refl
    one (deleting w) = refl
    one (updating w) = refl
    one (extending w) = refl

pub records-within : RecordsWithin
unfolding M tally count_of of_nsert of_xtend one_call accepted_by
records-within st [] = omega arith
records-within st (q ∷ qs) = omega (arith, records-within (answer st q).after qs, one q)
  where
    most : (t : Bool) → cond {A = ℕ} t 1 0 ≤ 1
    most true = omega arith
    most false = omega arith

    one : (r : Request) → of_nsert (accepted_by (answer st q)) r + of_xtend (accepted_by (answer st q)) r ≤ (one_call r).nserts + (one_call r).xtends
    one (opening marks) = omega arith
    one closing = omega arith
    one (seeking w) = omega arith
    one (advancing w) = omega arith
    one (inserting w) = omega (arith, most (accepted (answer st q).number))
    one (deleting w) = omega arith
    one (updating w) = omega arith
    one (extending w) = omega (arith, most (accepted (answer st q).number))

module _ (plan : Plan) (st : State) (qs : List Request) (h : Within st qs) (k : Keeps plan st qs)
    (good : good_params (desc st) ≡ true) where
  a : 0 < h_d (desc st)
  unfolding h_d
  a = let g = good-facts (desc st) good in omega arith

  c : 0 < h_i (desc st)
  unfolding h_i
  c = let g = good-facts (desc st) good in omega arith

  b : 0 < FD (desc st)
  b = let g = caps (desc st) good in omega arith

  d : 0 < FI (desc st)
  d = let g = caps (desc st) good in omega arith

  details-few : S st qs + X st qs ≤ plan_details (desc st) plan
  unfolding plan_details
  details-few =
      let u = bought (h_d (desc st)) (S st qs) (M st qs) plan.records a h.splits k.records in
      let v = bought (FD (desc st)) (X st qs) (M st qs) plan.records b h.starts k.records in
      omega arith

  indexes-few : s st qs + x st qs ≤ plan_indexes (desc st) plan
  unfolding plan_indexes
  indexes-few =
      let u = bought (h_i (desc st)) (s st qs) (S st qs + X st qs) (plan_details (desc st) plan) c h.index-splits details-few in
      let v = bought (FI (desc st)) (x st qs) (S st qs + X st qs) (plan_details (desc st) plan) d h.index-starts details-few in
      omega arith

  calls-few : shares st qs ≤ plan_shares plan
  unfolding plan_shares
  calls-few = omega (arith, shares-are st qs, k.seeks, k.updats, k.nserts, k.advs, k.dletes, k.xtends, k.closes)

  cost : all_transfers st qs ≤ planned (desc st) plan
  unfolding planned
  cost = omega (arith, h.transfers, calls-few, details-few, indexes-few)

pub plan-holds : PlanHolds
plan-holds = after-create (λ (st : State) (qs : List Request). (plan : Plan) → Keeps plan st qs → all_transfers st qs ≤ planned (desc st) plan) λ st qs r plan k.
    cost plan st qs (ran-within st qs r) k (ran-good st qs r)
