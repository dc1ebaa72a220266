-- "Demand 3 alone would pass the first": a routine that opens files and refuses all else meets demand 3, and demand 2 shuts it out. And demand 3 of `answer`.
use Prim.Native.Nat.{ℕ, ◌+◌, ◌-◌, ◌*◌}
use mathlib.Core.Bool.{Bool, true, false, cond}
use mathlib.Core.Path.{◌≡◌, refl, sym, ap}
use mathlib.Core.List.{List, [], ◌∷◌}
use native.Mathlib.Omega.{arith}
use lib.ListN.{length}
use Rattle.drum.specs.Params.{FD, FI}
use Rattle.rules.specs.State.{State, Outcome, desc, lent}
use Rattle.rules.specs.Open.{create}
use Rattle.rules.specs.Requests.{Request, opening, closing, seeking, advancing, inserting, deleting, updating, extending, lending, answer, tally}
use Rattle.demands.specs.Formula.{h_d, h_i, detail_blocks, index_blocks, new_details, new_indexes, starts_last, of_nsert, of_xtend, split_off, started_new, M}
use Rattle.demands.specs.Formula.{S, s, X, x, all_transfers, shares}
use Rattle.demands.specs.Formula.{Within}
use Rattle.demands.specs.Routines.{tally_by, MBy, SBy, s_by, XBy, x_by, transfers_by, shares_by, WithinBy, Demand3By}
use Rattle.demands.specs.WrongRoutines.{RefusesEverything, refuser, PassesAlone}
use Rattle.demands.proofs.Costs.{open_none}
use Rattle.demands.proofs.Demands.{session-formula}
use Rattle.demands.proofs.Refused.{impossible}
use Rattle.demands.proofs.WrongRoutines.{shuts-out}

tally-none : (value : State → Request → Outcome → ℕ) → ((st : State) (q : Request) → value st q (refuser st q) ≡ 0) → (qs : List Request) (st : State)
    → tally_by refuser value st qs ≡ 0
unfolding tally_by
tally-none value h [] st = refl
tally-none value h (q ∷ qs) st = omega (arith, h st q, tally-none value h qs (refuser st q).after)

no-transfers : (st : State) (q : Request) → length (refuser st q).transfers ≡ 0
unfolding refuser answer
no-transfers st (opening marks) = open_none st marks
no-transfers st closing = refl
no-transfers st (seeking w) = refl
no-transfers st (advancing w) = refl
no-transfers st (inserting w) = refl
no-transfers st (deleting w) = refl
no-transfers st (updating w) = refl
no-transfers st (extending w) = refl

-- it puts no block in use, split off or started: m counts the blocks in use of a kind
none-either : (t : Bool) (n : ℕ) → n ≡ 0 → (cond t 0 n ≡ 0) × (cond t n 0 ≡ 0)
none-either true n e = (refl, e)
none-either false n e = (e, refl)

module _ (m : State → ℕ) (same : (w : List ℕ) (st : State) → m (lending w st) ≡ m st) where
  no-splits : (st : State) (q : Request) → split_off (m (refuser st q).after - m st) q st (refuser st q).after ≡ 0
  unfolding refuser split_off of_nsert of_xtend
  no-splits st (opening marks) = refl
  no-splits st closing = refl
  no-splits st (seeking w) = refl
  no-splits st (advancing w) = refl
  no-splits st (inserting w) = omega (arith, same w st)
  no-splits st (deleting w) = refl
  no-splits st (updating w) = refl
  no-splits st (extending w) = omega (arith, (none-either (starts_last st (lending w st)) (m (lending w st) - m st) (omega (arith, same w st))).0)

  no-starts : (st : State) (q : Request) → started_new (m (refuser st q).after - m st) q st (refuser st q).after ≡ 0
  unfolding refuser started_new of_xtend
  no-starts st (opening marks) = refl
  no-starts st closing = refl
  no-starts st (seeking w) = refl
  no-starts st (advancing w) = refl
  no-starts st (inserting w) = refl
  no-starts st (deleting w) = refl
  no-starts st (updating w) = refl
  no-starts st (extending w) = (none-either (starts_last st (lending w st)) (m (lending w st) - m st) (omega (arith, same w st))).1

details-lent : (w : List ℕ) (st : State) → detail_blocks (lending w st) ≡ detail_blocks st
unfolding detail_blocks lending
details-lent w st = refl

indexes-lent : (w : List ℕ) (st : State) → index_blocks (lending w st) ≡ index_blocks st
unfolding index_blocks lending
indexes-lent w st = refl

times_none : (n m : ℕ) → m ≡ 0 → n * m ≡ 0
times_none n m e = rw e (omega arith)

refuser-within : Demand3By refuser
unfolding MBy SBy s_by XBy x_by transfers_by shares_by new_details new_indexes
refuser-within session f buffer work marks c o qs = within (refuser (lent session (create session.desc f).file buffer work) (opening marks)).after
  where
    within : (st : State) → WithinBy refuser st qs
    within st =
        let S : SBy refuser st qs ≡ 0 = tally-none _ (no-splits detail_blocks details-lent) qs st in
        let s : s_by refuser st qs ≡ 0 = tally-none _ (no-splits index_blocks indexes-lent) qs st in
        let X : XBy refuser st qs ≡ 0 = tally-none _ (no-starts detail_blocks details-lent) qs st in
        let x : x_by refuser st qs ≡ 0 = tally-none _ (no-starts index_blocks indexes-lent) qs st in
        let t : transfers_by refuser st qs ≡ 0 = tally-none _ no-transfers qs st in
        record {
          splits = omega (arith, times_none (h_d (desc st)) (SBy refuser st qs) S);
          starts = omega (arith, times_none (FD (desc st)) (XBy refuser st qs) X);
          index-splits = omega (arith, times_none (h_i (desc st)) (s_by refuser st qs) s);
          index-starts = omega (arith, times_none (FI (desc st)) (x_by refuser st qs) x);
          transfers = omega (arith, t);
        }

refuser-refuses : RefusesEverything refuser
unfolding refuser
refuser-refuses st w e = impossible (sym e)

-- it opens what a right routine opens, meets demand 3, and refuses every other call: demand 2 shuts it out
pub alone-passes : PassesAlone refuser
alone-passes = record { first = refuser-refuses; demand-3 = refuser-within; shut_out = λ d. (shuts-out refuser d).refuses-everything refuser-refuses }

-- ---- demand 3 of `answer` is the session formula

tally-is : (value : State → Request → Outcome → ℕ) (qs : List Request) (st : State) → tally_by answer value st qs ≡ tally value st qs
unfolding tally_by tally
tally-is value [] st = refl
tally-is value (q ∷ qs) st = ap (λ (n : ℕ). value st q (answer st q) + n) (tally-is value qs (answer st q).after)

within-is : (qs : List Request) (st : State) → Within st qs → WithinBy answer st qs
unfolding MBy SBy s_by XBy x_by transfers_by shares_by M S s X x all_transfers shares
within-is qs st w = record {
  splits = simp tally-is w.splits;
  starts = simp tally-is w.starts;
  index-splits = simp tally-is w.index-splits;
  index-starts = simp tally-is w.index-starts;
  transfers = simp tally-is w.transfers;
}

pub demand-3 : Demand3By answer
unfolding answer
demand-3 session f buffer work marks c o qs = within-is qs _ (session-formula session f buffer work marks c o qs)
