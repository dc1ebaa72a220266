-- The turns that the rules say keep to the session formula, since its sums over them are its sums over the requests.
use Prim.Native.Nat.{ℕ, ◌+◌}
use mathlib.Core.Path.{◌≡◌, refl, ap}
use mathlib.Core.List.{List, [], ◌∷◌}
use Rattle.rules.specs.State.{State}
use Rattle.rules.specs.Requests.{Request, answer, left, tally}
use Rattle.demands.specs.Formula as rule
use Rattle.demands.specs.Turns.{Turn, turn, turns, ended, sum, M, S, s, X, x, counts, shares, Formula}

-- the state that they leave
pub turns-leave : (qs : List Request) (st : State) → ended st (turns st qs) ≡ left st qs
unfolding ended turns left
turns-leave [] st = refl
turns-leave (q ∷ qs) st = turns-leave qs (answer st q).after

-- a sum over them
turns-sum : (value : State → Turn → ℕ) (qs : List Request) (st : State) → sum value st (turns st qs) ≡ tally (λ before q o. value before (turn q o)) st qs
unfolding sum turns tally
turns-sum value [] st = refl
turns-sum value (q ∷ qs) st = ap (λ (n : ℕ). value st (turn q (answer st q)) + n) (turns-sum value qs (answer st q).after)

module _ (st : State) (qs : List Request) where
  pub M-is : M st (turns st qs) ≡ rule.M st qs
  unfolding M rule.M rule.accepted_by
  M-is = turns-sum _ qs st

  S-is : S st (turns st qs) ≡ rule.S st qs
  unfolding S rule.S rule.new_details
  S-is = turns-sum _ qs st

  s-is : s st (turns st qs) ≡ rule.s st qs
  unfolding s rule.s rule.new_indexes
  s-is = turns-sum _ qs st

  X-is : X st (turns st qs) ≡ rule.X st qs
  unfolding X rule.X rule.new_details
  X-is = turns-sum _ qs st

  x-is : x st (turns st qs) ≡ rule.x st qs
  unfolding x rule.x rule.new_indexes
  x-is = turns-sum _ qs st

  pub counts-are : counts st (turns st qs) ≡ rule.all_transfers st qs
  unfolding counts rule.all_transfers
  counts-are = turns-sum _ qs st

  pub shares-are : shares st (turns st qs) ≡ rule.shares st qs
  unfolding shares rule.shares
  shares-are = turns-sum _ qs st

  pub turns-formula : rule.Within st qs → Formula st (turns st qs)
  turns-formula w =
      record {
        splits = rw (S-is, M-is) w.splits;
        starts = rw (X-is, M-is) w.starts;
        index-splits = rw (s-is, S-is, X-is) w.index-splits;
        index-starts = rw (x-is, S-is, X-is) w.index-starts;
        transfers = rw (counts-are, shares-are, S-is, X-is, s-is, x-is) w.transfers;
      }
