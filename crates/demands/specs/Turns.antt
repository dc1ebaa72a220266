-- A run of calls as a caller sees it: of each call the request, the number and the count of transfers given back, and the state left. Demand 3
-- over such a run, for every way in which a caller may be told these. Nothing is proved here.
use Rattle.std.specs.Prelude.{ℕ, ◌+◌, ◌-◌, ◌*◌, ◌≤◌, cond, List, [], ◌∷◌, length}
use Rattle.numbers.specs.Numbers.{accepted}
use Rattle.drum.specs.Params.{FD, FI}
use Rattle.rules.specs.State.{State, Outcome, desc}
use Rattle.rules.specs.Requests.{Request, answer}
use Rattle.demands.specs.Formula.{h_d, h_i, detail_blocks, index_blocks, of_nsert, of_xtend, split_off, started_new, share}

-- one call of a run
pub record Turn : Type 0 where
  pub request : Request
  pub number : ℕ
  pub count : ℕ
  pub after : State

-- an outcome as a caller sees it: "Each result carries its count, which is the length of the list"
abbrev pub turn : Request → Outcome → Turn
turn q o = record { request = q; number = o.number; count = length o.transfers; after = o.after }

-- the turns that the rules say, "each given what the last left"
unfoldable pub turns : State → List Request → List Turn
turns st [] = []
turns st (q ∷ qs) = let o = answer st q in turn q o ∷ turns o.after qs

-- the state that a run leaves
unfoldable pub ended : State → List Turn → State
ended st [] = st
ended st (t ∷ ts) = ended t.after ts

-- a number of each turn, summed: of the state it was given, and the turn
unfoldable pub sum : (State → Turn → ℕ) → State → List Turn → ℕ
sum value st [] = 0
sum value st (t ∷ ts) = value st t + sum value t.after ts

-- 1 where the number is 0 or 070001: "stored"; how many more detail blocks and index blocks are in use, 0 where there are fewer
abbrev pub stored : Turn → ℕ
stored t = cond (accepted t.number) 1 0

-- how many more detail blocks are in use, 0 where there are fewer [F2]
abbrev pub more_details : State → Turn → ℕ
more_details before t = detail_blocks t.after - detail_blocks before

-- how many more index blocks [F2]
abbrev pub more_indexes : State → Turn → ℕ
more_indexes before t = index_blocks t.after - index_blocks before

module _ (st : State) (ts : List Turn) where
  -- "Let M be records accepted by NSERT and XTEND"
  unfoldable pub M : ℕ
  M = sum (λ before t. of_nsert (stored t) t.request + of_xtend (stored t) t.request) st ts

  -- "S, s detail and index splits by NSERT", and of an XTEND that stores as NSERT does "Such splits count in S and s" [F2, E5]
  unfoldable pub S : ℕ
  S = sum (λ before t. split_off (more_details before t) t.request before t.after) st ts

  -- index splits by NSERT, and by such an XTEND [F2, E5]
  unfoldable pub s : ℕ
  s = sum (λ before t. split_off (more_indexes before t) t.request before t.after) st ts

  -- "X, x detail and index blocks started by XTEND"
  unfoldable pub X : ℕ
  X = sum (λ before t. started_new (more_details before t) t.request before t.after) st ts

  -- index blocks started by XTEND [F2]
  unfoldable pub x : ℕ
  x = sum (λ before t. started_new (more_indexes before t) t.request before t.after) st ts

  -- "the sum of transfers", and "calls counted whether refused or not"
  unfoldable pub counts : ℕ
  counts = sum (λ before t. t.count) st ts

  -- the calls' shares, summed [F4]
  unfoldable pub shares : ℕ
  shares = sum (λ before t. share t.request) st ts

-- "hD·S ≤ M, FD·X ≤ M, hI·s ≤ S+X, FI·x ≤ S+X, and the sum of transfers is at most .. + 4·(S+X) + s + x"
pub record Formula (st : State) (ts : List Turn) : Type 0 where
  pub splits : h_d (desc st) * S st ts ≤ M st ts
  pub starts : FD (desc st) * X st ts ≤ M st ts
  pub index-splits : h_i (desc st) * s st ts ≤ S st ts + X st ts
  pub index-starts : FI (desc st) * x st ts ≤ S st ts + X st ts
  pub transfers : counts st ts ≤ shares st ts + 4 * (S st ts + X st ts) + s st ts + x st ts
