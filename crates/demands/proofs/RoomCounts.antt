-- The arithmetic of room: how many blocks the records of a file filled by XTEND take, by how full its last block and its last section are.
use Prim.Native.Nat.{ℕ, ◌+◌, ◌*◌, ◌-◌, ◌/◌, ◌≤◌, ◌<◌}
use mathlib.Core.Bool.{Bool, true, false, ◌&&◌}
use mathlib.Core.Logic.{◌⊎◌, inl, inr}
use mathlib.Core.Path.{◌≡◌, sym, ap, ◌∙◌, subst}
use native.Mathlib.Omega.{arith}
use native.Mathlib.Nat.{div-eq_of_lt-le}
use native.Mathlib.Decide.{dec_le}
use lib.Dec.{leb}
use borrow.Author.Tests.{le-leb, lt-leb}
use Rattle.drum.specs.declared.Description.{Description}
use Rattle.drum.specs.Params.{FD, FI}
use Rattle.demands.specs.Room.{has_room, StoredIf}

-- n full ones and one of r, fewer than m
quotient : (n m r total : ℕ) → r < m → total ≡ n * m + r → total / m ≡ n
quotient n m r total less e = div-eq_of_lt-le m (omega arith) (omega arith)

-- the number of records with the new one, n full blocks and r in the last; and n + 1 blocks, x full sections and s blocks in the last
module _ (p : Description) (n r total x s : ℕ) (e : total ≡ n * FD p + r) (le : n + 1 ≡ x * FI p + s) where
  -- the last block has room
  pub same-room : r < FD p → 1 ≤ s → s ≤ FI p → has_room p total ≡ leb (1 + n + (1 + x)) p.n && leb (1 + x) p.control
  unfolding has_room
  same-room less some most =
      let d : total / FD p ≡ n = quotient n (FD p) r total less e in
      let i : n / FI p ≡ x = quotient x (FI p) (s - 1) n (omega arith) (omega arith) in
      ap (λ (k : ℕ). leb (1 + k + (1 + k / FI p)) p.n && leb (1 + k / FI p) p.control) d ∙ ap
      (λ (k : ℕ). leb (1 + n + (1 + k)) p.n && leb (1 + k) p.control) i

  -- it is full, and so is, or is not, the last section
  pub next-room : r ≡ FD p → 1 ≤ FD p → s < FI p → has_room p total ≡ leb (1 + (n + 1) + (1 + x)) p.n && leb (1 + x) p.control
  unfolding has_room
  next-room full some less =
      let d : total / FD p ≡ n + 1 = quotient (n + 1) (FD p) 0 total some (omega arith) in
      let i : (n + 1) / FI p ≡ x = quotient x (FI p) s (n + 1) less le in
      ap (λ (k : ℕ). leb (1 + k + (1 + k / FI p)) p.n && leb (1 + k / FI p) p.control) d ∙ ap
      (λ (k : ℕ). leb (1 + (n + 1) + (1 + k)) p.n && leb (1 + k) p.control) i

  pub both-room : r ≡ FD p → 1 ≤ FD p → s ≡ FI p → 1 ≤ FI p → has_room p total ≡ leb (1 + (n + 1) + (1 + (x + 1))) p.n && leb (1 + (x + 1)) p.control
  unfolding has_room
  both-room full some most two =
      let d : total / FD p ≡ n + 1 = quotient (n + 1) (FD p) 0 total some (omega arith) in
      let i : (n + 1) / FI p ≡ x + 1 = quotient (x + 1) (FI p) 0 (n + 1) two (omega arith) in
      ap (λ (k : ℕ). leb (1 + k + (1 + k / FI p)) p.n && leb (1 + k / FI p) p.control) d ∙ ap
      (λ (k : ℕ). leb (1 + (n + 1) + (1 + k)) p.n && leb (1 + k) p.control) i

-- which of the two it is
pub stored-if : (t : Bool) (number : ℕ) (a b c d : ℕ) → t ≡ leb a b && leb c d → (a ≤ b → c ≤ d → StoredIf true number)
    → ((b < a) ⊎ (d < c) → StoredIf false number) → StoredIf t number
stored-if t number a b c d e yes-is no-is = subst (λ (u : Bool). StoredIf u number) (sym e) (go (dec_le a b) (dec_le c d))
  where
    go : Dec (a ≤ b) → Dec (c ≤ d) → StoredIf (leb a b && leb c d) number
    go (yes l) (yes m) = rw (le-leb a b l, le-leb c d m) (yes-is l m)
    go (yes l) (no m) = rw (le-leb a b l, lt-leb c d (omega arith)) (no-is (inr (omega arith)))
    go (no l) q = rw (lt-leb a b (omega arith)) (no-is (inl (omega arith)))
