-- Where rows begin: products that `omega` does not know.
use mathlib.Core.Path.{◌≡◌}
use Prim.Native.Nat.{ℕ, ◌+◌, ◌*◌, ◌≤◌, ◌<◌}
use native.Mathlib.Nat.{mul-le-mul_right, suc-mul}
use native.Mathlib.Numerals.{add-one}

pub row-le : (i n s : ℕ) → i ≤ n → i * s ≤ n * s
row-le i n s h = mul-le-mul_right s h

pub row_lt : (i n s : ℕ) → i < n → i * s + s ≤ n * s
row_lt i n s h = rw suc-mul at (mul-le-mul_right s h)

pub row_next : (i s : ℕ) → (i + 1) * s ≡ i * s + s
row_next i s = rw (add-one, suc-mul)
