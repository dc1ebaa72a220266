-- A move up and a copy open a table, and a move down and zeros close one.
use mathlib.Core.Path.{◌≡◌}
use mathlib.Core.List.{List}
use Prim.Native.Nat.{ℕ, ◌+◌, ◌-◌, ◌≤◌}
use native.Mathlib.Omega.{arith}
use lib.ListN.{length, set}
use Rattle.words.specs.Words.{part, put, zeros}
use Rattle.words.proofs.Parts.{put-before, put-after, length_part}
use Rattle.table.specs.declared.Shape.{Shape}
use Rattle.table.specs.Tables.{count, place, opened, closed, inserted, removed}

pub opened-by : (t t₁ t₂ row : List ℕ) (a e from n : ℕ) → t₂ ≡ put t₁ a (part from n row) → t₁ ≡ put t (a + n) (part a (e - a) t)
    → from + n ≤ length row → a ≤ e → e + n ≤ length t → t₂ ≡ opened t a e (part from n row)
unfolding opened
opened-by t t₁ t₂ row a e from n q p l h h' =
    let k = length_part from n row l in
    let m : a + n ≡ a + length (part from n row) = omega arith in
    rw (q, p, m) (put-before t a (part from n row) (part a (e - a) t) (omega arith))

pub closed-by : (t t₁ t₂ : List ℕ) (a e n : ℕ) → t₂ ≡ put t₁ (e - n) (zeros n) → t₁ ≡ put t a (part (a + n) (e - a - n) t) → a + n ≤ e → e ≤ length t
    → t₂ ≡ closed t a e n
unfolding closed
closed-by t t₁ t₂ a e n q p h h' =
    let k : e - a - n ≡ e - (a + n) = omega arith in
    let l : length (part (a + n) (e - (a + n)) t) ≡ e - (a + n) = length_part (a + n) (e - (a + n)) t (omega arith) in
    let m : e - n ≡ a + length (part (a + n) (e - (a + n)) t) = omega arith in
    rw (q, p, k, m) (put-after t a (part (a + n) (e - (a + n)) t) (zeros n) (omega arith))

-- a row put in and counted, a row taken out and counted off: n the count as the code read it, the row at word a and the end at word e
module _ (h : Shape) (i n a e : ℕ) (t t₁ t₂ : List ℕ) (en : n ≡ count h t) (ha : a ≡ place h i) (he : e ≡ place h n) where
  pub inserted_by : (r : List ℕ) → t₂ ≡ set t₁ 0 (h.tag + (n + 1)) → t₁ ≡ opened t a e r → t₂ ≡ inserted h i r t
  unfolding inserted
  inserted_by r e₂ e₁ = rw (e₂, e₁, ha, he, en)

  pub removed-by : t₂ ≡ set t₁ 0 (h.tag + (n - 1)) → t₁ ≡ closed t a e h.stride → t₂ ≡ removed h i t
  unfolding removed
  removed-by e₂ e₁ = rw (e₂, e₁, ha, he, en)
