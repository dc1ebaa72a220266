-- Three texts put one behind the other.
use Prim.Native.Nat.{ℕ, ◌≤◌}
use mathlib.Core.Path.{◌≡◌}
use mathlib.Core.List.{List, ◌++◌}
use native.Mathlib.Omega.{arith}
use lib.ListN.{length}
use Rattle.texts.proofs.Puts.{Written, written-length, written_then}

pub three-written : (l : List ℕ) (a : ℕ) (s l₁ : List ℕ) (e₁ : ℕ) (t l₂ : List ℕ) (e₂ : ℕ) (u l₃ : List ℕ) (e₃ : ℕ)
    → Written l a s l₁ e₁ → Written l₁ e₁ t l₂ e₂
    → Written l₂ e₂ u l₃ e₃ → e₃ ≤ length l → Written l a (s ++ (t ++ u)) l₃ e₃
three-written l a s l₁ e₁ t l₂ e₂ u l₃ e₃ v w x h =
    let n : length l₁ ≡ length l = written-length l a s l₁ e₁ v (omega arith) in
    written_then l a s l₁ e₁ (t ++ u) l₃ e₃ (omega arith) v (written_then l₁ e₁ t l₂ e₂ u l₃ e₃ (omega arith) w x)
