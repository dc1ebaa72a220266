-- A line of the report: three words, written one by one.
use mathlib.Core.Path.{◌≡◌, ap, ◌∙◌}
use mathlib.Core.List.{List, [], ◌∷◌}
use Prim.Native.Nat.{ℕ, ◌+◌, ◌*◌, ◌≤◌}
use native.Mathlib.Omega.{arith}
use lib.ListN.{length, set}
use Rattle.words.specs.Words.{put}
use Rattle.words.proofs.Parts.{set-put, put-snoc}

module _ (l : List ℕ) (a b i r : ℕ) (room : a + 3 ≤ length l) where
  three-put : set (set (set l a b) (a + 1) i) (a + 2) r ≡ put l a (b ∷ i ∷ r ∷ [])
  three-put =
      ap (λ (z : List ℕ). set (set z (a + 1) i) (a + 2) r) (set-put l a b (omega arith))
      ∙ ap (λ (z : List ℕ). set z (a + 2) r) (put-snoc l a (b ∷ []) i (omega arith))
      ∙ put-snoc l a (b ∷ i ∷ []) r (omega arith)

pub line-put : (l l₁ l₂ l₃ : List ℕ) (n a b i r : ℕ) → l₃ ≡ set l₂ (a + 2) r → l₂ ≡ set l₁ (a + 1) i → l₁ ≡ set l a b → a ≡ 3 * n → 3 * (n + 1) ≤ length l
    → l₃ ≡ put l (3 * n) (b ∷ i ∷ r ∷ [])
line-put l l₁ l₂ l₃ n a b i r e₃ e₂ e₁ is room =
    e₃ ∙ ap (λ (z : List ℕ). set z (a + 2) r) e₂ ∙ ap (λ (z : List ℕ). set (set z (a + 1) i) (a + 2) r) e₁
    ∙ three-put l a b i r (omega arith) ∙ ap (λ (x : ℕ). put l x (b ∷ i ∷ r ∷ [])) is
