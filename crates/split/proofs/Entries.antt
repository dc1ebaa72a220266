-- An entry made of a key and a block's number.
use mathlib.Core.Path.{◌≡◌, ap, ◌∙◌}
use mathlib.Core.List.{List, [], ◌∷◌, ◌++◌}
use Prim.Native.Nat.{ℕ, ◌+◌, ◌≤◌}
use native.Mathlib.Omega.{arith}
use lib.ListN.{length, set, length-append}
use Rattle.words.specs.Words.{part, put}
use Rattle.words.proofs.Parts.{length_part, put-snoc, part-put}

-- an entry, by a copy and a store
pub entry-by : (r r₁ r₂ t : List ℕ) (at k b : ℕ) → k + 1 ≤ length r → at + k ≤ length t → r₁ ≡ put r 0 (part at k t) → r₂ ≡ set r₁ k b
    → part 0 (k + 1) r₂ ≡ part at k t ++ (b ∷ [])
entry-by r r₁ r₂ t at k b h h' p q =
    let n : length (part at k t) ≡ k = length_part at k t h' in
    let n₀ : k ≡ 0 + length (part at k t) = omega arith in
    let e : r₂ ≡ put r 0 (part at k t ++ (b ∷ [])) = q ∙ ap (λ (z : List ℕ). set z k b) p ∙ ap (λ (j : ℕ). set (put r 0 (part at k t)) j b) n₀
    ∙ put-snoc r 0 (part at k t) b (omega arith) in
    let m : length (part at k t ++ (b ∷ [])) ≡ k + 1 = simp length-append (omega arith) in
    rw (e, ← m) (part-put r 0 (part at k t ++ (b ∷ [])) (omega arith))
