-- Laws of the lines: words after spaces, and the parts of a line put together.
use mathlib.Core.Path.{◌≡◌}
use mathlib.Core.List.{List, [], ◌∷◌, ◌++◌}
use Prim.Native.Nat.{ℕ, ◌+◌, ◌≤◌, ◌<◌}
use native.Mathlib.Numerals.{add-one}
use native.Mathlib.Omega.{arith}
use lib.ListN.{length, get_or, set, drop}
use lib.Seq.{drop-cons, drop-length}
use Rattle.texts.specs.Texts.{places, decimal, listed}
use Rattle.texts.proofs.Puts.{Written, written_byte, written-length, written_then, written-left}
use Rattle.texts.proofs.Digits.{length_digits}

pub length-decimal : (n : ℕ) → length (decimal n) ≡ places 19 n
unfolding decimal
length-decimal n = length_digits 10 (places 19 n) n

-- a turn of the loop that writes words after spaces: those from word i on are to go
pub listed-turn : (l : List ℕ) (end : ℕ) (words w : List ℕ) (g i x : ℕ) (m : List ℕ) (e : ℕ) → Written l end (listed (drop i words)) w g → i < length words → x ≡ get_or words i 0
    → Written l end (32 ∷ decimal x) m e → e ≤ length l → Written m e (listed (drop (i + 1) words)) w g
unfolding listed
listed-turn l end words w g i x m e v h q d r =
    let u : Written l end ((32 ∷ decimal x) ++ listed (drop (i + 1) words)) w g = rw (q, add-one) (rw (drop-cons words i 0 h) at v) in
    written-left l end (32 ∷ decimal x) m e (listed (drop (i + 1) words)) w g (omega arith) d u

pub listed-done : (i : ℕ) (words : List ℕ) → i ≡ length words → listed (drop i words) ≡ []
unfolding listed
listed-done i words e = rw (e, drop-length)

-- a name, a number, a count, words, and the line's end
pub line-written : (l : List ℕ) (a : ℕ) (name l₁ : List ℕ) (e₁ : ℕ) (number l₂ : List ℕ) (e₂ : ℕ) (count l₃ : List ℕ) (e₃ : ℕ) (words l₄ : List ℕ) (e₄ : ℕ) → Written l a name l₁ e₁
    → Written l₁ e₁ number l₂ e₂ → Written l₂ e₂ count l₃ e₃ → Written l₃ e₃ words l₄ e₄ → e₄ < length l
    → Written l a (name ++ (number ++ ((count ++ words) ++ (10 ∷ [])))) (set l₄ e₄ 10) (e₄ + 1)
line-written l a name l₁ e₁ number l₂ e₂ count l₃ e₃ words l₄ e₄ w₁ w₂ w₃ w₄ h =
    let n₁ : length l₁ ≡ length l = written-length l a name l₁ e₁ w₁ (omega arith) in
    let n₂ : length l₂ ≡ length l₁ = written-length l₁ e₁ number l₂ e₂ w₂ (omega arith) in
    let v₄ : Written l₂ e₂ (count ++ words) l₄ e₄ = written_then l₂ e₂ count l₃ e₃ words l₄ e₄ (omega arith) w₃ w₄ in
    let n₄ : length l₄ ≡ length l₂ = written-length l₂ e₂ (count ++ words) l₄ e₄ v₄ (omega arith) in
    let v₅ = written_then l₂ e₂ (count ++ words) l₄ e₄ (10 ∷ []) _ _ (omega arith) v₄ (written_byte l₄ e₄ 10 (omega arith)) in
    written_then l a name l₁ e₁ _ _ _ (omega arith) w₁ (written_then l₁ e₁ number l₂ e₂ _ _ _ (omega arith) w₂ v₅)
