-- Laws of bytes written one after the other.
use mathlib.Core.Path.{◌≡◌, refl, sym, ◌∙◌}
use mathlib.Core.List.{List, [], ◌∷◌, ◌++◌}
use Prim.Native.Nat.{ℕ, ◌+◌, ◌≤◌, ◌<◌}
use native.Mathlib.Omega.{arith}
use lib.ListN.{length, set, length-append}
use Rattle.words.specs.Words.{put}
use Rattle.words.proofs.Parts.{put-after, put-before, set-put, length-put}

-- a byte stored behind the place of what is written next
pub put_last : (l : List ℕ) (a : ℕ) (s : List ℕ) (x : ℕ) → a + length s < length l → put (set l (a + length s) x) a s ≡ put l a (s ++ (x ∷ []))
put_last l a s x h = rw (set-put l (a + length s) x h) (put-before l a s (x ∷ []) (omega arith))

-- m is l with s written from a on, and e is the place behind s
abbrev pub Written : List ℕ → ℕ → List ℕ → List ℕ → ℕ → Type 0
Written l a s m e = (m ≡ put l a s) × (e ≡ a + length s)

pub written_byte : (l : List ℕ) (a x : ℕ) → a < length l → Written l a (x ∷ []) (set l a x) (a + 1)
written_byte l a x h = (set-put l a x h, refl)

pub written-length : (l : List ℕ) (a : ℕ) (s m : List ℕ) (e : ℕ) → Written l a s m e → e ≤ length l → length m ≡ length l
written-length l a s m e w h = rw w.0 (length-put l a s (omega arith))

-- s and then t
module _ (l : List ℕ) (a : ℕ) (s m : List ℕ) (e : ℕ) (t n : List ℕ) (f : ℕ) (h : a + length s ≤ length l) (w : Written l a s m e) where
  both : put m e t ≡ put l a (s ++ t)
  both = rw (w.0, w.1) (put-after l a s t h)

  sum : e + length t ≡ a + length (s ++ t)
  sum = simp length-append (omega arith)

  pub written_then : Written m e t n f → Written l a (s ++ t) n f
  written_then v = (v.0 ∙ both, v.1 ∙ sum)

  pub written-left : Written l a (s ++ t) n f → Written m e t n f
  written-left v = (v.0 ∙ sym both, v.1 ∙ sym sum)

-- a byte and then s
pub written-cons : (l : List ℕ) (a x : ℕ) (s n : List ℕ) (f : ℕ) → a < length l → Written (set l a x) (a + 1) s n f → Written l a (x ∷ s) n f
written-cons l a x s n f h v = written_then l a (x ∷ []) (set l a x) (a + 1) s n f (omega arith) (written_byte l a x h) v
