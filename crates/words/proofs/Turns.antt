-- One turn of a loop: one word more copied, one word less to compare.
use mathlib.Core.Path.{◌≡◌, refl, sym, ap, ◌∙◌}
use mathlib.Core.Bool.{Bool, true, false}
use mathlib.Core.List.{List, ◌∷◌}
use Prim.Native.Nat.{ℕ, ◌+◌, ◌-◌, ◌≤◌, ◌<◌}
use native.Mathlib.Nat.{le_of_lt}
use native.Mathlib.Omega.{arith}
use lib.ListN.{length, get_or, set}
use borrow.Author.Tests.{lt-ltb, le-ltb, eq-eqb, ne_eqb}
use Rattle.std.specs.declared.cmp.Ordering.{Ordering}
use Rattle.std.specs.declared.cmp.Ordering.TheVariants.{Less, Equal, Greater}
use Rattle.std.specs.Ordering.{nat_cmp, is_ne}
use Rattle.words.specs.Words.{part, put}
use Rattle.words.specs.Keys.{key_lt, same_key, order}
use Rattle.words.proofs.Keys.{Tri, lt, eq, gt, tri, clash}
use Rattle.words.proofs.Parts.{length_part, part-snoc, part_none, part-turn, put-snoc}

-- a turn of the loop that copies bottom up: d has the first i words, and takes the next
pub copy-turn : (d d₀ s : List ℕ) (at from i : ℕ) → d ≡ put d₀ at (part from i s) → at + i < length d₀ → from + i < length s
    → set d (at + i) (get_or s (from + i) 0) ≡ put d₀ at (part from (i + 1) s)
copy-turn d d₀ s at from i e hd hs =
    let n : length (part from i s) ≡ i = length_part from i s (omega arith) in
    let t : at + length (part from i s) < length d₀ = omega arith in
    rw (e, part-snoc from i s hs) (rw n at (put-snoc d₀ at (part from i s) (get_or s (from + i) 0) t))

-- keys whose first words differ stand as those do; keys whose first words are the same stand as the rest does
module _ (x y : ℕ) (a b : List ℕ) (r : Ordering) (e : r ≡ nat_cmp x y) where
  first_apart : is_ne r ≡ true → order (x ∷ a) (y ∷ b) ≡ r
  unfolding order key_lt same_key
  first_apart h = go (tri x y)
    where
      go : Tri x y → order (x ∷ a) (y ∷ b) ≡ r
      go (lt l) = rw (e, lt-ltb x y l) refl
      go (gt g) = rw (e, le-ltb x y (le_of_lt g), ne_eqb x y (λ q. omega arith)) refl
      go (eq q) =
          let same : r ≡ Equal = rw (le-ltb x y (omega arith), eq-eqb x y q) at e in
          absurd (clash (sym h ∙ ap is_ne same))

  first_same : is_ne r ≡ false → order (x ∷ a) (y ∷ b) ≡ order a b
  unfolding order key_lt same_key
  first_same h = go (tri x y)
    where
      go : Tri x y → order (x ∷ a) (y ∷ b) ≡ order a b
      go (eq q) = rw (le-ltb x y (omega arith), eq-eqb x y q) refl
      go (lt l) =
          let below : r ≡ Less = rw (lt-ltb x y l) at e in
          absurd (clash (sym (ap is_ne below) ∙ h))
      go (gt g) =
          let above : r ≡ Greater = rw (le-ltb x y (le_of_lt g), ne_eqb x y (λ q. omega arith)) at e in
          absurd (clash (sym (ap is_ne above) ∙ h))

-- how two keys stand, word by word: the words at m tell, or the rest does
module _ (a b : List ℕ) (i j k m : ℕ) (r : Ordering) (s : Bool)
    (sofar : order (part i k a) (part j k b) ≡ order (part (i + m) (k - m) a) (part (j + m) (k - m) b))
    (e : r ≡ nat_cmp (get_or a (i + m) 0) (get_or b (j + m) 0)) (es : s ≡ is_ne r)
    (h : m < k) (ha : i + k ≤ length a) (hb : j + k ≤ length b) where
  pub order-apart : s ≡ true → r ≡ order (part i k a) (part j k b)
  order-apart d = sym (sofar ∙ rw (part-turn i k m a h ha, part-turn j k m b h hb) (first_apart _ _ _ _ r e (sym es ∙ d)))

  pub order-next : s ≡ false → order (part i k a) (part j k b) ≡ order (part (i + (m + 1)) (k - (m + 1)) a) (part (j + (m + 1)) (k - (m + 1)) b)
  order-next d = sofar ∙ rw (part-turn i k m a h ha, part-turn j k m b h hb) (first_same _ _ _ _ r e (sym es ∙ d))

pub order-done : (i j : ℕ) (a b : List ℕ) → order (part i 0 a) (part j 0 b) ≡ Equal
unfolding order key_lt same_key
order-done i j a b = rw (part_none i a, part_none j b)
