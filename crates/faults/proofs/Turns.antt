-- The loops' turns: bytes looked at up to a line feed, places that agree, and bytes shown.
use Prim.Native.Nat.{ℕ, suc, ◌+◌, ◌≤◌, ◌<◌, min}
use mathlib.Core.Path.{◌≡◌, refl, sym, ap, ◌∙◌}
use mathlib.Core.List.{List, [], ◌∷◌, ◌++◌}
use native.Mathlib.Numerals.{add-one}
use native.Mathlib.Omega.{arith}
use native.Mathlib.Decide.{dec_lt}
use lib.ListN.{length, drop, get_or, set, drop_of_length-le}
use lib.Seq.{drop-cons}
use borrow.Author.Tests.{eq-eqb, ne_eqb}
use Rattle.words.specs.Words.{part, put}
use Rattle.words.proofs.Parts.{put-snoc, part-snoc, length_part}
use Rattle.lines.specs.Lines.{is_line_feed}
use Rattle.faults.specs.declared.watch.Watch.{Watch}
use Rattle.faults.specs.Watching.{seen, watched}
use Rattle.rules.specs.declared.Call.{Call}
use Rattle.texts.specs.Results.{spelling}
use Rattle.faults.specs.declared.nearest.Near.{Near}
use Rattle.faults.specs.Nearest.{same, agreeing, nearer, nearest_in}
use Rattle.faults.specs.Sentences.{visible, visibles}

-- what is to be looked at from here on comes to what the whole comes to
module _ (w₀ w : Watch) (from at : ℕ) (bytes items : List ℕ) (e : watched w₀ (drop from bytes) ≡ watched w (drop at items)) where
  pub look-out : length items ≤ at → w ≡ watched w₀ (drop from bytes)
  unfolding watched
  look-out h = sym (e ∙ rw (drop_of_length-le items h))

  pub look-over : at < length items → get_or items at 0 ≡ 10 → w ≡ watched w₀ (drop from bytes)
  unfolding watched is_line_feed
  look-over h q = sym (e ∙ rw (drop-cons items at 0 h, eq-eqb _ _ q))

  pub look-more : (v : Watch) → at < length items → (get_or items at 0 ≡ 10 → ⊥) → v ≡ seen w (get_or items at 0)
      → watched w₀ (drop from bytes) ≡ watched v (drop (at + 1) items)
  unfolding watched is_line_feed
  look-more v h q g = e ∙ (rw (add-one at, drop-cons items at 0 h, ne_eqb _ _ q)) ∙ ap (λ (x : Watch). watched x (drop (at + 1) items)) (sym g)

-- what agrees from here on and what was counted come to the whole
agree-none : (w : List ℕ) → agreeing w [] ≡ 0
unfolding agreeing
agree-none [] = refl
agree-none (a ∷ w) = refl

pub agree-over : (w t : List ℕ) (i : ℕ) → min (length w) (length t) ≤ i → agreeing (drop i w) (drop i t) ≡ 0
unfolding agreeing
agree-over w t i h = go (dec_lt i (length w))
  where
    go : Dec (i < length w) → agreeing (drop i w) (drop i t) ≡ 0
    go (yes k) =
        let l : length t ≤ i = omega arith in
        rw (drop_of_length-le t l) (agree-none (drop i w))
    go (no k) =
        let l : length w ≤ i = omega arith in
        rw (drop_of_length-le w l) refl

pub agree-turn : (w t : List ℕ) (i j : ℕ) → i < length w → j < length t
    → agreeing (drop i w) (drop j t) ≡ same (get_or w i 0) (get_or t j 0) + agreeing (drop (i + 1) w) (drop (j + 1) t)
unfolding agreeing
agree-turn w t i j h k = rw (add-one i, add-one j, drop-cons w i 0 h, drop-cons t j 0 k)

-- the nearest of the calls from the i-th on
module _ (cs : List Call) (w : List ℕ) (near : Near) (i : ℕ) where
  pub near-turn : (d : Call) (n : Near) → i < length cs → n ≡ nearer w near (get_or cs i d) (spelling (get_or cs i d)) → nearest_in w near (drop i cs) ≡ nearest_in w n (drop (i + 1) cs)
  unfolding nearest_in
  near-turn d n h e = rw (add-one i, drop-cons cs i d h) (ap (λ (x : Near). nearest_in w x (drop (suc i) cs)) (sym e))

  pub near-over : length cs ≤ i → nearest_in w near (drop i cs) ≡ near
  unfolding nearest_in
  near-over h = rw (drop_of_length-le cs h)

-- a word shown byte by byte
pub length-visibles : (w : List ℕ) → length (visibles w) ≡ length w
unfolding visibles
length-visibles [] = refl
length-visibles (b ∷ w) = ap suc (length-visibles w)

visibles-append : (w v : List ℕ) → visibles (w ++ v) ≡ visibles w ++ visibles v
unfolding visibles
visibles-append [] v = refl
visibles-append (b ∷ w) v = ap (λ (l : List ℕ). visible b ∷ l) (visibles-append w v)

pub visible-turn : (d d₀ w : List ℕ) (at i x : ℕ) → d ≡ put d₀ at (visibles (part 0 i w)) → at + i < length d₀ → i < length w → x ≡ visible (get_or w i 0)
    → set d (at + i) x ≡ put d₀ at (visibles (part 0 (i + 1) w))
unfolding visibles
visible-turn d d₀ w at i x e h k q =
    let n : length (visibles (part 0 i w)) ≡ i = length-visibles (part 0 i w) ∙ length_part 0 i w (omega arith) in
    let z : 0 + i ≡ i = omega arith in
    let s : visibles (part 0 (i + 1) w) ≡ visibles (part 0 i w) ++ (visible (get_or w i 0) ∷ [])
    = (rw (part-snoc 0 i w (omega arith), z)) ∙ visibles-append (part 0 i w) (get_or w i 0 ∷ []) in
    let p : set (put d₀ at (visibles (part 0 i w))) (at + i) (visible (get_or w i 0)) ≡ put d₀ at (visibles (part 0 i w) ++ (visible (get_or w i 0) ∷ []))
    = rw n at (put-snoc d₀ at (visibles (part 0 i w)) (visible (get_or w i 0)) (omega arith)) in
    rw (e, q, s) p
