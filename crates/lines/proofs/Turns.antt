-- The loops' turns: reading up to a line feed, and comparing a name; and the names one after the other.
use Prim.Native.Nat.{ℕ, suc, ◌+◌, ◌≤◌, ◌<◌, min}
use mathlib.Core.Bool.{Bool, true, false, ◌&&◌, and-false}
use Rattle.std.specs.Cmp.Lexicographic.{pointwise}
use mathlib.Core.Path.{◌≡◌, refl, sym, ap, ◌∙◌}
use mathlib.Core.List.{List, [], ◌∷◌}
use Rattle.std.proofs.Common.{Option, None, Some}
use native.Mathlib.Numerals.{add-one}
use native.Mathlib.Omega.{arith}
use native.Mathlib.Decide.{dec_lt}
use lib.Dec.{eqb}
use lib.ListN.{length, drop, get_or, drop_of_length-le}
use lib.Seq.{drop-cons, take_all, take-length}
use borrow.Author.Tests.{eq-eqb, ne_eqb}
use Rattle.words.specs.Words.{part}
use Rattle.words.specs.Keys.{same_key}
use Rattle.drum.specs.declared.Description.{Description}
use Rattle.rules.specs.declared.Call.{Call}
use Rattle.texts.specs.Results.{spelling}
use Rattle.lines.specs.declared.Reading.{Reading}
use Rattle.lines.specs.Lines.{is_line_feed, named_in, named, carries, described}
use Rattle.lines.specs.Reading.{Read, rested, step, call_in, call_of, parameters_in}
use Rattle.lines.specs.Promise.{to_line_feed}

-- reading up to a line feed, from byte `at` on
module _ (s : Read) (at : ℕ) (bytes : List ℕ) where
  pub line-out : length bytes ≤ at → to_line_feed s at (drop at bytes) ≡ record { kept = s; at = at; ended = false }
  unfolding to_line_feed
  line-out h = rw (drop_of_length-le bytes h)

  pub line-over : at < length bytes → get_or bytes at 0 ≡ 10 → to_line_feed s at (drop at bytes) ≡ record { kept = rested s; at = at + 1; ended = true }
  unfolding to_line_feed is_line_feed
  line-over h e = rw (drop-cons bytes at 0 h, eq-eqb _ _ e, add-one at)

  pub line-more : at < length bytes → (get_or bytes at 0 ≡ 10 → ⊥) → to_line_feed s at (drop at bytes) ≡ to_line_feed (step s (get_or bytes at 0)) (at + 1) (drop (at + 1) bytes)
  unfolding to_line_feed is_line_feed
  line-more h e = rw (add-one at, drop-cons bytes at 0 h, ne_eqb _ _ e)

-- two names that are equal as lists are the same
pub equal-same : (w text : List ℕ) → pointwise eqb w text ≡ same_key w text
unfolding same_key
equal-same [] [] = refl
equal-same [] (y ∷ text) = refl
equal-same (x ∷ w) [] = refl
equal-same (x ∷ w) (y ∷ text) = ap (λ (t : Bool). eqb x y && t) (equal-same w text)

-- of a name with no n bytes the first n are all
part-over : (n : ℕ) (l : List ℕ) → length l < n → part 0 (length l) l ≡ part 0 n l
unfolding part
part-over n l h = take-length l ∙ sym (take_all n l (omega arith))

-- the first n bytes of a name are its first k, where k is n, or all that there are
pub part-kept : (n k : ℕ) (l : List ℕ) → k ≡ min n (length l) → part 0 k l ≡ part 0 n l
part-kept n k l e = go (dec_lt (length l) n)
  where
    go : Dec (length l < n) → part 0 k l ≡ part 0 n l
    go (yes h) =
        let all : k ≡ length l = omega arith in
        rw all (part-over n l h)
    go (no h) =
        let same : k ≡ n = omega arith in
        rw same refl

-- the first of some names, or the others
module _ (c : Call) (cs : List Call) (w : List ℕ) where
  pub named-first : same_key w (spelling c) ≡ true → named_in (c ∷ cs) w ≡ Some c
  unfolding named_in
  named-first h = rw h

  pub named-later : same_key w (spelling c) ≡ false → named_in (c ∷ cs) w ≡ named_in cs w
  unfolding named_in
  named-later h = rw h

-- of the calls from the i-th on: the word is the name s of the i-th, or it is not, or there are no more
module _ (cs : List Call) (w : List ℕ) (i : ℕ) where
  module _ (d : Call) (s : List ℕ) (h : i < length cs) (e : s ≡ spelling (get_or cs i d)) where
    pub named-hit : true ≡ pointwise eqb w s → named_in (drop i cs) w ≡ Some (get_or cs i d)
    named-hit t = rw (drop-cons cs i d h) (named-first (get_or cs i d) (drop (suc i) cs) w (sym (t ∙ equal-same w s ∙ ap (same_key w) e)))

    pub named-miss : false ≡ pointwise eqb w s → named_in (drop i cs) w ≡ named_in (drop (i + 1) cs) w
    named-miss t = rw (add-one i, drop-cons cs i d h) (named-later (get_or cs i d) (drop (suc i) cs) w (sym (t ∙ equal-same w s ∙ ap (same_key w) e)))

  pub named-over : length cs ≤ i → named_in (drop i cs) w ≡ None
  unfolding named_in
  named-over h = rw (drop_of_length-le cs h)

-- the call that a line is, of what its first word names
module _ (p : Description) (r : Reading) (name : List ℕ) where
  call-by : (o : Option Call) → o ≡ named (part 0 r.spelled name) → call_in p r o ≡ call_of p r name
  unfolding call_of
  call-by o e = ap (call_in p r) e

  pub call-nothing : None ≡ named (part 0 r.spelled name) → None ≡ call_of p r name
  unfolding call_in
  call-nothing e = call-by None e

  module _ (c : Call) (e : Some c ≡ named (part 0 r.spelled name)) where
    pub call-others : (r.others ≡ 1 → ⊥) → None ≡ call_of p r name
    unfolding call_in
    call-others h = (rw (ne_eqb _ _ h)) ∙ call-by (Some c) e

    module _ (n : ℕ) (en : n ≡ carries p c) where
      pub call-numbers : (r.numbers ≡ n → ⊥) → None ≡ call_of p r name
      unfolding call_in
      call-numbers h = (rw (ne_eqb _ _ (λ (q : r.numbers ≡ carries p c). h (q ∙ sym en)), and-false (eqb r.others 1))) ∙ call-by (Some c) e

      pub call-whole : r.others ≡ 1 → r.numbers ≡ n → Some c ≡ call_of p r name
      unfolding call_in
      call-whole h q = (rw (eq-eqb _ _ h, eq-eqb _ _ (q ∙ en))) ∙ call-by (Some c) e

-- six numbers read one by one, each step handing the description on
pub described-by : (v : List ℕ) (p : Description) (a b c d e f g : ℕ)
    → p ≡ record { wpb = a; wpr = b; k = c; space = d; control = e; n = f; form = g } → g ≡ 1
    → a ≡ get_or v 0 0 → b ≡ get_or v 1 0 → c ≡ get_or v 2 0 → d ≡ get_or v 3 0 → e ≡ get_or v 4 0 → f ≡ get_or v 5 0 → p ≡ described v
unfolding described
described-by v p a b c d e f g h h₁ g₀ g₁ g₂ g₃ g₄ g₅ =
    h ∙ (λ j. record { wpb = g₀ j; wpr = g₁ j; k = g₂ j; space = g₃ j; control = g₄ j; n = g₅ j; form = h₁ j })

-- the parameters that a line gives
module _ (r : Reading) (numbers : List ℕ) where
  pub parameters-others : (r.others ≡ 0 → ⊥) → None ≡ parameters_in r numbers
  unfolding parameters_in
  parameters-others h = rw (ne_eqb _ _ h)

  pub parameters-numbers : (r.numbers ≡ 6 → ⊥) → None ≡ parameters_in r numbers
  unfolding parameters_in
  parameters-numbers h = rw (ne_eqb _ _ h, and-false (eqb r.others 0))

  pub parameters-whole : (p : Description) → r.others ≡ 0 → r.numbers ≡ 6 → p ≡ described numbers → Some p ≡ parameters_in r numbers
  unfolding parameters_in
  parameters-whole p h k e = ap Some e ∙ (rw (eq-eqb _ _ h, eq-eqb _ _ k))
