-- The four tests of a text: each return of the code that makes them.
use mathlib.Core.Path.{◌≡◌, refl, sym, ap, ◌∙◌}
use mathlib.Core.Bool.{Bool, true, false, cond, not, ◌&&◌}
use mathlib.Core.List.{List}
use mathlib.Core.Logic.{◌⊎◌, inl, inr}
use Prim.Native.Nat.{ℕ, ◌+◌, ◌*◌, ◌-◌, ◌≤◌, ◌<◌}
use native.Mathlib.Nat.{mul-le-mul_right}
use native.Mathlib.Omega.{arith}
use mir.Syntax.{w64}
use mir.Val.{Fits}
use borrow.Author.Tests.{not-true, not-false, le-leb, lt-leb, leb-true}
use lib.Dec.{leb}
use lib.ListN.{length, get_or}
use Rattle.words.specs.Words.{part, all_words}
use Rattle.words.proofs.All.{and_both}
use Rattle.drum.specs.declared.Description.{Description}
use Rattle.drum.specs.Params.{D, good_params}
use Rattle.drum.proofs.Good.{good-facts, caps}
use Rattle.numbers.specs.Checked.{between}
use Rattle.layout.specs.Holds.{ascending, keys_of}
use Rattle.salvage.specs.declared.texts.Reason.{Reason}
use Rattle.salvage.specs.declared.texts.Reason.TheVariants as is
use Rattle.salvage.specs.Reasons.{word_of}
use Rattle.salvage.specs.Met.{count_in, rows_from, records_in, missed, not_marked, bad_count, bad_word, bad_order}

-- a number that is not in a range, and one that is
below-range : (lo hi x : ℕ) → x < lo → between lo hi x ≡ false
below-range lo hi x h = simp (lt-leb lo x h)

above-range : (lo hi x : ℕ) → hi < x → between lo hi x ≡ false
above-range lo hi x h = go (leb lo x)
  where
    go : (b : Bool) → (b && leb x hi) ≡ false
    go true = lt-leb x hi h
    go false = refl

in-range : (lo hi x : ℕ) → lo ≤ x → x ≤ hi → between lo hi x ≡ true
in-range lo hi x h l = simp (le-leb lo x h, le-leb x hi l)

pub range-facts : (lo hi x : ℕ) → between lo hi x ≡ true → (lo ≤ x) × (x ≤ hi)
range-facts lo hi x h = let (a, b) = and_both (leb lo x) (leb x hi) h in (leb-true lo x a, leb-true x hi b)

-- a text has a word 0, and its records have keys
module _ (p : Description) (good : good_params p ≡ true) where
  pub text-some : (t : List ℕ) → length t ≡ p.wpb → 0 < length t
  text-some t e = let f = good-facts p good in omega arith

  pub key-short : p.k ≤ p.wpr
  key-short = let f = good-facts p good in omega arith

-- the tests in their order, by their answers
abbrev by : Bool → Bool → Bool → Bool → ℕ
by a b c d = cond a (cond b (cond c (cond d 0 bad_order) bad_word) bad_count) not_marked

module _ (p : Description) (t : List ℕ) (word : ℕ) (is : word ≡ get_or t 0 0) where
  abbrev counts : Bool
  counts = between 1 (D p) (count_in t)

  abbrev words : Bool
  words = all_words (part 1 (count_in t * p.wpr) t)

  abbrev keys : Bool
  keys = ascending (keys_of p (records_in p t))

  pub missed-low : word < 8192 → not_marked ≡ missed p t
  unfolding missed
  missed-low h = sym λ j. by (below-range 8192 12287 (get_or t 0 0) (omega arith) j) counts words keys

  pub missed-high : 12288 ≤ word → not_marked ≡ missed p t
  unfolding missed
  missed-high h = sym λ j. by (above-range 8192 12287 (get_or t 0 0) (omega arith) j) counts words keys

  pub missed-marked : (word < 8192) ⊎ ((8192 ≤ word) × (12288 ≤ word)) → not_marked ≡ missed p t
  missed-marked (inl h) = missed-low h
  missed-marked (inr h) = missed-high h.1

  -- what is marked detail
  module _ (low : 8192 ≤ word) (high : word < 12288) where
    count-is : word - 8192 ≡ count_in t
    count-is = ap (λ (n : ℕ). n - 8192) is

    marked-is : between 8192 12287 (get_or t 0 0) ≡ true
    marked-is = in-range 8192 12287 (get_or t 0 0) (omega arith) (omega arith)

    pub missed-none : word - 8192 < 1 → bad_count ≡ missed p t
    unfolding missed
    missed-none h =
        sym λ j. by (marked-is j) (below-range 1 (D p) (count_in t) (omega (arith, count-is)) j) words keys

    pub missed-many : (d : ℕ) → d ≡ D p → d < word - 8192 → bad_count ≡ missed p t
    unfolding missed
    missed-many d e h =
        sym λ j. by (marked-is j) (above-range 1 (D p) (count_in t) (omega (arith, count-is)) j) words keys

    -- and has a good count: n is it, x and y are the code's further tests
    module _ (d : ℕ) (e : d ≡ D p) (some : 1 ≤ word - 8192) (few : word - 8192 ≤ d) where
      counted_is : between 1 (D p) (count_in t) ≡ true
      counted_is = in-range 1 (D p) (count_in t) (omega (arith, count-is)) (omega (arith, count-is))

      pub words-within : good_params p ≡ true → length t ≡ p.wpb → 1 + (word - 8192) * p.wpr ≤ length t
      words-within g l =
          let c = caps p g in
          let m : (word - 8192) * p.wpr ≤ D p * p.wpr = mul-le-mul_right p.wpr (omega arith) in
          omega arith

      pub span_fits : good_params p ≡ true → Fits w64 ((word - 8192) * p.wpr)
      span_fits g =
          let c = caps p g in
          let f = c.facts in
          let m : (word - 8192) * p.wpr ≤ D p * p.wpr = mul-le-mul_right p.wpr (omega arith) in
          omega arith

      module _ (x : Bool) (ws : x ≡ all_words (part 1 ((word - 8192) * p.wpr) t)) where
        words_are : all_words (part 1 (count_in t * p.wpr) t) ≡ x
        words_are = sym (ws ∙ ap (λ (n : ℕ). all_words (part 1 (n * p.wpr) t)) count-is)

        pub missed-word : not x ≡ true → bad_word ≡ missed p t
        unfolding missed
        missed-word h = sym λ j. by (marked-is j) (counted_is j) ((words_are ∙ not-true x h) j) keys

        module _ (y : Bool) (ks : y ≡ ascending (keys_of p (rows_from p.wpr 1 (word - 8192) t))) (h : not x ≡ false) where
          keys-are : ascending (keys_of p (records_in p t)) ≡ y
          keys-are = sym (ks ∙ ap (λ (n : ℕ). ascending (keys_of p (rows_from p.wpr 1 n t))) count-is)

          pub missed-order : not y ≡ true → bad_order ≡ missed p t
          unfolding missed
          missed-order k = sym λ j. by (marked-is j) (counted_is j) ((words_are ∙ not-false x h) j) ((keys-are ∙ not-true y k) j)

          pub missed-nothing : not y ≡ false → 0 ≡ missed p t
          unfolding missed
          missed-nothing k = sym λ j. by (marked-is j) (counted_is j) ((words_are ∙ not-false x h) j) ((keys-are ∙ not-false y k) j)

-- what a text that misses no test is: each test, as it holds
pub record Whole (p : Description) (t : List ℕ) : Type 0 where
  pub marked : between 8192 12287 (get_or t 0 0) ≡ true
  pub counted : between 1 (D p) (count_in t) ≡ true
  pub small : all_words (part 1 (count_in t * p.wpr) t) ≡ true
  pub ascends : ascending (keys_of p (records_in p t)) ≡ true

pub whole : (p : Description) (t : List ℕ) → missed p t ≡ 0 → Whole p t
unfolding missed
whole p t z =
    go (between 8192 12287 (get_or t 0 0)) refl (between 1 (D p) (count_in t)) refl (all_words (part 1 (count_in t * p.wpr) t)) refl
    (ascending (keys_of p (records_in p t))) refl z
  where
    go : (a : Bool) → between 8192 12287 (get_or t 0 0) ≡ a → (b : Bool) → between 1 (D p) (count_in t) ≡ b
        → (c : Bool) → all_words (part 1 (count_in t * p.wpr) t) ≡ c
        → (d : Bool) → ascending (keys_of p (records_in p t)) ≡ d → by a b c d ≡ 0 → Whole p t
    go true ea true eb true ec true ed z = record { marked = ea; counted = eb; small = ec; ascends = ed }
    go true ea true eb true ec false ed z = absurd (omega arith)
    go true ea true eb false ec d ed z = absurd (omega arith)
    go true ea false eb c ec d ed z = absurd (omega arith)
    go false ea b eb c ec d ed z = absurd (omega arith)

-- a reason's word is not 0
pub word-some : (r : Reason) → word_of r ≡ 0 → ⊥
word-some is.NotMarked e = omega arith
word-some is.BadCount e = omega arith
word-some is.BadWord e = omega arith
word-some is.BadOrder e = omega arith
word-some is.SecondCopy e = omega arith
word-some is.LackedRoom e = omega arith
