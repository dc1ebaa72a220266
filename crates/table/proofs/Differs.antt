-- A row's key told from the key sought by one word: the first that differs, or any other.
use mathlib.Core.Path.{◌≡◌, sym, ap, ◌∙◌}
use mathlib.Core.Bool.{true, false, not}
use mathlib.Core.List.{List}
use Prim.Native.Nat.{ℕ, ◌+◌, ◌≤◌, ◌<◌}
use native.Mathlib.Omega.{arith}
use lib.ListN.{length, get_or}
use lib.Seq.{ext_get_or}
use lib.Dec.{eqb}
use borrow.Author.Tests.{eq-eqb, ne_eqb, eqb-true, not-false}
use Rattle.words.specs.Words.{part}
use Rattle.words.specs.Keys.{same_key}
use Rattle.words.proofs.Parts.{length_part, get_d_part, part_none}
use Rattle.words.proofs.Keys.{clash, same_key-eq, same_key-ne}
use Rattle.table.specs.declared.Shape.{Shape}
use Rattle.table.specs.declared.Want.TheVariants.{Equal}
use Rattle.table.specs.Tables.{first_where, differs, fits, key_at}
use Rattle.table.proofs.Searches.{first-le, first-before, first-true}

module _ (t : List ℕ) (p : ℕ) (key : List ℕ) (at m : ℕ) where
  pub word-differs : (get_or t (p + m) 0 ≡ get_or key (at + m) 0 → ⊥) → differs t p key at m ≡ true
  word-differs n = ap not (ne_eqb _ _ n)

  pub word_same : get_or t (p + m) 0 ≡ get_or key (at + m) 0 → differs t p key at m ≡ false
  word_same e = ap not (eq-eqb _ _ e)

  word-other : differs t p key at m ≡ true → get_or t (p + m) 0 ≡ get_or key (at + m) 0 → ⊥
  word-other d e = clash (sym d ∙ word_same e)

  word-equal : differs t p key at m ≡ false → get_or t (p + m) 0 ≡ get_or key (at + m) 0
  word-equal d = eqb-true _ _ (not-false (eqb (get_or t (p + m) 0) (get_or key (at + m) 0)) d)

-- one word that differs rules the row out
pub other_word : (t : List ℕ) (p : ℕ) (key : List ℕ) (at width m : ℕ) → m < width → (get_or t (p + m) 0 ≡ get_or key (at + m) 0 → ⊥)
    → same_key (part p width t) (part at width key) ≡ false
other_word t p key at width m h n =
    same_key-ne _ _ (λ e. n (sym (get_d_part p width m t h) ∙ ap (λ (l : List ℕ). get_or l m 0) e ∙ get_d_part at width m key h))

-- what the first word that differs tells of the row: there is none, or it rules the row out
module _ (t : List ℕ) (p : ℕ) (key : List ℕ) (at width r : ℕ) (e : r ≡ first_where (differs t p key at) width) where
  pub told_same : p + width ≤ length t → at + width ≤ length key → r ≡ width → same_key (part p width t) (part at width key) ≡ true
  told_same ht hk w =
      let lt : length (part p width t) ≡ width = length_part p width t ht in
      let lk : length (part at width key) ≡ width = length_part at width key hk in
      same_key-eq _ _
      (ext_get_or 0 _ _ (lt ∙ sym lk) (λ m h.
      let b : m < width = omega arith in
      let f : m < first_where (differs t p key at) width = omega arith in
      get_d_part p width m t b ∙ word-equal t p key at m (first-before _ _ m f) ∙ sym (get_d_part at width m key b)))

  pub told_below : (r ≡ width → ⊥) → r < width
  told_below n =
      let l : first_where (differs t p key at) width ≤ width = first-le _ _ in
      omega arith

  pub told-other : (r ≡ width → ⊥) → same_key (part p width t) (part at width key) ≡ false
  told-other n =
      let b : r < width = told_below n in
      let d : differs t p key at r ≡ true = rw e (first-true (differs t p key at) width (rw (sym e) b)) in
      other_word t p key at width r b (word-other t p key at r d)

-- keys of no words are the same
pub no_words : (h : Shape) (t key : List ℕ) (at j : ℕ) → h.width ≡ 0 → fits Equal h (part at h.width key) t j ≡ true
unfolding fits key_at
no_words h t key at j e = same_key-eq _ _ (rw e (part_none _ t ∙ sym (part_none at key)))
