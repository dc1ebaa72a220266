-- Searches on the words of a table, as searches on its rows by keys as numbers. One law for master, index and detail blocks.
use Prim.Native.Nat.{ℕ, suc, ◌≤◌, ◌<◌, ◌+◌}
use mathlib.Core.Bool.{true, not}
use mathlib.Core.Path.{◌≡◌, refl, sym, ◌∙◌}
use mathlib.Core.List.{List, [], ◌∷◌, ◌++◌}
use native.Mathlib.Omega.{arith}
use native.Mathlib.Decide.{dec_lt}
use lib.Dec.{ltb, leb, eqb}
use lib.ListN.{length, take}
use borrow.Author.Tests.{lt-ltb, le-ltb, le-leb, lt-leb}
use Rattle.words.specs.Words.{all_words, zeros}
use Rattle.words.specs.Keys.{key_lt, key_le, same_key, val}
use Rattle.words.proofs.Values.{key_lt-val, same_key-val}
use Rattle.table.specs.declared.Shape.{Shape}
use Rattle.table.specs.Tables.{row_with, row_from, row_above}
use Rattle.table.specs.Rows.{encode, table}
use Rattle.table.proofs.RowSearch.{first_in-same, from-encode}
use Rattle.table.proofs.RowTexts.{table-with, table-from, table-above}
use Rattle.demands.proofs.Lists.{All}
use Rattle.demands.proofs.Rows.{Each, tab, first_in}

pub not-ltb : (a b : ℕ) → not (ltb a b) ≡ leb b a
not-ltb a b = go (dec_lt a b)
  where
    go : Dec (a < b) → not (ltb a b) ≡ leb b a
    go (yes h) = rw (lt-ltb a b h, lt-leb b a h)
    go (no n) = let h : b ≤ a = omega arith in rw (le-ltb a b h, le-leb b a h)

-- the three tests, on keys as numbers
module _ (key : List ℕ) (wide : all_words key ≡ true) where
  abbrev pub KeyRow : ℕ → List ℕ → Type 0
  KeyRow w r = (length (take w r) ≡ length key) × (all_words (take w r) ≡ true)

  test-from : (w : ℕ) (rows : List (List ℕ)) → All (KeyRow w) rows → All (λ r. key_le key (take w r) ≡ leb (val key) (val (take w r))) rows
  unfolding key_le
  test-from w [] h = tt
  test-from w (r ∷ rows) h = (rw (key_lt-val (take w r) key h.0.1 wide h.0.0) (not-ltb (val (take w r)) (val key)), test-from w rows h.1)

  test-with : (w : ℕ) (rows : List (List ℕ)) → All (KeyRow w) rows → All (λ r. same_key (take w r) key ≡ eqb (val (take w r)) (val key)) rows
  test-with w [] h = tt
  test-with w (r ∷ rows) h = (same_key-val (take w r) key h.0.1 wide h.0.0, test-with w rows h.1)

  test-above : (w : ℕ) (rows : List (List ℕ)) → All (KeyRow w) rows → All (λ r. key_lt key (take w r) ≡ ltb (val key) (val (take w r))) rows
  test-above w [] h = tt
  test-above w (r ∷ rows) h = (key_lt-val key (take w r) wide h.0.1 (sym h.0.0), test-above w rows h.1)

module _ (h : Shape) (kw : h.width ≤ h.stride) (rows : List (List ℕ)) (er : Each h.stride rows) (key : List ℕ) (wide : all_words key ≡ true)
    (hk : All (KeyRow key wide h.width) rows) where
  -- in the master
  pub from_is : (front : List ℕ) → h.base ≡ suc (length front) → h.tag ≡ 0 → (z : ℕ) (rest : List ℕ)
      → row_from h key (tab front rows z rest) ≡ first_in (λ r. leb (val key) (val (take h.width r))) rows
  unfolding tab encode
  from_is front eb plain z rest =
      let e : h.tag + length rows ≡ length rows = omega arith in
      rw e at (from-encode h front eb kw key (length rows) rows refl er (zeros z ++ rest)) ∙ first_in-same _ _ rows (test-from key wide h.width rows hk)

  -- in a block
  module _ (one : h.base ≡ 1) (wpb : ℕ) where
    pub table-from-is : row_from h key (table h wpb rows) ≡ first_in (λ r. leb (val key) (val (take h.width r))) rows
    table-from-is = table-from wpb h one rows er kw key ∙ first_in-same _ _ rows (test-from key wide h.width rows hk)

    pub table-with-is : row_with h key (table h wpb rows) ≡ first_in (λ r. eqb (val (take h.width r)) (val key)) rows
    table-with-is = table-with wpb h one rows er kw key ∙ first_in-same _ _ rows (test-with key wide h.width rows hk)

    pub table-above-is : row_above h key (table h wpb rows) ≡ first_in (λ r. ltb (val key) (val (take h.width r))) rows
    table-above-is = table-above wpb h one rows er kw key ∙ first_in-same _ _ rows (test-above key wide h.width rows hk)
