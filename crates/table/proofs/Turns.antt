-- A search's loops, turn by turn: where the row lies, what is known of the rows passed, and what a search that ends has found.
use mathlib.Core.Path.{◌≡◌, sym, ◌∙◌}
use mathlib.Core.Bool.{Bool, true, false}
use mathlib.Core.List.{List}
use Prim.Native.Nat.{ℕ, ◌+◌, ◌≤◌, ◌<◌}
use native.Mathlib.Omega.{arith}
use borrow.Author.Count.{below_more}
use lib.ListN.{length, get_or}
use Rattle.words.specs.Words.{part}
use Rattle.words.specs.Keys.{order, key_lt}
use Rattle.std.specs.declared.cmp.Ordering.{Ordering}
use Rattle.table.specs.declared.Shape.{Shape}
use Rattle.table.specs.declared.Want.{Want}
use Rattle.table.specs.declared.Want.TheVariants.{Equal}
use Rattle.table.specs.Tables.{place, first_where, asked, fits, key_at, AllBelow, Pair, differs}
use Rattle.table.proofs.Places.{row_lt}
use Rattle.table.proofs.Searches.{first-at, first-zero, first-none, asked-wanted, low_first, low-next, low-unwanted}
use Rattle.table.proofs.Differs.{word-differs, told_same, told_below, no_words}

-- of the first i rows none is wanted
abbrev pub Passed : Want → Shape → List ℕ → List ℕ → ℕ → Type 0
Passed w h key t i = (j : ℕ) → j < i → fits w h key t j ≡ false

-- row i of n begins at word a and lies before word z
module _ (h : Shape) (n z i : ℕ) (below : i < n) (room : place h n ≤ z) where
  pub row-end : place h i + h.stride ≤ z
  row-end = omega (arith, row_lt i n h.stride below)

-- one row more is below the key
module _ (h : Shape) (n i a : ℕ) (t key : List ℕ) (at : ℕ) (all : AllBelow h (part at h.width key) t i) (here : a ≡ place h i)
    (below : i < n) (room : place h n ≤ length t) (wide : h.width ≤ h.stride) (there : at + h.width ≤ length key) where
  inside : a + h.width ≤ length t
  inside = let e = row-end h n (length t) i below room in omega arith

  one_below : key_lt (part a h.width t) (part at h.width key) ≡ true → AllBelow h (part at h.width key) t (i + 1)
  one_below e = below_more _ i all (rw here at e)

  pub low-first-word : get_or t a 0 < get_or key at 0 → 1 ≤ h.width → AllBelow h (part at h.width key) t (i + 1)
  low-first-word l w = one_below (low_first t key a at h.width w inside there l)

  pub low-next-words : (x y : ℕ) → Pair key (at + 1) x → Pair t (a + 1) y → y < x → get_or t a 0 ≡ get_or key at 0 → 3 ≤ h.width
      → AllBelow h (part at h.width key) t (i + 1)
  low-next-words x y px py l e w =
      let k : at + 1 + 1 ≡ at + 2 = omega arith in
      let q : a + 1 + 1 ≡ a + 2 = omega arith in
      let bk = rw k at px.small in
      let bt = rw q at py.small in
      let ex = rw k at px.value in
      let ey = rw q at py.value in
      one_below (low-next t key a at h.width w inside there bt bk e (omega arith))

-- no row that was passed is wanted
module _ (w : Want) (h : Shape) (key t : List ℕ) where
  pub unwanted : (i : ℕ) → AllBelow h key t i → Passed w h key t i
  unfolding fits key_at
  unwanted i all j l = low-unwanted w key _ (all j l)

  pub found_none : (n i : ℕ) → Passed w h key t i → i ≡ n → n ≡ first_where (fits w h key t) n
  found_none n i none e = sym (first-none _ n (rw e at none))

  -- the row at word a, compared with the key
  module _ (n i a : ℕ) (o : Ordering) (r : Bool) (er : r ≡ asked w o) (eo : o ≡ order (part a h.width t) key) (here : a ≡ place h i)
      (none : Passed w h key t i) where
    tested : fits w h key t i ≡ r
    unfolding fits key_at
    tested = rw (er, eo, here) (sym (asked-wanted w key (part (place h i) h.width t)))

    pub found_at : i < n → r ≡ true → i ≡ first_where (fits w h key t) n
    found_at l y = sym (first-at _ n i l none (tested ∙ y))

    pub passed_over_lem : r ≡ false → Passed w h key t (i + 1)
    passed_over_lem y = below_more _ i none (tested ∙ y)

-- the search for an equal key: nothing to compare, the row that has it, and one more that has not
pub found-any : (h : Shape) (t key : List ℕ) (at n : ℕ) → h.width ≡ 0 → 0 ≡ first_where (fits Equal h (part at h.width key) t) n
found-any h t key at n e = sym (first-zero _ n (no_words h t key at 0 e))

pub found-same : (h : Shape) (t key : List ℕ) (at n i a m : ℕ) → a ≡ place h i → m ≡ first_where (differs t a key at) h.width
    → Passed Equal h (part at h.width key) t i → m ≡ h.width → i < n → place h n ≤ length t → h.width ≤ h.stride → at + h.width ≤ length key
    → i ≡ first_where (fits Equal h (part at h.width key) t) n
unfolding fits key_at
found-same h t key at n i a m here em none e l room wide there =
    let b = row-end h n (length t) i l room in
    let same = told_same t a key at h.width m em (omega arith) there e in
    sym (first-at _ n i l none (rw here at same))

-- word m of the key, m the first word that differs
module _ (t key : List ℕ) (at width a m : ℕ) (em : m ≡ first_where (differs t a key at) width) (ne : m ≡ width → ⊥) (there : at + width ≤ length key) where
  pub told-inside : at + m < length key
  told-inside = let b = told_below t a key at width m em ne in omega arith

-- the first word that differs: the words passed do not
module _ (t : List ℕ) (a : ℕ) (key : List ℕ) (at m : ℕ) (same : (j : ℕ) → j < m → differs t a key at j ≡ false) where
  pub differs_at : (width : ℕ) → m < width → (get_or t (a + m) 0 ≡ get_or key (at + m) 0 → ⊥) → m ≡ first_where (differs t a key at) width
  differs_at width l n = sym (first-at _ width m l same (word-differs t a key at m n))

  pub differs_none : (width : ℕ) → m ≤ width → width ≤ m → width ≡ first_where (differs t a key at) width
  differs_none width most least =
      let e : m ≡ width = omega arith in
      sym (first-none _ width (rw e at same))
