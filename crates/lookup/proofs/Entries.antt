-- The entry that is wanted of a table: the words that it lies in, its place, and one law for each answer of the code.
use mathlib.Core.Path.{◌≡◌, ap, ◌∙◌}
use mathlib.Core.List.{List}
use Prim.Native.Nat.{ℕ, ◌+◌, ◌-◌, ◌≤◌, ◌<◌}
use native.Mathlib.Omega.{arith}
use lib.ListN.{length}
use Rattle.words.specs.Words.{part}
use Rattle.table.specs.declared.Shape.{Shape}
use Rattle.table.specs.declared.Want.TheVariants.{NotBelow}
use Rattle.table.specs.Tables.{count, place, first_where, fits}
use Rattle.table.proofs.Places.{row-le, row_lt}
use Rattle.drum.specs.declared.Description.{Description}
use Rattle.rules.specs.declared.Which.{Which}
use Rattle.rules.specs.declared.Which.TheVariants.{First, Last, Place, Covering}
use Rattle.rules.specs.Paths.{chosen}
use Rattle.lookup.specs.Tables.{Entries, CountedRows}

-- the rows counted lie in the table, and so does the block that one of them names
module _ (p : Description) (h : Shape) (most : ℕ) (t key : List ℕ) (n : ℕ) where
  pub rows-counted : Entries p h most t key → n ≡ count h t → 1 ≤ n → n ≤ most → CountedRows h t n key
  rows-counted w e some le =
      let r = row-le n most h.stride le in
      record { counted = e; some = some; room = omega arith; width-least = omega arith; key-long = omega arith }

  pub block-there : (i : ℕ) → Entries p h most t key → n ≤ most → i < n → place h i + h.width < length t
  block-there i w le l =
      let r = row_lt i most h.stride (omega arith) in
      omega arith

-- the place, by each way to choose one
module _ (which : Which) (h : Shape) (key t : List ℕ) where
  pub chosen-first : which ≡ First → 0 ≡ chosen which h key t
  chosen-first e = rw e

  pub chosen-place : (i : ℕ) → which ≡ Place i → i ≡ chosen which h key t
  chosen-place i e = rw e

  module _ (n : ℕ) where
    pub chosen_last : n ≡ count h t → which ≡ Last → n - 1 ≡ chosen which h key t
    chosen_last en e = rw (e, en)

    pub chosen-covering : (i : ℕ) → i ≡ first_where (fits NotBelow h key t) n → n ≡ count h t → which ≡ Covering → i ≡ chosen which h key t
    chosen-covering i f en e = rw (e, ← en) f

-- the place of the code, of the key's words that it looks at
pub place_is : (which : Which) (h : Shape) (key t : List ℕ) (k i : ℕ) → h.width ≡ k → i ≡ chosen which h (part 0 h.width key) t → i ≡ chosen which h (part 0 k key) t
place_is which h key t k i e f = f ∙ ap (λ (k : ℕ). chosen which h (part 0 k key) t) e
