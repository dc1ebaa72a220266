-- What the checks of a lookup tell once they are passed: the laws of the rules, passed on, and what the code asks besides.
use Prim.Native.Nat.{ℕ}
use mathlib.Core.Path.{◌≡◌, refl, sym, ap, ◌∙◌}
use mathlib.Core.Bool.{Bool, true, false, cond, ◌&&◌}
use mathlib.Core.List.{List}
use native.Mathlib.Omega.{arith}
use borrow.Author.Tests.{le-leb, ne_eqb}
use lib.Dec.{eqb}
use Rattle.numbers.specs.Checked.{Checked, passed, refused, ◌>>=◌, ◌>>◌, within}
use Rattle.words.specs.Words.{part}
use Rattle.table.specs.declared.Shape.{Shape}
use Rattle.table.specs.declared.Want.{Want}
use Rattle.table.specs.Tables.{count, first_where, fits}
use Rattle.drum.specs.declared.Description.{Description}
use Rattle.drum.specs.Params.{D, detail_shape}
use Rattle.drum.specs.Blocks.{Texts}
use Rattle.rules.specs.declared.Which.TheVariants.{First, Last, Place}
use Rattle.rules.specs.declared.Look.{Look}
use Rattle.rules.specs.Paths.{entry_of, path_under, path_by}
use Rattle.rules.specs.Lookup.{on_buffer, look}
use Rattle.rules.specs.Fits.{BufferFits, LookFits}
use Rattle.rules.proofs.Fits.{tested-fits, look-passed}
pub use Rattle.rules.proofs.Fits.{EntryFits, entry-fits, path-passed, path-fits, flush-fits}

-- a way by places alone does not ask the key
module _ (v : Texts) (key other : List ℕ) where
  pub first_any : path_by v First First key ≡ path_by v First First other
  unfolding path_by path_under entry_of
  first_any = refl

  pub last-any : path_by v Last Last key ≡ path_by v Last Last other
  unfolding path_by path_under entry_of
  last-any = refl

  pub place-any : (i j : ℕ) → path_by v (Place i) (Place j) key ≡ path_by v (Place i) (Place j) other
  unfolding path_by path_under entry_of
  place-any i j = refl

  pub place-first-any : (i : ℕ) → path_by v (Place i) First key ≡ path_by v (Place i) First other
  unfolding path_by path_under entry_of
  place-first-any i = refl

-- the buffered block: a test was made and holds; and a good block passes any test
module _ (v : Texts) (test : Bool) where
  pub test_fits : on_buffer v test ≡ passed true → BufferFits v × (test ≡ true)
  test_fits e = tested-fits v test true e refl

  pub test-made : BufferFits v → on_buffer v test ≡ passed test
  unfolding on_buffer
  test-made g =
      let n : v.current ≡ 0 → ⊥ = λ e. omega arith in
      simp (ne_eqb _ _ n, le-leb _ _ g.current-least, le-leb _ _ g.current-most, le-leb _ _ g.records-least, le-leb _ _ g.records-most)

  -- a test is made where the test that always holds is
  pub test-and : on_buffer v test ≡ (on_buffer v true >>= (λ here. passed (here && test)))
  unfolding on_buffer
  test-and = go (eqb v.current 0) (within 1 v.desc.n v.current) (within 1 (D v.desc) (count (detail_shape v.desc) v.buffer))
    where
      go : (t : Bool) (m n : Checked ℕ)
          → cond t (passed false) (m >> (n >> passed test)) ≡ (cond t (passed false) (m >> (n >> passed true)) >>= (λ here. passed (here && test)))
      go true m n = refl
      go false (refused x) n = refl
      go false (passed x) (refused y) = refl
      go false (passed x) (passed y) = refl

pub buffer-fits : (v : Texts) → on_buffer v true ≡ passed true → BufferFits v
buffer-fits v e = (test_fits v true e).0

-- the buffered block is good where the code's test says that there is one
pub held_fits : (v : Texts) (held : Bool) → passed held ≡ on_buffer v true → held ≡ true → BufferFits v
held_fits v held e h = buffer-fits v (sym e ∙ ap (λ (x : Bool). passed x) h)

-- what a lookup comes to
module _ (v : Texts) (flag : Bool) (key : List ℕ) where
  pub look-fits : (l : Look) → passed l ≡ look v flag key → LookFits v flag l
  look-fits l e = (look-passed v flag key).holds l (sym e)

-- a search of a detail block's rows, in the words of the definitions
pub detail-found : (p : Description) (h : Shape) (w : Want) (key t : List ℕ) (n i : ℕ) → h ≡ detail_shape p
    → i ≡ first_where (fits w h (part 0 h.width key) t) n → i ≡ first_where (fits w (detail_shape p) (part 0 p.k key) t) n
unfolding detail_shape
detail-found p h w key t n i e f = f ∙ ap (λ (x : Shape). first_where (fits w x (part 0 x.width key) t) n) e
