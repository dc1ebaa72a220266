-- XTEND that does what NSERT does, after the last block was reached: what its list of transfers writes, and how long it is.
use Prim.Native.Nat.{ℕ, ◌+◌, ◌≤◌}
use mathlib.Core.Path.{◌≡◌, refl, sym, ap, ◌∙◌}
use mathlib.Core.Bool.{Bool, true, false, cond}
use mathlib.Core.List.{List, [], ◌∷◌, ◌++◌}
use native.Mathlib.Omega.{arith}
use borrow.Author.Tests.{eqb-true}
use lib.Dec.{eqb}
use lib.ListN.{length}
use Rattle.numbers.specs.Checked.{passed}
use Rattle.drum.specs.Blocks.{Transfer, Read, writes, Texts}
use Rattle.rules.specs.declared.Path.{Path}
use Rattle.rules.specs.declared.Way.{Way}
use Rattle.rules.specs.declared.Way.TheVariants.{Here, By}
use Rattle.rules.specs.declared.Done.{Done}
use Rattle.rules.specs.declared.Insert.{Insert}
use Rattle.rules.specs.declared.Insert.TheVariants as insert-is
use Rattle.rules.specs.State.{Effect}
use Rattle.rules.specs.Lookup.{flush_moves, bringing, reached, stopping, storing, landing}
use Rattle.rules.specs.Nsert.{room_deed, split_deed, both_deed, insert_at}
use Rattle.rules.specs.NsertDone.{split_moves, both_split_moves, insert_done}
use Rattle.rules.specs.XtendDone.{reading, listed}
use Rattle.rules.specs.Fits.{Outside}
use Rattle.rules.specs.Told.{Told, gave, told}
use Rattle.numbers.proofs.Passed.{Passed, chain}
use Rattle.rules.proofs.Kept.{Kept}

-- what NSERT will do with a record whose place was found in the file
at-outside : (v : Texts) (flag : Bool) (w : Path) (i : ℕ) → Passed Outside (insert_at v flag w i)
unfolding insert_at room_deed split_deed both_deed
at-outside v flag w i = search chain depth 16

pub insert-outside : (v : Texts) (flag : Bool) (w : Path) (i : ℕ) (d : Insert) → insert_at v flag w i ≡ passed d → Outside d
insert-outside v flag w i d e = (at-outside v flag w i).holds d e

module _ (v : Texts) (work : List ℕ) where
  -- it passes
  pub insert-done : (flag : Bool) (d : Insert) → Outside d → (e : Effect) × (insert_done v flag work d ≡ passed e)
  unfolding insert_done
  insert-done flag (insert-is.Stop way n) o = (_, refl)
  insert-done flag (insert-is.Room w i n) o = (_, refl)
  insert-done flag (insert-is.Split w i d n) o = (_, refl)
  insert-done flag (insert-is.Both w i b x n) o = (_, refl)

  -- NSERT's list is short
  few : (flag : Bool) (d : Insert) → (told v flag work (insert_done v flag work d)).transfers ≤ 8
  unfolding insert_done stopping storing landing reached bringing flush_moves split_moves both_split_moves
  few flag (insert-is.Stop Here n) = omega arith
  few true (insert-is.Stop (By w) n) = omega arith
  few false (insert-is.Stop (By w) n) = omega arith
  few true (insert-is.Room w i n) = omega arith
  few false (insert-is.Room w i n) = omega arith
  few true (insert-is.Split w i d n) = omega arith
  few false (insert-is.Split w i d n) = omega arith
  few true (insert-is.Both w i b x n) = omega arith
  few false (insert-is.Both w i b x n) = omega arith

  pub insert-few : (flag : Bool) (d : Insert) (e : Effect) → insert_done v flag work d ≡ passed e → length e.transfers ≤ 8
  insert-few flag d e h = let q = few flag d in rw h at q

  pub told-few : (flag : Bool) (d : Insert) (r : Done) (g t : List ℕ) → gave r g t work ≡ told v flag work (insert_done v flag work d) → r.transfers ≤ 8
  told-few flag d r g t h =
      let q : r.transfers ≡ (told v flag work (insert_done v flag work d)).transfers = ap (λ (z : Told). z.transfers) h in
      omega (arith, few flag d)

  -- a flagged buffer is written first, and nothing else of the list is changed by the flag
  flush-first : (d : Insert) (e t : Effect) → Outside d → insert_done v true work d ≡ passed e → insert_done v false work d ≡ passed t
      → e.transfers ≡ flush_moves v true ++ t.transfers
  unfolding insert_done stopping storing landing reached bringing flush_moves
  flush-first (insert-is.Stop Here n) e t o h k = absurd o
  flush-first (insert-is.Stop (By w) n) e t o h k = cc
  flush-first (insert-is.Room w i n) e t o h k = cc
  flush-first (insert-is.Split w i d n) e t o h k = cc
  flush-first (insert-is.Both w i b x n) e t o h k = cc

  -- two equal passings pass the same
  same : (flag : Bool) (d : Insert) (e t : Effect) → insert_done v flag work d ≡ passed e → insert_done v flag work d ≡ passed t → t ≡ e
  same flag d e t h k = cc

  -- the index block read besides is not written
  unwritten : (x b : ℕ) (ys : List Transfer) → writes (cond (eqb x 0) [] (Read x ∷ []) ++ ys) b ≡ writes ys b
  unfolding writes
  unwritten x b ys = go (eqb x 0)
    where
      go : (z : Bool) → writes (cond z [] (Read x ∷ []) ++ ys) b ≡ writes ys b
      go true = refl
      go false = refl

  one-read : (x : ℕ) (ys : List Transfer) → 1 ≤ x → length (cond (eqb x 0) [] (Read x ∷ []) ++ ys) ≡ length ys + 1
  one-read x ys l = go (eqb x 0) refl
    where
      go : (z : Bool) → eqb x 0 ≡ z → length (cond z [] (Read x ∷ []) ++ ys) ≡ length ys + 1
      go true e = absurd (let q = eqb-true x 0 e in omega arith)
      go false e = omega arith

  module _ (x : ℕ) (d : Insert) (e t : Effect) (out : Outside d) where
    -- the whole list writes the blocks that NSERT's own list writes
    pub before-writes : (flag : Bool) (way : Way) → insert_done v flag work d ≡ passed e → insert_done v (reached v flag way).flag work d ≡ passed t
        → (b : ℕ) → writes ((reading x (reached v flag way)).moves ++ t.transfers) b ≡ writes e.transfers b
    unfolding reading reached bringing flush_moves writes
    before-writes flag Here h k b = unwritten x b t.transfers ∙ ap (λ u. writes u.transfers b) (same flag d e t h k)
    before-writes false (By w) h k b = unwritten x b t.transfers ∙ ap (λ u. writes u.transfers b) (same false d e t h k)
    before-writes true (By w) h k b = rw (flush-first d e t out h k, unwritten x b t.transfers) refl

    -- so it keeps lengths and blocks as NSERT does
    pub listed_kept : (flag : Bool) (way : Way) → Passed (Kept v) (insert_done v flag work d) → insert_done v flag work d ≡ passed e
        → insert_done v (reached v flag way).flag work d ≡ passed t → Kept v (listed ((reading x (reached v flag way)).moves ++ t.transfers) e)
    unfolding listed
    listed_kept flag way inner h k =
        let q = inner.holds e h in
        record {
          file-is = q.file-is;
          buffer-is = q.buffer-is;
          work-is = q.work-is;
          only = λ b l o. q.only b l (sym (before-writes flag way h k b) ∙ o);
        }

    -- and is longer by one, or by three where the last block was brought
    pub before_here : (flag : Bool) → 1 ≤ x → insert_done v flag work d ≡ passed e → insert_done v (reached v flag Here).flag work d ≡ passed t
        → length ((reading x (reached v flag Here)).moves ++ t.transfers) ≡ length e.transfers + 1
    unfolding reading reached
    before_here flag l h k = rw (same flag d e t h k) (one-read x e.transfers l)

    pub before-by : (flag : Bool) (w : Path) → 1 ≤ x → insert_done v flag work d ≡ passed e → insert_done v (reached v flag (By w)).flag work d ≡ passed t
        → length ((reading x (reached v flag (By w))).moves ++ t.transfers) ≡ length e.transfers + 3
    unfolding reading reached bringing flush_moves
    before-by false w l h k = rw (same false d e t h k) (omega (arith, one-read x e.transfers l))
    before-by true w l h k = rw (flush-first d e t out h k) (omega (arith, one-read x t.transfers l))
