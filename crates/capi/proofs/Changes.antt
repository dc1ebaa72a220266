-- The same of the steps of NSERT, DLETE and XTEND: a new block is one of 1..N.
use Prim.Native.Nat.{ℕ, ◌≤◌}
use mathlib.Core.Path.{◌≡◌}
use mathlib.Core.Bool.{Bool, true, false, cond}
use mathlib.Core.List.{List, [], ◌∷◌, ◌++◌}
use native.Mathlib.Omega.{arith}
use lib.Dec.{eqb, ltb}
use lib.ListN.{length, length-append}
use Rattle.numbers.specs.Checked.{passed}
use Rattle.numbers.proofs.Passed.{Passed, chain, by-passed}
use Rattle.drum.specs.Blocks.{Transfer, Read, Texts, Fitting}
use Rattle.rules.specs.declared.Path.{Path}
use Rattle.rules.specs.declared.Way.{Way}
use Rattle.rules.specs.declared.Way.TheVariants.{Here, By}
use Rattle.rules.specs.declared.Look.{Look}
use Rattle.rules.specs.declared.Look.TheVariants as look_is
use Rattle.rules.specs.declared.Taken.{Taken}
use Rattle.rules.specs.declared.Pair.{Pair}
use Rattle.rules.specs.declared.Insert.{Insert}
use Rattle.rules.specs.declared.Insert.TheVariants as insert-is
use Rattle.rules.specs.declared.Delete.{Delete}
use Rattle.rules.specs.declared.Delete.TheVariants as delete-is
use Rattle.rules.specs.declared.Extend.{Extend}
use Rattle.rules.specs.declared.Extend.TheVariants as extend-is
use Rattle.rules.specs.State.{Effect}
use Rattle.rules.specs.Paths.{path_to}
use Rattle.rules.specs.Lookup.{look, reached, stopping, storing}
use Rattle.rules.specs.Free.{take_one, take_two}
use Rattle.rules.specs.Fits.{PathFits, FlushFits, WayFits, LookFits}
use Rattle.rules.specs.Nsert.{room_deed, split_deed, both_deed, insert_at, insert_after, insert_deed}
use Rattle.rules.specs.NsertDone.{split_moves, both_split_moves, half_of, insert_done, nsert_steps}
use Rattle.rules.specs.Dlete.{empty_deed, empty_at, delete_after, delete_deed, empty_moves, empty_all, both_all, emptying, delete_done, dlete_steps}
use Rattle.rules.specs.Xtend as x
use Rattle.rules.specs.XtendDone as y
use Rattle.rules.proofs.Fits.{path-fits, flush-of, look-passed, last-passed}
use Rattle.rules.proofs.Takes.{one-new, two-new}
use Rattle.rules.proofs.Before.{insert-few}
use Rattle.capi.proofs.Modest.{Modest, way-brought, stop-modest, store-modest, land-modest, more-few}

module _ (v : Texts) (fit : Fitting v.desc v.file v.buffer) (flag : Bool) (work : List ℕ) where
  looked : (key : List ℕ) (l : Look) → look v flag key ≡ passed l → LookFits v flag l
  looked key l e = (look-passed v flag key).holds l e

  -- NSERT
  record Inserts (d : Insert) : Type 0 where
    modest : Passed (Modest v) (insert_done v flag work d)

  module _ (w : Path) (path : PathFits v w) (due : FlushFits v flag) where
    half-most : (n i b : ℕ) → b ≤ v.desc.n → half_of n i w.detail b ≤ v.desc.n
    half-most n i b new = go (ltb i _)
      where
        go : (t : Bool) → cond t w.detail b ≤ v.desc.n
        go true = path.detail-most
        go false = new

    stop-deed : (n : ℕ) → Inserts (insert-is.Stop (By w) n)
    unfolding insert_done
    stop-deed n = record { modest = by-passed _ (stop-modest v fit n work (reached v flag (By w)) (way-brought v fit flag (By w) (path, due))) }

    room-deed : (i n : ℕ) → Inserts (insert-is.Room w i n)
    unfolding insert_done
    room-deed i n = record { modest = by-passed _ (store-modest v fit n work (reached v flag (By w)) _ (way-brought v fit flag (By w) (path, due))) }

    split-deed : (i n : ℕ) (d : Taken) → take_one v flag w ≡ passed d → eqb d.block 0 ≡ false → Inserts (insert-is.Split w i d n)
    unfolding insert_done split_moves
    split-deed i n d e z =
        let new = (one-new v flag w d e z).new.block in
        record { modest = by-passed _ (land-modest v fit n work _ _ _ (half-most _ i d.block new.1) (more-few v fit flag (By w) _ (path, due) (omega arith))) }

    both-deed : (i n : ℕ) (t : Pair) → take_two v flag w ≡ passed t → eqb t.detail 0 ≡ false → Inserts (insert-is.Both w i t.detail t.index n)
    unfolding insert_done both_split_moves
    both-deed i n t e z =
        let new = (two-new v flag w t e z).detail.block in
        record { modest = by-passed _ (land-modest v fit n work _ _ _ (half-most _ i t.detail new.1) (more-few v fit flag (By w) _ (path, due) (omega arith))) }

  duplicate-deed : (way : Way) (i n : ℕ) → LookFits v flag (look_is.Found way i) → Inserts (insert-is.Stop way n)
  unfolding insert_done
  duplicate-deed way i n h = record { modest = by-passed _ (stop-modest v fit n work (reached v flag way) (way-brought v fit flag way h.0)) }

  -- at a place of the block that a lookup came to
  insert-at : (w : Path) (i : ℕ) → PathFits v w → FlushFits v flag → Passed Inserts (insert_at v flag w i)
  unfolding insert_at room_deed split_deed both_deed
  insert-at w i path due = search (chain, stop-deed, room-deed, split-deed, both-deed) depth 16

  insert-after : (key : List ℕ) (l : Look) → LookFits v flag l → Passed Inserts (insert_after v flag key l)
  unfolding insert_after
  insert-after key (look_is.Found way i) h = by-passed _ (duplicate-deed way i _ h)
  insert-after key (look_is.Missing w) h = insert-at w _ h.0 h.1

  insert-passed : (key : List ℕ) → Passed Inserts (insert_deed v flag key)
  unfolding insert_deed
  insert-passed key = search (chain, insert-after, looked)

  insert-done : (key : List ℕ) (d : Insert) → insert_deed v flag key ≡ passed d → Passed (Modest v) (insert_done v flag work d)
  insert-done key d e = ((insert-passed key).holds d e).modest

  pub nsert-modest : Passed (Modest v) (nsert_steps v flag work)
  unfolding nsert_steps
  nsert-modest = search (chain, insert-done)

  -- DLETE
  record Deletes (d : Delete) : Type 0 where
    modest : Passed (Modest v) (delete_done v flag work d)

  stopped : (w : Path) → LookFits v flag (look_is.Missing w) → Deletes (delete-is.Stop w)
  unfolding delete_done
  stopped w h = record { modest = by-passed _ (stop-modest v fit _ work (reached v flag (By w)) (way-brought v fit flag (By w) h)) }

  removing : (way : Way) (i : ℕ) → LookFits v flag (look_is.Found way i) → Deletes (delete-is.Remove way i)
  unfolding delete_done
  removing way i h = record { modest = by-passed _ (store-modest v fit _ work (reached v flag way) _ (way-brought v fit flag way h.0)) }

  emptied : (moves : List Transfer) (f : List ℕ) → length moves ≤ 16 → Modest v (emptying v.desc work moves f)
  unfolding emptying
  emptied moves f l = record { current-most = λ c. omega arith; few = l }

  either : (t : Bool) (way : Way) (w : Path) (head : ℕ) → WayFits v flag way → Deletes (cond t (delete-is.Both way w head) (delete-is.Empty way w head))
  unfolding delete_done both_all empty_all empty_moves
  either true way w head h = record { modest = by-passed _ (emptied _ _ (more-few v fit flag way _ h (omega arith))) }
  either false way w head h = record { modest = by-passed _ (emptied _ _ (more-few v fit flag way _ h (omega arith))) }

  delete-after : (key : List ℕ) (l : Look) → LookFits v flag l → Passed Deletes (delete_after v key l)
  unfolding delete_after empty_at empty_deed
  delete-after key (look_is.Missing w) h = by-passed _ (stopped w h)
  delete-after key (look_is.Found Here i) h = let r = removing Here i h in let b : WayFits v flag Here = h.0 in search (chain, either) depth 12
  delete-after key (look_is.Found (By w) i) h = let r = removing (By w) i h in let b : WayFits v flag (By w) = h.0 in search (chain, either) depth 12

  delete-passed : (key : List ℕ) → Passed Deletes (delete_deed v flag key)
  unfolding delete_deed
  delete-passed key = search (chain, delete-after, looked)

  delete-done : (key : List ℕ) (d : Delete) → delete_deed v flag key ≡ passed d → Passed (Modest v) (delete_done v flag work d)
  delete-done key d e = ((delete-passed key).holds d e).modest

  pub dlete-modest : Passed (Modest v) (dlete_steps v flag work)
  unfolding dlete_steps
  dlete-modest = search (chain, delete-done)

  -- XTEND
  record Extends (d : Extend) : Type 0 where
    modest : Passed (Modest v) (y.extend_done v flag work d)

  index_read : (n : ℕ) → length (cond (eqb n 0) [] (Read n ∷ [])) ≤ 1
  index_read n = go (eqb n 0)
    where
      go : (t : Bool) → length (cond t [] (Read n ∷ [])) ≤ 1
      go true = omega arith
      go false = omega arith

  module _ (way : Way) (reach : WayFits v flag way) where
    reading-few : (n : ℕ) → length (y.reading n (reached v flag way)).moves ≤ 16
    unfolding y.reading
    reading-few n = let r = index_read n in more-few v fit flag way _ reach (omega arith)

    extend-stop : (n z : ℕ) → Extends (extend-is.Stop way n z)
    unfolding y.extend_done y.reading stopping
    extend-stop n z = record { modest = by-passed _ (record { current-most = (way-brought v fit flag way reach).current-most; few = reading-few n }) }

    extend-room : (n z : ℕ) → Extends (extend-is.Room way n z)
    unfolding y.extend_done y.reading storing
    extend-room n z = record { modest = by-passed _ (record { current-most = (way-brought v fit flag way reach).current-most; few = reading-few n }) }

    extend-new : (w : Path) (n : ℕ) (d : Taken) → take_one v flag w ≡ passed d → eqb d.block 0 ≡ false → Extends (extend-is.New way w d n)
    unfolding y.extend_done y.new_moves
    extend-new w n d e z =
        let new = (one-new v flag w d e z).new.block in
        record { modest = by-passed _ (land-modest v fit n work _ _ _ new.1 (more-few v fit flag way _ reach (omega arith))) }

    extend-both : (w : Path) (n : ℕ) (t : Pair) → take_two v flag w ≡ passed t → eqb t.detail 0 ≡ false
        → Extends (extend-is.Both way w t.detail t.index n)
    unfolding y.extend_done y.section_moves
    extend-both w n t e z =
        let new = (two-new v flag w t e z).detail.block in
        record { modest = by-passed _ (land-modest v fit n work _ _ _ new.1 (more-few v fit flag way _ reach (omega arith))) }

    -- the last block reached, and then what NSERT does
    listed-modest : (n : ℕ) (d : Insert) (e t : Effect) → Passed (Modest v) (insert_done v flag work d) → insert_done v flag work d ≡ passed e
        → insert_done v (reached v flag way).flag work d ≡ passed t → Modest v (y.listed ((y.reading n (reached v flag way)).moves ++ t.transfers) e)
    unfolding y.listed y.reading
    listed-modest n d e t inner h k =
        let a = (way-brought v fit flag way reach).few in
        let r = index_read n in
        let m = insert-few v work (reached v flag way).flag d t k in
        record { current-most = (inner.holds e h).current-most; few = simp length-append (omega arith) }

    extend-before : (w : Path) (d : Insert) → Passed (Modest v) (insert_done v flag work d) → Extends (extend-is.Before way w d)
    unfolding y.extend_done
    extend-before w d inner = record { modest = search (chain, listed-modest) }

    extend-turned : (key : List ℕ) (w q : Path) (n : ℕ) → path_to v key ≡ passed q → Extends (extend-is.Before way w (insert-is.Stop (By q) n))
    extend-turned key w q n e = extend-before w _ (stop-deed q (path-fits v _ _ key q e) (flush-of v flag way reach) n).modest

    extend-inserted : (key : List ℕ) (w q : Path) (i : ℕ) (d : Insert) → path_to v key ≡ passed q → insert_at v flag q i ≡ passed d
        → Extends (extend-is.Before way w d)
    extend-inserted key w q i d e f = extend-before w d ((insert-at q i (path-fits v _ _ key q e) (flush-of v flag way reach)).holds d f).modest

  last_fits : (way : Way) → x.last_way v flag ≡ passed way → WayFits v flag way
  last_fits way e = (last-passed v flag).holds way e

  extend-passed : (key : List ℕ) → Passed Extends (x.extend_deed v flag key)
  unfolding x.extend_deed x.extend_at x.alone_deed x.look_deed x.insert_before x.last_room x.new_deed x.new_at x.start_deed x.section_deed
  extend-passed key = search (chain, last_fits, extend-stop, extend-turned, extend-inserted, extend-room, extend-new, extend-both) depth 24

  extend-done : (key : List ℕ) (d : Extend) → x.extend_deed v flag key ≡ passed d → Passed (Modest v) (y.extend_done v flag work d)
  extend-done key d e = ((extend-passed key).holds d e).modest

  pub xtend-modest : Passed (Modest v) (y.xtend_steps v flag work)
  unfolding y.xtend_steps
  xtend-modest = search (chain, extend-done)
