-- What the checks of XTEND tell once they are passed: of the way to the last block, of the path to it, of what XTEND will do.
use Prim.Native.Nat.{ℕ, ◌≤◌}
use mathlib.Core.Path.{◌≡◌, refl, sym}
use mathlib.Core.Bool.{Bool, true, false}
use mathlib.Core.List.{List, []}
use native.Mathlib.Omega.{arith}
use borrow.Author.Tests.{ltb-true, eqb-true}
use lib.Dec.{ltb, eqb}
use lib.ListN.{length}
use Rattle.numbers.specs.Numbers.{bad_file}
use Rattle.numbers.specs.Checked.{passed, require}
use Rattle.words.specs.Words.{part}
use Rattle.table.specs.Tables.{count, row_above}
use Rattle.drum.specs.declared.Description.{Description}
use Rattle.drum.specs.Params.{D, FD, FI, good_params, detail_shape, index_shape}
use Rattle.drum.specs.Blocks.{Texts, Fitting, seen, text_of}
use Rattle.drum.proofs.Good.{caps}
use Rattle.drum.proofs.Blocks.{length-text_of, text-current}
use Rattle.rules.specs.declared.Which.TheVariants.{Last}
use Rattle.rules.specs.declared.Path.{Path}
use Rattle.rules.specs.declared.Way.{Way}
use Rattle.rules.specs.declared.Way.TheVariants.{Here, By}
use Rattle.rules.specs.declared.Taken.{Taken}
use Rattle.rules.specs.declared.Pair.{Pair}
use Rattle.rules.specs.declared.Insert.{Insert}
use Rattle.rules.specs.declared.Insert.TheVariants as insert-is
use Rattle.rules.specs.declared.Extend.{Extend}
use Rattle.rules.specs.Paths.{path_to, last_path}
use Rattle.rules.specs.Lookup.{text_at}
use Rattle.rules.specs.Free.{take_one, take_two}
use Rattle.rules.specs.Nsert.{insert_at}
use Rattle.rules.specs.Xtend.{last_way, last_of, last_room, insert_before, look_deed, alone_deed, start_deed, section_deed, new_at, new_deed, extend_at, extend_deed}
use Rattle.rules.specs.Fits.{PathFits, WayFits}
use Rattle.numbers.proofs.Passed.{Passed, chain, required}
use Rattle.rules.proofs.Fits.{path-fits, flush-of, last-passed}
use Rattle.rules.proofs.Takes.{one-new, two-new}
use Rattle.rules.proofs.Before.{insert-outside}
use Rattle.nsert.proofs.Fits.{place-fits}
use Rattle.xtend.specs.Fits.{AtFits, LastTakes, NewFits, SectionFits, BeforeFits, ExtendFits}
use Rattle.xtend.specs.Steps.{starting}

-- the block at the end of a way
module _ (v : Texts) where
  pub way_at : (flag : Bool) (way : Way) → WayFits v flag way → AtFits v way
  way_at flag Here h = h
  way_at flag (By w) h = h.0

  pub at-counts : (way : Way) → AtFits v way → (1 ≤ count (detail_shape v.desc) (text_at v way)) × (count (detail_shape v.desc) (text_at v way) ≤ D v.desc)
  at-counts Here h = (h.records-least, h.records-most)
  at-counts (By w) h = (h.records-least, h.records-most)

  pub at_length : (way : Way) → Fitting v.desc v.file v.buffer → AtFits v way → length (text_at v way) ≡ v.desc.wpb
  at_length Here fit h = fit.buffer-is
  at_length (By w) fit h = length-text_of v w.detail fit (h.detail-least, h.detail-most)

  pub way-fits : (flag : Bool) (way : Way) → last_way v flag ≡ passed way → WayFits v flag way
  way-fits flag way e = (last-passed v flag).holds way e

-- the path to the last block, which the way leads to
pub record LastFits (v : Texts) (way : Way) (w : Path) : Type 0 where
  pub path : PathFits v w
  pub text : text_at v way ≡ text_of v w.detail

module _ (v : Texts) where
  last-here : (w : Path) (x : Bool) → last_path v ≡ passed w → require (eqb w.detail v.current) bad_file ≡ passed x → LastFits v Here w
  last-here w x e r = record {
    path = path-fits v Last Last [] w e;
    text = sym (text-current v w.detail (eqb-true w.detail v.current (required (eqb w.detail v.current) bad_file x r)));
  }

  last-passed-of : (way : Way) → AtFits v way → Passed (LastFits v way) (last_of v way)
  unfolding last_of
  last-passed-of Here h = search (chain, last-here) depth 12
  last-passed-of (By w) h =
      let f : LastFits v (By w) w = record { path = h; text = refl } in
      search (chain, f) depth 12

  pub last_fits : (way : Way) → AtFits v way → (w : Path) → last_of v way ≡ passed w → LastFits v way w
  last_fits way h w e = (last-passed-of way h).holds w e

-- the end record starts a new block
module _ (v : Texts) (flag : Bool) (way : Way) (reached : WayFits v flag way) (w : Path) (last : LastFits v way w) (n : ℕ) where
  new-facts : (d : Taken) → take_one v flag w ≡ passed d → ltb (count (index_shape v.desc) (text_of v w.index)) (FI v.desc) ≡ true
      → eqb d.block 0 ≡ false → NewFits v flag (starting way w d)
  unfolding FI
  new-facts d e l z =
      let one = one-new v flag w d e z in
      let m = ltb-true (count (index_shape v.desc) (text_of v w.index)) (FI v.desc) l in
      record {
        start = record {
          ready = record { reached = reached; path = last.path; text = last.text; head-most = one.head-most };
          new = one.new;
        };
        room = omega arith;
      }

  both_facts : (t : Pair) → take_two v flag w ≡ passed t → eqb t.detail 0 ≡ false
      → SectionFits v flag (starting way w (record { block = t.detail; head = t.index.head; lowest = t.index.lowest })) t.index.block
  both_facts t e z =
      let two = two-new v flag w t e z in
      record {
        start = record {
          ready = record { reached = reached; path = last.path; text = last.text; head-most = two.head-most };
          new = two.detail;
        };
        index = two.index.block;
        section = two.section;
      }

  new-passed : Passed (ExtendFits v flag) (new_at v flag way w n)
  unfolding new_at start_deed section_deed
  new-passed = search (chain, reached, new-facts, both_facts) depth 16

-- what XTEND will do
module _ (v : Texts) (good : good_params v.desc ≡ true) (flag : Bool) (key : List ℕ) where
  room-passed : (way : Way) (x : ℕ) → LastTakes v flag way → Passed (ExtendFits v flag) (last_room v way x)
  unfolding last_room
  room-passed way x r = search (chain, r) depth 12

  -- it looks the key up, and does as NSERT does there
  module _ (way : Way) (reached : WayFits v flag way) (w : Path) (last : PathFits v w) where
    turned-fits : (q : Path) (n : ℕ) → path_to v key ≡ passed q → BeforeFits v flag w (insert-is.Stop (By q) n)
    turned-fits q n e = record { last = last; insert = (path-fits v _ _ key q e, flush-of v flag way reached); outside = tt }

    before-fits : (q : Path) (d : Insert) → path_to v key ≡ passed q
        → insert_at v flag q (row_above (detail_shape v.desc) key (text_of v q.detail)) ≡ passed d → BeforeFits v flag w d
    before-fits q d e i = record {
      last = last;
      insert = place-fits v flag key q d (path-fits v _ _ key q e) (flush-of v flag way reached) i;
      outside = insert-outside v flag q _ d i;
    }

    look-passed : Passed (ExtendFits v flag) (look_deed v flag key way w)
    unfolding look_deed insert_before
    look-passed = search (chain, turned-fits, before-fits) depth 16

  alone-passed : (way : Way) → WayFits v flag way → count (detail_shape v.desc) (text_at v way) ≡ 1 → Passed (ExtendFits v flag) (alone_deed v flag key way)
  unfolding alone_deed
  alone-passed way h e =
      let g = caps v.desc good in
      let f = g.facts in
      let r : LastTakes v flag way = record { reached = h; room = omega arith } in
      let room : (x : ℕ) → Passed (ExtendFits v flag) (last_room v way x) = λ x. room-passed way x r in
      let look : (w : Path) → last_of v way ≡ passed w → Passed (ExtendFits v flag) (look_deed v flag key way w) =
      λ w e. look-passed way h w (last_fits v way (way_at v flag way h) w e).path
      in
      search (chain, room, look) depth 12

  at-passed : (way : Way) → WayFits v flag way → Passed (ExtendFits v flag) (extend_at v flag key way)
  unfolding extend_at new_deed
  at-passed way h = search (chain, h, alone, room, new) depth 12
    where
      alone : eqb (count (detail_shape v.desc) (text_at v way)) 1 ≡ true → Passed (ExtendFits v flag) (alone_deed v flag key way)
      alone e = alone-passed way h (eqb-true (count (detail_shape v.desc) (text_at v way)) 1 e)

      room : ltb (count (detail_shape v.desc) (text_at v way)) (FD v.desc) ≡ true → Passed (ExtendFits v flag) (last_room v way 0)
      room e =
          let g = caps v.desc good in
          let m = ltb-true (count (detail_shape v.desc) (text_at v way)) (FD v.desc) e in
          room-passed way 0 (record { reached = h; room = omega arith })

      new : (w : Path) → last_of v way ≡ passed w → Passed (ExtendFits v flag) (new_at v flag way w (count (detail_shape v.desc) (text_at v way)))
      new w e = new-passed v flag way h w (last_fits v way (way_at v flag way h) w e) (count (detail_shape v.desc) (text_at v way))

  deed-passed : Passed (ExtendFits v flag) (extend_deed v flag key)
  unfolding extend_deed
  deed-passed = search (chain, arm) depth 12
    where
      arm : (way : Way) → last_way v flag ≡ passed way → Passed (ExtendFits v flag) (extend_at v flag key way)
      arm way e = at-passed way (way-fits v flag way e)

-- and of the texts that the code has, with the key in its workspace
pub plan-fits : (p : Description) (cur : ℕ) (f b : List ℕ) (flag : Bool) (work : List ℕ) (d : Extend)
    → passed d ≡ extend_deed (seen p cur f b) flag (part 0 p.k work) → Fitting p f b → ExtendFits (seen p cur f b) flag d
plan-fits p cur f b flag work d e fit = (deed-passed (seen p cur f b) fit.good flag (part 0 p.k work)).holds d (sym e)
