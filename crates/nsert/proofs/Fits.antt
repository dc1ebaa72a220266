-- What NSERT's plan, once it passed its checks, tells the code that does it.
use Prim.Native.Nat.{ℕ, ◌≤◌}
use mathlib.Core.Path.{◌≡◌, sym}
use mathlib.Core.Bool.{Bool, true, false}
use mathlib.Core.List.{List}
use native.Mathlib.Omega.{arith}
use borrow.Author.Tests.{ltb-true}
use lib.Dec.{ltb, eqb}
use Rattle.std.proofs.Common.{Result, Ok, Err, IfOk}
use Rattle.numbers.specs.declared.Refusal.{Refusal}
use Rattle.numbers.specs.Numbers.{not_found}
use Rattle.numbers.specs.Checked.{passed}
use Rattle.numbers.specs.Refused.{checked}
use Rattle.table.specs.Tables.{count, row_above, fits}
use Rattle.table.specs.declared.Want.TheVariants.{Over}
use Rattle.table.proofs.Searches.{first-le}
use Rattle.drum.specs.Params.{D, I, detail_shape, index_shape}
use Rattle.drum.specs.Blocks.{Texts, text_of}
use Rattle.rules.specs.declared.Path.{Path}
use Rattle.rules.specs.declared.Way.TheVariants.{By}
use Rattle.rules.specs.declared.Look.{Look}
use Rattle.rules.specs.declared.Look.TheVariants as look_is
use Rattle.rules.specs.declared.Taken.{Taken}
use Rattle.rules.specs.declared.Pair.{Pair}
use Rattle.rules.specs.declared.Insert.{Insert}
use Rattle.rules.specs.declared.Insert.TheVariants.{Stop}
use Rattle.rules.specs.Lookup.{look}
use Rattle.rules.specs.Free.{take_one, take_two}
use Rattle.rules.specs.Fits.{PathFits, FlushFits, WayFits, LookFits}
use Rattle.rules.specs.Nsert.{room_deed, split_deed, both_deed, insert_at, insert_after, insert_deed}
use Rattle.rules.proofs.Fits.{look-passed}
use Rattle.rules.proofs.Takes.{one-new, two-new}
use Rattle.numbers.proofs.Passed.{Passed, chain, by-bind, by-passed}
use Rattle.nsert.specs.Fits.{RoomFits, SplitFits, BothFits, InsertFits, one_split, first_split}

module _ (v : Texts) (flag : Bool) (w : Path) (path : PathFits v w) (flush : FlushFits v flag) (i : ℕ) where
  stop-fits : WayFits v flag (By w)
  stop-fits = (path, flush)

  module _ (place : i ≤ count (detail_shape v.desc) (text_of v w.detail)) where
    most : i ≤ D v.desc
    most = omega (arith, place, path.records-most)

    room_fits : ltb (count (detail_shape v.desc) (text_of v w.detail)) (D v.desc) ≡ true → RoomFits v flag w i
    room_fits e = record { flush = flush; path = path; place = place; room = ltb-true _ _ e }

    split-fits : (d : Taken) → ltb (count (index_shape v.desc) (text_of v w.index)) (I v.desc) ≡ true → take_one v flag w ≡ passed d
        → eqb d.block 0 ≡ false → SplitFits v flag (one_split w i d)
    split-fits d room e z = record {
      cut = record { flush = flush; path = path; place = most; new = one-new v flag w d e z };
      room = ltb-true _ _ room;
    }

    both-fits : (t : Pair) → take_two v flag w ≡ passed t → eqb t.detail 0 ≡ false → BothFits v flag (first_split w i t.detail t.index) t.index.block
    both-fits t e z =
        let x = two-new v flag w t e z in
        record {
          cut = record { flush = flush; path = path; place = most; new = record { new = x.detail; head-most = x.head-most } };
          index = x.index;
          two = x.two;
          section = x.section;
        }

    at-passed : Passed (InsertFits v flag) (insert_at v flag w i)
    unfolding insert_at room_deed split_deed both_deed
    at-passed = search (chain, stop-fits, room_fits, split-fits, both-fits) depth 16

module _ (v : Texts) (flag : Bool) (key : List ℕ) where
  -- the record goes to its place in the block of a path
  place-passed : (w : Path) → PathFits v w → FlushFits v flag
      → Passed (InsertFits v flag) (insert_at v flag w (row_above (detail_shape v.desc) key (text_of v w.detail)))
  place-passed w path flush =
      at-passed v flag w path flush (row_above (detail_shape v.desc) key (text_of v w.detail))
      (first-le (fits Over (detail_shape v.desc) key (text_of v w.detail)) (count (detail_shape v.desc) (text_of v w.detail)))

  pub place-fits : (w : Path) (d : Insert) → PathFits v w → FlushFits v flag
      → insert_at v flag w (row_above (detail_shape v.desc) key (text_of v w.detail)) ≡ passed d → InsertFits v flag d
  place-fits w d path flush e = (place-passed w path flush).holds d e

  looked : (l : Look) → look v flag key ≡ passed l → LookFits v flag l
  looked l e = (look-passed v flag key).holds l e

  after-passed : (l : Look) → LookFits v flag l → Passed (InsertFits v flag) (insert_after v flag key l)
  unfolding insert_after
  after-passed (look_is.Found way i) h = by-passed (Stop way not_found) h.0
  after-passed (look_is.Missing w) h = place-passed w h.0 h.1

  deed-passed : Passed (InsertFits v flag) (insert_deed v flag key)
  unfolding insert_deed
  deed-passed = by-bind (look v flag key) (λ l. insert_after v flag key l) (λ l e. after-passed l (looked l e))

-- what a plan that was passed tells the code that does it
pub plan-fits : (v : Texts) (flag : Bool) (key : List ℕ) (plan : Result Insert Refusal) → checked plan ≡ insert_deed v flag key
    → IfOk plan (InsertFits v flag)
plan-fits v flag key (Ok d) e = (deed-passed v flag key).holds d (sym e)
plan-fits v flag key (Err r) e = search
