-- What the code tells of a record stored, of a block split and of both blocks split, is what the definition tells.
use mathlib.Core.Path.{◌≡◌, sym, ap, ◌∙◌, subst}
use mathlib.Core.Bool.{Bool, true, false, cond}
use mathlib.Core.List.{List, [], ◌++◌}
use Prim.Native.Nat.{ℕ, ◌+◌, ◌≤◌, ◌<◌}
use native.Mathlib.Omega.{arith}
use borrow.Author.Tests.{lt-ltb, le-ltb}
use lib.Dec.{ltb}
use mir.Syntax.{w64}
use mir.Val.{Fits}
use lib.ListN.{length, length-append}
use Rattle.std.proofs.Common.{Result, Ok, Err}
use Rattle.numbers.specs.declared.Refusal.{Refusal}
use Rattle.numbers.specs.Checked.{passed}
use Rattle.numbers.specs.Refused.{checked}
use Rattle.words.specs.Words.{part}
use Rattle.table.specs.declared.Shape.{Shape}
use Rattle.table.specs.Tables.{count, place, inserted}
use Rattle.table.specs.Splits.{low_count}
use Rattle.drum.specs.declared.Description.{Description}
use Rattle.drum.specs.Params.{D, detail_shape}
use Rattle.drum.specs.Blocks.{Fitting, Texts, seen, text_of, block_at, Block}
use Rattle.drum.proofs.Good.{caps}
use Rattle.drum.proofs.Forms.{detail-tag}
use Rattle.drum.proofs.Blocks.{length-text_of}
use Rattle.rules.specs.declared.Done.{Done}
use Rattle.rules.specs.declared.Path.{Path}
use Rattle.rules.specs.declared.Way.{Way}
use Rattle.rules.specs.declared.Way.TheVariants.{By}
use Rattle.rules.specs.declared.Taken.{Taken}
use Rattle.rules.specs.declared.Insert.{Insert}
use Rattle.rules.specs.declared.Insert.TheVariants.{Stop, Room, Split, Both}
use Rattle.rules.specs.State.{record_in, key_in}
use Rattle.rules.specs.Lookup.{bringing, reached, storing, landing, stopping}
use Rattle.rules.specs.Fits.{WayFits}
use Rattle.rules.specs.Nsert.{insert_deed}
use Rattle.rules.specs.NsertDone.{half_of, split_moves, both_split_moves, split_file, both_split_file, insert_done, nsert_steps}
use Rattle.rules.specs.Told.{Told, gave, told}
use Rattle.rules.proofs.Rooms.{detail-row}
use Rattle.rules.proofs.Kept.{reached-text}
use Rattle.acts.specs.declared.Arrived.{Arrived}
use Rattle.acts.specs.Reach.{Come, come, came}
use Rattle.acts.proofs.Moves.{stopped}
use Rattle.acts.proofs.Ways.{moves-most}
use Rattle.nsert.specs.declared.splits.Overflow.{Overflow}
use Rattle.nsert.specs.Fits.{RoomFits, CutFits, HalfFits, SplitFits, BothFits, InsertFits, one_split, first_split}
use Rattle.nsert.specs.Plans.{plan_done}

-- a key lies in a record
pub key-within : (p : Description) (f b : List ℕ) → Fitting p f b → p.k ≤ p.wpr
key-within p f b fit = (caps p fit.good).facts.key

-- of the two blocks of a split, the half with the record
module _ (n i old new : ℕ) where
  pub half-low : (low : ℕ) → low ≡ low_count n → i < low → old ≡ half_of n i old new
  half-low low e h = simp (← e, lt-ltb _ _ h)

  pub half_high : (low : ℕ) → low ≡ low_count n → low ≤ i → new ≡ half_of n i old new
  half_high low e h = simp (← e, le-ltb _ _ h)

  half_in : (p : Description) → Block p old → Block p new → Block p (half_of n i old new)
  half_in p a b = go (ltb i (low_count n))
    where
      go : (t : Bool) → Block p (cond t old new)
      go true = a
      go false = b

-- the half is a block, and the buffer takes it
module _ (p : Description) (c : Overflow) (half n : ℕ) (eh : half ≡ half_of n c.place c.path.detail c.new.block) where
  pub half-least : HalfFits p c → 1 ≤ half
  half-least x = rw eh (half_in n c.place c.path.detail c.new.block p (x.old-least, x.old-most) (x.new-least, x.new-most)).0

  pub half-most : HalfFits p c → half ≤ p.n
  half-most x = rw eh (half_in n c.place c.path.detail c.new.block p (x.old-least, x.old-most) (x.new-least, x.new-most)).1

  pub half-landed : (number transfers : ℕ) (r : Done)
      → r ≡ record { number = number; transfers = transfers; current = half; flag = false; keyed = true } → n ≡ D p
      → r ≡ record {
        number = number;
        transfers = transfers;
        current = half_of (D p) c.place c.path.detail c.new.block;
        flag = false;
        keyed = true;
      }
  half-landed number transfers r er en =
      er ∙ (λ j. record {
        number = number;
        transfers = transfers;
        current = (eh ∙ ap (λ (m : ℕ). half_of m c.place c.path.detail c.new.block) en) j;
        flag = false;
        keyed = true;
      })

  pub half-text : (f t : List ℕ) → t ≡ block_at p f half → n ≡ D p → t ≡ block_at p f (half_of (D p) c.place c.path.detail c.new.block)
  half-text f t et en = et ∙ ap (block_at p f) (eh ∙ ap (λ (m : ℕ). half_of m c.place c.path.detail c.new.block) en)

-- a block with room, reached: the record goes into the buffer
module _ (p : Description) (cur : ℕ) (f b : List ℕ) (flag : Bool) (w : Path) (a : Arrived) (g t : List ℕ)
    (e : came a g t ≡ come (reached (seen p cur f b) flag (By w))) where
  abbrev v : Texts
  v = seen p cur f b

  text-is : t ≡ text_of v w.detail
  text-is = ap (λ (z : Come). z.buffer) e ∙ reached-text v flag (By w)

  module _ (i : ℕ) (h : Shape) (eh : h ≡ detail_shape p) where
    pub room-base : 1 ≤ h.base
    unfolding detail_shape
    room-base = rw eh (omega arith)

    module _ (x : RoomFits v flag w i) (fit : Fitting p f b) where
      pub room_row : place h (count h t) + h.stride ≤ length t
      unfolding detail_shape
      room_row =
          let l = length-text_of v w.detail fit (x.path.detail-least, x.path.detail-most) in
          rw (eh, text-is, l) (detail-row p fit.good (count (detail_shape p) (text_of v w.detail)) x.room)

      pub room-place : i ≤ count h t
      room-place = rw (eh, text-is) x.place

      pub room_most : h.tag + count h t < 262143
      room_most =
          let q = caps p fit.good in
          let k = q.facts in
          let m = x.room in
          rw (eh, text-is) (omega (arith, detail-tag p fit.good))

    pub room-long : (work : List ℕ) → length work ≡ p.wpr → 0 + h.stride ≤ length work
    unfolding detail_shape
    room-long work l = rw eh (omega arith)

    pub room-buffer : (work u : List ℕ) → u ≡ inserted h i (part 0 h.stride work) t
        → u ≡ inserted (detail_shape p) i (record_in p work) (reached v flag (By w)).buffer
    unfolding detail_shape
    room-buffer work u eu = eu ∙ (λ j. inserted (eh j) i (part 0 (eh j).stride work) (e j).buffer)

  pub room-moves : a.transfers ≡ length (reached v flag (By w)).moves
  room-moves = ap (λ (z : Come). z.transfers) e

  pub room-file : g ≡ (reached v flag (By w)).file
  room-file = ap (λ (z : Come). z.file) e

-- what each deed relies on, and what it tells
module _ (p : Description) (cur : ℕ) (f b : List ℕ) (flag : Bool) (d : Insert) where
  abbrev u : Texts
  u = seen p cur f b

  pub stop-fits : (way : Way) (n : ℕ) → d ≡ Stop way n → InsertFits u flag d → WayFits u flag way
  stop-fits way n e h = subst (InsertFits u flag) e h

  pub room_fits : (w : Path) (i n : ℕ) → d ≡ Room w i n → InsertFits u flag d → RoomFits u flag w i
  room_fits w i n e h = subst (InsertFits u flag) e h

  pub split-fits : (w : Path) (i : ℕ) (x : Taken) (n : ℕ) → d ≡ Split w i x n → InsertFits u flag d → SplitFits u flag (one_split w i x)
  split-fits w i x n e h = subst (InsertFits u flag) e h

  pub both-fits : (w : Path) (i y : ℕ) (x : Taken) (n : ℕ) → d ≡ Both w i y x n → InsertFits u flag d → BothFits u flag (first_split w i y x) x.block
  both-fits w i y x n e h = subst (InsertFits u flag) e h

  -- the two blocks of a split are blocks
  halves-fit : (c : Overflow) → CutFits u flag c → HalfFits p c
  halves-fit c x = record {
    old-least = x.path.detail-least;
    old-most = x.path.detail-most;
    new-least = x.new.new.block.0;
    new-most = x.new.new.block.1;
  }

  pub split-halves : (w : Path) (i : ℕ) (x : Taken) (n : ℕ) → d ≡ Split w i x n → InsertFits u flag d → HalfFits p (one_split w i x)
  split-halves w i x n e h = halves-fit (one_split w i x) (split-fits w i x n e h).cut

  pub both_halves : (w : Path) (i y : ℕ) (x : Taken) (n : ℕ) → d ≡ Both w i y x n → InsertFits u flag d → HalfFits p (first_split w i y x)
  both_halves w i y x n e h = halves-fit (first_split w i y x) (both-fits w i y x n e h).cut

  module _ (r : Done) (work : List ℕ) where
    module _ (g t : List ℕ) where
      pub told-stop : (way : Way) (n : ℕ) → d ≡ Stop way n → gave r g t [] ≡ told u flag [] (passed (stopping n [] (reached u flag way)))
          → gave r g t work ≡ told u flag work (insert_done u flag work d)
      unfolding insert_done
      told-stop way n e h = rw e (stopped u flag n work r g t (reached u flag way) h)

  pub told-room : (work g t : List ℕ) (w : Path) (i n m : ℕ) → d ≡ Room w i n → m ≡ length (reached u flag (By w)).moves
      → g ≡ (reached u flag (By w)).file → t ≡ inserted (detail_shape p) i (record_in p work) (reached u flag (By w)).buffer
      → gave (record { number = n; transfers = m; current = w.detail; flag = true; keyed = true }) g t work
      ≡ told u flag work (insert_done u flag work d)
  unfolding insert_done storing reached bringing
  told-room work g t w i n m e em eg et =
      rw e (λ j. record { number = n; transfers = em j; current = w.detail; flag = true; keyed = true; file = eg j; buffer = et j; work = work })

  -- the half with the record is taken after a split, or after two
  module _ (r : Done) (work g t : List ℕ) (w : Path) (i m : ℕ) where
    pub told-split : (x : Taken) (n : ℕ) → d ≡ Split w i x n
        → r ≡ record { number = n; transfers = m + 4; current = half_of (D p) i w.detail x.block; flag = false; keyed = true }
        → t ≡ block_at p g (half_of (D p) i w.detail x.block) → m ≡ length (reached u flag (By w)).moves
        → g ≡ split_file u flag w i (record_in p work) x
        → gave r g t work ≡ told u flag work (insert_done u flag work d)
    unfolding insert_done landing split_moves
    told-split x n e er et em eg =
        let k : m + 4 ≡ length ((reached u flag (By w)).moves ++ split_moves u w i (record_in p work) x.block) =
        ap (λ (z : ℕ). z + 4) em ∙ sym (length-append (reached u flag (By w)).moves (split_moves u w i (record_in p work) x.block)) in
        let q = half_of (D p) i w.detail x.block in
        rw e ((λ j. gave (er j) g (et j) work)
        ∙ (λ j. record { number = n; transfers = k j; current = q; flag = false; keyed = true; file = eg j; buffer = block_at p (eg j) q; work = work }))

    pub told-both : (y : ℕ) (x : Taken) (n : ℕ) → d ≡ Both w i y x n
        → r ≡ record { number = n; transfers = m + 5; current = half_of (D p) i w.detail y; flag = false; keyed = true }
        → t ≡ block_at p g (half_of (D p) i w.detail y) → m ≡ length (reached u flag (By w)).moves
        → g ≡ both_split_file u flag w i (record_in p work) y x
        → gave r g t work ≡ told u flag work (insert_done u flag work d)
    unfolding insert_done landing both_split_moves
    told-both y x n e er et em eg =
        let k : m + 5 ≡ length ((reached u flag (By w)).moves ++ both_split_moves u w i (record_in p work) y x.block) =
        ap (λ (z : ℕ). z + 5) em ∙ sym (length-append (reached u flag (By w)).moves (both_split_moves u w i (record_in p work) y x.block)) in
        let q = half_of (D p) i w.detail y in
        rw e ((λ j. gave (er j) g (et j) work)
        ∙ (λ j. record { number = n; transfers = k j; current = q; flag = false; keyed = true; file = eg j; buffer = block_at p (eg j) q; work = work }))

-- the transfers of a lookup are few, and so with those of a split
module _ (p : Description) (cur : ℕ) (f b : List ℕ) (flag : Bool) (w : Path) (m : ℕ) (e : m ≡ length (reached (seen p cur f b) flag (By w)).moves) where
  pub four-more : Fits w64 (m + 4)
  four-more = let k = moves-most (seen p cur f b) flag (By w) in omega arith

  pub five-more : Fits w64 (m + 5)
  five-more = let k = moves-most (seen p cur f b) flag (By w) in omega arith

-- NSERT by its plan and by what came of it
pub nsert-told : (u : Texts) (flag : Bool) (work : List ℕ) (plan : Result Insert Refusal) (r : Told)
    → checked plan ≡ insert_deed u flag (key_in u.desc work) → r ≡ told u flag work (plan_done u flag work plan)
    → r ≡ told u flag work (nsert_steps u flag work)
unfolding nsert_steps
nsert-told u flag work (Ok d) r e t = rw (← e) t
nsert-told u flag work (Err x) r e t = rw (← e) t
