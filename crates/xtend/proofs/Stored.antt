-- The record put in before the end record of the last block, which was reached; and an index block's read counted besides.
use mathlib.Core.Path.{◌≡◌, sym, ap, ◌∙◌}
use mathlib.Core.Bool.{Bool, true, false, cond}
use mathlib.Core.List.{List, [], ◌∷◌, ◌++◌}
use Prim.Native.Nat.{ℕ, ◌+◌, ◌-◌, ◌≤◌, ◌<◌}
use native.Mathlib.Omega.{arith}
use lib.Dec.{eqb}
use lib.ListN.{length, length-append}
use Rattle.numbers.specs.Checked.{passed}
use Rattle.words.specs.Words.{part}
use Rattle.table.specs.declared.Shape.{Shape}
use Rattle.table.specs.Tables.{count, place, inserted}
use Rattle.drum.specs.declared.Description.{Description}
use Rattle.drum.specs.Params.{D, detail_shape}
use Rattle.drum.specs.Blocks.{Fitting, Read, Texts, seen}
use Rattle.drum.proofs.Good.{caps}
use Rattle.drum.proofs.Forms.{detail-tag}
use Rattle.rules.specs.declared.Way.{Way}
use Rattle.rules.specs.declared.Done.{Done}
use Rattle.rules.specs.State.{record_in}
use Rattle.rules.specs.Lookup.{reached, text_at, stopping, storing}
use Rattle.rules.specs.Told.{Told, gave, told}
use Rattle.rules.specs.XtendDone.{reading}
use Rattle.rules.proofs.Rooms.{detail-row}
use Rattle.acts.specs.declared.Arrived.{Arrived}
use Rattle.acts.specs.Reach.{Come, came, come}
use Rattle.acts.proofs.Moves.{reached-fits, reached-text, way-counts}
use Rattle.acts.proofs.Ways.{moves-most}
use Rattle.xtend.specs.Fits.{LastTakes}
use Rattle.xtend.specs.Steps.{read_of, counting, room_done}

-- one block at most is read besides
pub reads_most : (x m : ℕ) → m ≡ length (read_of x) → m ≤ 3
unfolding read_of
reads_most x m e = go (eqb x 0) e
  where
    go : (t : Bool) → m ≡ length (cond t [] (Read x ∷ [])) → m ≤ 3
    go true h = omega arith
    go false h = omega arith

-- the block reached, and its text in the buffer
module _ (p : Description) (cur : ℕ) (f b : List ℕ) (flag : Bool) (way : Way) (a : Arrived) (g t : List ℕ) where
  abbrev v : Texts
  v = seen p cur f b

  module _ (fits : LastTakes v flag way) (e : came a g t ≡ come (reached v flag way)) (fit : Fitting p f b) where
    text-is : t ≡ text_at v way
    text-is = ap (λ (z : Come). z.buffer) e ∙ reached-text v flag way

    text-length : length t ≡ p.wpb
    text-length = ap length (ap (λ (z : Come). z.buffer) e) ∙ (reached-fits v fit flag way fits.reached).buffer-is

    pub text-some : 0 < length t
    text-some =
        let g = caps p fit.good in
        let l = text-length in
        omega arith

    pub end-least : (n : ℕ) → n ≡ count (detail_shape p) t → 1 ≤ n
    end-least n en =
        let c = way-counts v flag way fits.reached in
        let m : count (detail_shape p) t ≡ count (detail_shape p) (text_at v way) = ap (count (detail_shape p)) text-is in
        omega arith

    text-room : count (detail_shape p) t < D p
    text-room = rw text-is fits.room

    pub insert-room : (h : Shape) → h ≡ detail_shape p → place h (count h t) + h.stride ≤ length t
    unfolding detail_shape
    insert-room h eh =
        let r = detail-row p fit.good (count (detail_shape p) t) text-room in
        rw (eh, text-length) r

    pub insert-most : (h : Shape) → h ≡ detail_shape p → h.tag + count h t < 262143
    insert-most h eh =
        let q = caps p fit.good in
        let r = text-room in
        rw eh (omega (arith, detail-tag p fit.good))

  pub insert-place : (h : Shape) (n : ℕ) → n ≡ count (detail_shape p) t → h ≡ detail_shape p → n - 1 ≤ count h t
  insert-place h n en eh = rw (eh, ← en) (omega arith)

  pub stored-told : (h : Shape) (n number : ℕ) (r : Done) (u work : List ℕ) → came a g t ≡ come (reached v flag way)
      → r ≡ record { number = number; transfers = a.transfers; current = a.current; flag = true; keyed = true }
      → u ≡ inserted h (n - 1) (part 0 h.stride work) t → n ≡ count (detail_shape p) t → h ≡ detail_shape p
      → gave r g u work ≡ told v flag work (room_done v flag work way number)
  unfolding room_done storing detail_shape
  stored-told h n number r u work e er eu en eh =
      let et : t ≡ (reached v flag way).buffer = ap (λ (z : Come). z.buffer) e in
      let s : List ℕ → List ℕ = λ z. inserted (detail_shape p) (count (detail_shape p) z - 1) (record_in p work) z in
      let x : u ≡ s t = rw (eu, en, eh) in
      let y : u ≡ s (reached v flag way).buffer = x ∙ ap s et in
      ap (λ (z : Done). gave z g u work) er
      ∙ (λ j. record {
        number = number;
        transfers = (e j).transfers;
        current = (e j).current;
        flag = true;
        keyed = true;
        file = (e j).file;
        buffer = y j;
        work = work;
      })

-- the rows of a detail block begin behind its count, and a record has the workspace's words
pub detail-base : (p : Description) (h : Shape) → h ≡ detail_shape p → 1 ≤ h.base
unfolding detail_shape
detail-base p h e = rw e (omega arith)

pub record-given : (p : Description) (h : Shape) (work : List ℕ) → h ≡ detail_shape p → length work ≡ p.wpr → 0 + h.stride ≤ length work
unfolding detail_shape
record-given p h work e l = rw e (omega arith)

-- few transfers are made before an index block's read is counted besides; and then they are those of the list
module _ (v : Texts) (flag : Bool) (way : Way) (n x m : ℕ) (work : List ℕ) (d : Done) (g t : List ℕ) where
  pub stop-few : gave d g t [] ≡ told v flag [] (passed (stopping n [] (reached v flag way))) → d.transfers ≤ 8
  unfolding stopping
  stop-few e =
      let q : d.transfers ≡ length (reached v flag way).moves = ap (λ (z : Told). z.transfers) e in
      let m = moves-most v flag way in
      omega arith

  pub room-few : gave d g t work ≡ told v flag work (room_done v flag work way n) → d.transfers ≤ 8
  unfolding room_done storing
  room-few e =
      let q : d.transfers ≡ length (reached v flag way).moves = ap (λ (z : Told). z.transfers) e in
      let m = moves-most v flag way in
      omega arith

  counted : m ≡ length (read_of x) → d.transfers ≡ length (reached v flag way).moves
      → d.transfers + m ≡ length ((reached v flag way).moves ++ read_of x)
  counted r e = (λ j. e j + r j) ∙ sym (length-append (reached v flag way).moves (read_of x))

  pub stop-besides : gave d g t [] ≡ told v flag [] (passed (stopping n [] (reached v flag way))) → m ≡ length (read_of x)
      → gave (counting m d) g t work ≡ told v flag work (passed (stopping n work (reading x (reached v flag way))))
  unfolding stopping reading read_of
  stop-besides e r =
      let c = counted r (ap (λ (z : Told). z.transfers) e) in
      λ j. record {
        number = (e j).number;
        transfers = c j;
        current = (e j).current;
        flag = (e j).flag;
        keyed = (e j).keyed;
        file = (e j).file;
        buffer = (e j).buffer;
        work = work;
      }

  pub room-besides : gave d g t work ≡ told v flag work (room_done v flag work way n) → m ≡ length (read_of x)
      → gave (counting m d) g t work
      ≡ told v flag work (passed (storing n work (reading x (reached v flag way))
      (inserted (detail_shape v.desc) (count (detail_shape v.desc) (reached v flag way).buffer - 1) (record_in v.desc work)
      (reached v flag way).buffer)))
  unfolding room_done storing reading read_of
  room-besides e r =
      let c = counted r (ap (λ (z : Told). z.transfers) e) in
      λ j. record {
        number = (e j).number;
        transfers = c j;
        current = (e j).current;
        flag = (e j).flag;
        keyed = (e j).keyed;
        file = (e j).file;
        buffer = (e j).buffer;
        work = (e j).work;
      }
