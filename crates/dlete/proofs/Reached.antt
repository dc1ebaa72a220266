-- A record taken out of the block reached: the rows of that block lie in the buffer, and one of them goes.
use mathlib.Core.Path.{◌≡◌, ap, ◌∙◌}
use mathlib.Core.Bool.{Bool, true}
use mathlib.Core.List.{List, []}
use Prim.Native.Nat.{ℕ, ◌+◌, ◌≤◌, ◌<◌}
use native.Mathlib.Omega.{arith}
use lib.ListN.{length}
use Rattle.numbers.specs.Numbers.{done}
use Rattle.numbers.specs.Checked.{passed}
use Rattle.table.specs.declared.Shape.{Shape}
use Rattle.table.specs.Tables.{count, place, removed}
use Rattle.table.proofs.Places.{row-le}
use Rattle.drum.specs.declared.Description.{Description}
use Rattle.drum.specs.Params.{D, detail_shape}
use Rattle.drum.specs.Blocks.{Fitting, Texts, seen}
use Rattle.drum.proofs.Good.{caps}
use Rattle.drum.proofs.Forms.{detail-tag}
use Rattle.rules.specs.declared.Way.{Way}
use Rattle.rules.specs.declared.Done.{Done}
use Rattle.rules.specs.Lookup.{reached, text_at, storing}
use Rattle.rules.specs.Told.{gave, told}
use Rattle.acts.specs.declared.Arrived.{Arrived}
use Rattle.acts.specs.Reach.{Come, came, come}
use Rattle.acts.proofs.Moves.{reached-fits, reached-text, way-counts}
use Rattle.dlete.specs.Fits.{RemoveFits}
use Rattle.dlete.proofs.Gone.{Removable, removed-from}

module _ (p : Description) (cur : ℕ) (f b : List ℕ) (flag : Bool) (way : Way) (i : ℕ) (h : Shape) (a : Arrived) (g t : List ℕ) where
  abbrev v : Texts
  v = seen p cur f b

  module _ (fits : RemoveFits v flag way i) (e : came a g t ≡ come (reached v flag way)) (fit : Fitting p f b) where
    reached-row : Removable (detail_shape p) t i
    unfolding detail_shape
    reached-row =
        let et : t ≡ (reached v flag way).buffer = ap (λ (z : Come). z.buffer) e in
        let ex : t ≡ text_at v way = et ∙ reached-text v flag way in
        let n : length t ≡ p.wpb = ap length et ∙ (reached-fits v fit flag way fits.reached).buffer-is in
        let m : count (detail_shape p) t ≤ D p = rw ex (way-counts v flag way fits.reached).1 in
        let q = caps p fit.good in
        let r = row-le (count (detail_shape p) t) (D p) p.wpr m in
        record { within = omega arith; below = rw ex fits.below; most = omega (arith, detail-tag p fit.good) }

    pub reached-within : h ≡ detail_shape p → place h (count h t) ≤ length t
    reached-within eh = rw eh reached-row.within

    pub reached-below : h ≡ detail_shape p → i < count h t
    reached-below eh = rw eh reached-row.below

    pub reached-most : h ≡ detail_shape p → h.tag + count h t ≤ 262143
    reached-most eh = rw eh reached-row.most

  pub removed-told : (r : Done) (u : List ℕ) → came a g t ≡ come (reached v flag way)
      → r ≡ record { number = done; transfers = a.transfers; current = a.current; flag = true; keyed = true }
      → u ≡ removed h i t → h ≡ detail_shape p
      → gave r g u [] ≡ told v flag []
      (passed (storing done [] (reached v flag way) (removed (detail_shape p) i (reached v flag way).buffer)))
  unfolding storing
  removed-told r u e er eu eh =
      let et : t ≡ (reached v flag way).buffer = ap (λ (z : Come). z.buffer) e in
      let x : u ≡ removed (detail_shape p) i (reached v flag way).buffer = removed-from h _ i t _ u eh et eu in
      ap (λ (z : Done). gave z g u []) er
      ∙ (λ j. record {
        number = done;
        transfers = (e j).transfers;
        current = (e j).current;
        flag = true;
        keyed = true;
        file = (e j).file;
        buffer = x j;
        work = [];
      })
