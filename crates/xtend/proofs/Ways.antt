-- Where a plan of XTEND looks: the last block and its path, and what the code that reads its text asks.
use mathlib.Core.Path.{◌≡◌, sym, ap, ◌∙◌}
use mathlib.Core.Bool.{Bool, true}
use mathlib.Core.List.{List, []}
use Prim.Native.Nat.{ℕ, ◌+◌, ◌<◌}
use native.Mathlib.Omega.{arith}
use mir.Syntax.{w64}
use mir.Val.{Fits}
use lib.ListN.{length}
use Rattle.numbers.specs.Checked.{passed}
use Rattle.table.specs.Tables.{count}
use Rattle.drum.specs.Params.{detail_shape}
use Rattle.drum.specs.declared.Description.{Description}
use Rattle.drum.specs.Blocks.{Fitting, Texts, seen, text_of}
use Rattle.drum.proofs.Good.{caps}
use Rattle.drum.proofs.Blocks.{length-text_of}
use Rattle.rules.specs.declared.Which.TheVariants.{Last}
use Rattle.rules.specs.declared.Path.{Path}
use Rattle.rules.specs.declared.Way.{Way}
use Rattle.rules.specs.Paths.{path_to, last_path}
use Rattle.rules.specs.Lookup.{on_buffer, text_at}
use Rattle.rules.specs.Xtend.{last_way, last_of}
use Rattle.rules.specs.Fits.{PathFits}
use Rattle.rules.proofs.Fits.{path-fits}
use Rattle.lookup.proofs.Fits.{held_fits}
use Rattle.xtend.specs.Fits.{AtFits, RecordsIn}
use Rattle.xtend.proofs.Planned.{way_at, way-fits, at-counts, at_length, last_fits}

module _ (p : Description) (cur : ℕ) (f b : List ℕ) where
  abbrev v : Texts
  v = seen p cur f b

  -- a path by the last entries, and one by the key
  module _ (w : Path) where
    pub by-last : passed w ≡ last_path v → PathFits v w
    by-last e = path-fits v Last Last [] w (sym e)

    pub by-key : (key : List ℕ) → passed w ≡ path_to v key → PathFits v w
    by-key key e = path-fits v _ _ key w (sym e)

    -- its detail block
    pub path-records : (t : List ℕ) → t ≡ text_of v w.detail → PathFits v w → Fitting p f b → RecordsIn p t 1
    path-records t et path fit = record {
      good = fit.good;
      text-is = ap length et ∙ length-text_of v w.detail fit (path.detail-least, path.detail-most);
      least = rw et path.records-least;
      most = rw et path.records-most;
    }

  -- the buffered block, tested
  pub held-records : (t : Bool) → passed t ≡ on_buffer v true → t ≡ true → Fitting p f b → RecordsIn p b 1
  held-records t e y fit =
      let g = held_fits v t e y in
      record { good = fit.good; text-is = fit.buffer-is; least = g.records-least; most = g.records-most }

  -- the block at the end of the way
  module _ (way : Way) where
    pub at_some : (t : List ℕ) → t ≡ text_at v way → AtFits v way → Fitting p f b → 0 < length t
    at_some t et h fit =
        let g = caps p fit.good in
        let l = ap length et ∙ at_length v way fit h in
        omega arith

    pub to-last : (w : Path) → passed w ≡ last_of v way → AtFits v way → PathFits v w
    to-last w e h = (last_fits v way h w (sym e)).path

    -- its count
    module _ (n : ℕ) (en : n ≡ count (detail_shape p) (text_at v way)) where
      pub count_next : AtFits v way → Fitting p f b → Fits w64 (n + 1)
      count_next h fit =
          let g = caps p fit.good in
          let c = at-counts v way h in
          record { fits = omega arith }

      pub more-records : (t : List ℕ) → t ≡ text_at v way → (n ≡ 1 → ⊥) → AtFits v way → Fitting p f b → RecordsIn p t 2
      more-records t et ne h fit =
          let c = at-counts v way h in
          let m : n ≡ count (detail_shape p) t = en ∙ ap (count (detail_shape p)) (sym et) in
          record {
            good = fit.good;
            text-is = ap length et ∙ at_length v way fit h;
            least = omega arith;
            most = omega arith;
          }

  -- the way that was found
  pub found-fits : (flag : Bool) (way : Way) → passed way ≡ last_way v flag → AtFits v way
  found-fits flag way e = way_at v flag way (way-fits v flag way (sym e))
