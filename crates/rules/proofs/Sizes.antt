-- How many transfers the steps of a call make, and how long an entry under ONES is.
use Prim.Native.Nat.{ℕ, suc, ◌+◌, ◌≤◌}
use mathlib.Core.Path.{◌≡◌}
use mathlib.Core.Bool.{Bool, true, false, cond}
use mathlib.Core.List.{List, [], ◌∷◌}
use native.Mathlib.Omega.{arith}
use lib.Dec.{eqb}
use lib.ListN.{length, length-append, length-replicate}
use Rattle.drum.specs.declared.Description.{Description}
use Rattle.drum.specs.Blocks.{Transfer, Read, Texts}
use Rattle.rules.specs.declared.Path.{Path}
use Rattle.rules.specs.declared.Way.{Way}
use Rattle.rules.specs.declared.Way.TheVariants.{Here, By}
use Rattle.rules.specs.Lookup.{flush_moves, bringing, reached}
use Rattle.rules.specs.Adv.{adv_reads}
use Rattle.rules.specs.XtendDone.{ones_entry}

-- "write the buffer if flagged (1)"
pub flush-few : (v : Texts) (flag : Bool) → length (flush_moves v flag) ≤ 1
unfolding flush_moves
flush-few v true = omega arith
flush-few v false = omega arith

-- that and some reads
pub bring-few : (v : Texts) (flag : Bool) (b : ℕ) (reads : List Transfer) → length (bringing v flag b reads).moves ≤ suc (length reads)
unfolding bringing
bring-few v flag b reads = rw (length-append (flush_moves v flag) reads) (omega (arith, flush-few v flag))

-- the way to a block: none, or at most three
pub way-few : (v : Texts) (flag : Bool) (way : Way) → length (reached v flag way).moves ≤ 3
unfolding reached
way-few v flag Here = omega arith
way-few v flag (By w) = bring-few v flag w.detail (Read w.index ∷ Read w.detail ∷ [])

-- ADV's reads: the index and the detail block of the first path, "the next detail block: 1, or 2 if in the next section"
pub adv-few : (w x : Path) → length (adv_reads w x) ≤ 4
unfolding adv_reads
adv-few w x = go (eqb x.section w.section)
  where
    go : (t : Bool) → suc (suc (length (cond t (Read x.detail ∷ []) (Read x.index ∷ Read x.detail ∷ [])))) ≤ 4
    go true = omega arith
    go false = omega arith

-- an entry under ONES has K words and a block
pub ones-length : (p : Description) (b : ℕ) → length (ones_entry p b) ≡ p.k + 1
unfolding ones_entry
ones-length p b = simp (length-append, length-replicate) (omega arith)
