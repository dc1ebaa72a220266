-- Row by row from the top down: those from row `low` on to the new block, the others up by one in the buffer.
use native.Mathlib.Omega.{arith}
use Rattle.split.proofs.Shared.{rows-most, tag-few, new-held, moved-start, moved-held, moved_row, moved-long, moved-place, moved-low}
use Rattle.split.proofs.Shared.{moved-sent, moved-raised, moved-file, moved-text}
use Rattle.split.proofs.Cut.share_rows.Goals as goal

pub lay_block-requires : goal.lay_block-requires
lay_block-requires c = (search new-held, omega (arith, rows-most), omega (arith, rows-most, tag-few))

pub loop-j-init : goal.loop-j-init
loop-j-init c = search moved-start

pub row_of-moved-requires : goal.row_of-moved-requires
row_of-moved-requires c = search (moved_row, c.loop-j.invariant)

pub set_key_in-requires : goal.set_key_in-requires
set_key_in-requires c =
    let m = c.loop-j.invariant in
    (search (moved-held, m), moved-place _ _ _ _ _ _ _ _ m (omega arith), search (moved-long, m, c.row_of-moved.ensures))

pub loop-j-preserved-then-low-j : goal.loop-j-preserved-then-low-j
loop-j-preserved-then-low-j c =
    let m = c.loop-j.invariant in
    moved-sent _ _ _ _ _ _ _ _ m _ _ c.set_key_in.ensures c.row_of-moved.ensures (omega arith) (omega arith)

pub raise_row-requires : goal.raise_row-requires
raise_row-requires c = (search (moved_row, c.loop-j.invariant), omega arith, omega arith)

pub loop-j-preserved : goal.loop-j-preserved
loop-j-preserved c =
    let m = c.loop-j.invariant in
    moved-raised _ _ _ _ _ _ _ _ m _ c.raise_row.ensures (omega arith) (omega arith) (omega arith) (omega arith)

pub overflow_mul-low : goal.overflow_mul-low
overflow_mul-low c = omega (arith, moved-low)

pub keep-requires : goal.keep-requires
keep-requires c = (omega (arith, moved-low), omega (arith, rows-most, tag-few))

pub returns : goal.returns
returns c =
    let m = c.loop-j.invariant in
    let e = c.lay_block.ensures in
    let k = c.keep.ensures in
    (moved-file _ _ _ _ _ _ _ _ m _ e (omega arith) (omega arith), moved-text _ _ _ _ _ _ _ _ m _ k (omega arith) (omega arith))
