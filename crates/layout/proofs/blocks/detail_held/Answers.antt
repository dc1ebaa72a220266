-- The mark, the count and the records decide; the block is one of the file's, since it could be marked.
use mathlib.Core.Path.{refl}
use native.Mathlib.Omega.{arith}
use Rattle.drum.specs.Params.{detail_shape}
use Rattle.layout.specs.Inspect.{detail_held}
use Rattle.layout.proofs.CodeFlags.{stopped, last-test}
use Rattle.layout.proofs.CodeSizes.{block-least, block-most, records-room, key-in-row}
use Rattle.layout.proofs.blocks.detail_held.Goals as goal

pub returns-in_err-mark : goal.returns-in_err-mark
unfolding detail_held
returns-in_err-mark c = stopped _ _ _ _ c.from_residual.ensures.1 (rw (← c.word_at-b.ensures, c.in_err-mark.ensures) refl)

pub start_of-s-requires : goal.start_of-s-requires
start_of-s-requires c =
    let l = c.requires.marks_len.0 in
    (c.requires.fit, block-least c.args.p _ 1 _ _ c.in_ok-mark.ensures l, block-most c.args.p _ 1 _ _ c.in_ok-mark.ensures l)

pub rows_in-requires : goal.rows_in-requires
unfolding detail_shape
rows_in-requires c = (rw c.detail_shape.ensures (records-room _ _ c.requires.fit _ c.d.ensures), c.start_of-s.ensures.1)

pub returns-in_err-n : goal.returns-in_err-n
unfolding detail_held
returns-in_err-n c =
    stopped _ _ _ _ c.from_residual-in_err-n.ensures.1
    (rw (← c.word_at-b.ensures, c.in_ok-mark.ensures, ← c.start_of-s.ensures.0, ← c.d.ensures, ← c.detail_shape.ensures, c.in_err-n.ensures.count) refl)

pub records_ok-requires : goal.records_ok-requires
unfolding detail_shape
records_ok-requires c =
    let h = rw (c.detail_shape.ensures) at c.in_ok-n.ensures.inside in
    omega (arith, key-in-row, h)

pub returns : goal.returns
unfolding detail_held
returns c =
    rw (← c.word_at-b.ensures, c.in_ok-mark.ensures, ← c.start_of-s.ensures.0, ← c.d.ensures, ← c.detail_shape.ensures, c.in_ok-n.ensures.count, ← c.records_ok.ensures)
    (last-test c.records_ok.result c.require.result c.mark.new.marks c.require.ensures)
