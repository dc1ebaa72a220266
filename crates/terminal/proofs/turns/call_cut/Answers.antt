-- The lent words have room for a file of at most 8,192 words, and the lent bytes for what a line prints.
use native.Mathlib.Omega.{arith}
use lib.ListN.{length-take}
use borrow.Author.Rules.{rules}
use Rattle.terminal.proofs.Rooms.{block-most, record-most, blocks-most, key-numbers, record-numbers, key-work, record-work, marks-long, out-room}
use Rattle.terminal.proofs.Rooms.{turned-within, size_small}
use Rattle.terminal.proofs.turns.call_cut.Goals as goal

pub slice_bounds-call_line-end-3 : goal.slice_bounds-call_line-end-3
slice_bounds-call_line-end-3 c = omega (arith, size_small)

pub slice_bounds-call_line-end-4 : goal.slice_bounds-call_line-end-4
slice_bounds-call_line-end-4 c = simp length-take (omega (arith, size_small))

pub slice_bounds-call_line-end-5 : goal.slice_bounds-call_line-end-5
slice_bounds-call_line-end-5 c = omega (arith, block-most)

pub slice_bounds-call_line-end-6 : goal.slice_bounds-call_line-end-6
slice_bounds-call_line-end-6 c = simp length-take (omega (arith, block-most))

pub slice_bounds-call_line-end-7 : goal.slice_bounds-call_line-end-7
slice_bounds-call_line-end-7 c = omega (arith, record-most)

pub slice_bounds-call_line-end-8 : goal.slice_bounds-call_line-end-8
slice_bounds-call_line-end-8 c = simp length-take (omega (arith, record-most))

pub slice_bounds-marks-end : goal.slice_bounds-marks-end
slice_bounds-marks-end c = omega (arith, blocks-most)

pub slice_bounds-call_line-end-9 : goal.slice_bounds-call_line-end-9
slice_bounds-call_line-end-9 c = simp length-take (omega (arith, blocks-most))

pub call_line-requires : goal.call_line-requires
call_line-requires c = (
  search (rules, key-numbers),
  search (rules, record-numbers),
  search key-work,
  search record-work,
  search marks-long,
  search (rules, out-room),
)

pub returns : goal.returns
returns c =
    let p = c.requires in
    let e = c.call_line.ensures in
    turned-within _ _ _ _ _ _ e.desc_value e.at_bound p.2 p.1 p.0
