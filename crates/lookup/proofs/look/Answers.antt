-- One search of the buffer where a block is buffered, and else the lookup outside it.
use mathlib.Core.Path.{refl}
use native.Mathlib.Omega.{arith}
use borrow.Author.Tests.{lt-ltb, le-ltb}
use Rattle.numbers.proofs.Exits.{handed}
use Rattle.rules.specs.Lookup.{look, in_buffer}
use Rattle.lookup.proofs.Sizes.{block-wide, rows-within, width-within, key-there}
use Rattle.lookup.proofs.Fits.{held_fits, test-and, test-made, detail-found}
use Rattle.lookup.proofs.look.Goals as goal

pub returns-in_err-on_buffer : goal.returns-in_err-on_buffer
unfolding look in_buffer
returns-in_err-on_buffer c = handed _ _ _ c.from_residual.ensures.1 (rw (test-and _ _, ← c.in_err-on_buffer.ensures) refl)

pub returns-then-not-branch : goal.returns-then-not-branch
unfolding look in_buffer
returns-then-not-branch c = rw (test-and _ _, ← c.in_ok-on_buffer.ensures, c.if-not-branch.true) c.look_outside.ensures

pub records_in-n-requires : goal.records_in-n-requires
records_in-n-requires c =
    let w = block-wide _ c.args.v.fits.good in
    let l = c.args.v.fits.buffer-is in
    omega arith

pub find-i-requires : goal.find-i-requires
find-i-requires c =
    let g = held_fits _ _ c.in_ok-on_buffer.ensures c.if-not-branch.false in
    (search (rows-within, g.records-most), search width-within, search key-there)

pub returns-then-i-n : goal.returns-then-i-n
unfolding look in_buffer
returns-then-i-n c =
    let g = held_fits _ _ c.in_ok-on_buffer.ensures c.if-not-branch.false in
    let i = detail-found _ _ _ _ _ _ _ c.detail_shape.ensures c.find-i.ensures in
    rw (test-made _ _ g, ← c.records_in-n.ensures, ← i, lt-ltb _ _ c.if-i-n.true) refl

pub returns : goal.returns
unfolding look in_buffer
returns c =
    let g = held_fits _ _ c.in_ok-on_buffer.ensures c.if-not-branch.false in
    let i = detail-found _ _ _ _ _ _ _ c.detail_shape.ensures c.find-i.ensures in
    rw (test-made _ _ g, ← c.records_in-n.ensures, ← i, le-ltb _ _ c.if-i-n.false) c.look_outside-2.ensures
