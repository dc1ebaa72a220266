-- No block is buffered, or its number and its count are in range.
use mathlib.Core.Path.{refl}
use native.Mathlib.Omega.{arith}
use borrow.Author.Tests.{eq-eqb, ne_eqb}
use Rattle.numbers.proofs.Exits.{handed}
use Rattle.rules.specs.Lookup.{on_buffer}
use Rattle.lookup.proofs.Sizes.{block-wide}
use Rattle.lookup.proofs.on_buffer.Goals as goal

pub returns-then-v-eq0 : goal.returns-then-v-eq0
unfolding on_buffer
returns-then-v-eq0 c = simp (eq-eqb _ _ c.if-v-eq0.true)

pub returns-in_err-within : goal.returns-in_err-within
unfolding on_buffer
returns-in_err-within c = handed _ _ _ c.from_residual.ensures.1 (rw (ne_eqb _ _ c.if-v-eq0.false, ← c.in_err-within.ensures.step) refl)

pub records_in-requires : goal.records_in-requires
records_in-requires c =
    let w = block-wide _ c.args.v.fits.good in
    let l = c.args.v.fits.buffer-is in
    omega arith

pub returns-in_err-within-2 : goal.returns-in_err-within-2
unfolding on_buffer
returns-in_err-within-2 c =
    handed _ _ _ c.from_residual-in_err-within-2.ensures.1
    (rw (ne_eqb _ _ c.if-v-eq0.false, ← c.in_ok-within.ensures.step, ← c.records_in.ensures, ← c.d.ensures, ← c.in_err-within-2.ensures.step) refl)

pub returns : goal.returns
unfolding on_buffer
returns c =
    rw (ne_eqb _ _ c.if-v-eq0.false, ← c.in_ok-within.ensures.step, ← c.records_in.ensures, ← c.d.ensures, ← c.in_ok-within-2.ensures.step) refl
