-- The count and the words behind the rows decide; the rows lie in the block.
use mathlib.Core.Path.{refl}
use Rattle.layout.specs.Inspect.{rows_in}
use Rattle.layout.proofs.CodeFlags.{unfound, by-test, by-range}
use Rattle.layout.proofs.rows.rows_in.Goals as goal

pub returns-in_err-n-clause-count : goal.returns-in_err-n-clause-count
unfolding rows_in
returns-in_err-n-clause-count c =
    unfound _ _ _ c.from_residual.ensures.1
    (rw (← c.word_at.ensures, ← c.less.ensures, by-range 1 c.args.most c.less.result _ c.in_err-n.ensures.step) refl)

pub returns-in_err-require-clause-count : goal.returns-in_err-require-clause-count
unfolding rows_in
returns-in_err-require-clause-count c =
    let r = c.in_ok-n.ensures.range.0 in
    unfound _ _ _ c.from_residual-in_err-require.ensures.1
    (rw (← c.word_at.ensures, ← c.less.ensures, ← c.in_ok-n.ensures.step, ← c.all_are.ensures, by-test c.all_are.result _ c.in_err-require.ensures) refl)

pub returns-clause-count : goal.returns-clause-count
unfolding rows_in
returns-clause-count c =
    rw (← c.word_at.ensures, ← c.less.ensures, ← c.in_ok-n.ensures.step, ← c.all_are.ensures, ← c.in_ok-require.ensures) refl
