-- The steps of the definition, one after the other.
use mathlib.Core.Path.{refl, sym}
use native.Mathlib.Omega.{arith}
use borrow.Author.Tests.{ltb-true}
use Rattle.numbers.proofs.Exits.{handed}
use Rattle.numbers.proofs.Passed.{required}
use Rattle.sequential.specs.Rows.{blocks}
use Rattle.sequential.specs.Calls.{row_from}
use Rattle.sequential.proofs.Good.{area-fine, area-least}
use Rattle.sequential.proofs.Spots.{from-inside}
use Rattle.sequential.proofs.plan.row_from.Goals as goal

pub nonzero_div-file : goal.nonzero_div-file
nonzero_div-file c = omega (arith, area-least)

pub returns-in_err-require : goal.returns-in_err-require
unfolding row_from blocks
returns-in_err-require c = handed _ _ _ c.from_residual.ensures.1 (rw (← c.in_err-require.ensures) refl)

pub word_of-requires : goal.word_of-requires
word_of-requires c = from-inside c.args.l _ _ c.requires (ltb-true _ _ (required _ _ _ (sym c.in_ok-require.ensures)))

pub lies_at-requires : goal.lies_at-requires
lies_at-requires c = search area-fine

pub returns-in_err-require-2 : goal.returns-in_err-require-2
unfolding row_from blocks
returns-in_err-require-2 c =
    handed _ _ _ c.from_residual-in_err-require-2.ensures.1
    (rw (← c.in_ok-require.ensures, ← c.word_of.ensures, ← c.size_at-n.ensures, ← c.lies_at.ensures, ← c.in_err-require-2.ensures) refl)

pub returns : goal.returns
unfolding row_from blocks
returns c = rw (← c.in_ok-require.ensures, ← c.word_of.ensures, ← c.size_at-n.ensures, ← c.lies_at.ensures, ← c.in_ok-require-2.ensures) refl
