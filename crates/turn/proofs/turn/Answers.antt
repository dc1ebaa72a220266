-- `turn::turn` meets its contract: each return is one way through the call.
use mathlib.Core.Path.{sym}
use borrow.Author.Tests.{not-true, not-false}
use Rattle.numbers.proofs.Exits.{broke}
use Rattle.numbers.proofs.Passed.{required}
use Rattle.turn.proofs.Ways.{told-refused, way-wrong, way-already, way-fit, way-marks, way-closed}
use Rattle.turn.proofs.turn.Goals as goal

pub returns-in_err-require : goal.returns-in_err-require
returns-in_err-require c =
    let b = broke _ _ _ c.in_err-require.ensures in
    told-refused _ _ c.from_residual.ensures.1 _ b.1 _ _ _ _ (way-wrong _ _ _ _ _ c.is_sized.ensures b.0)

pub returns-in_err-require-2 : goal.returns-in_err-require-2
returns-in_err-require-2 c =
    let b = broke _ _ _ c.in_err-require-2.ensures in
    told-refused _ _ c.from_residual-in_err-require-2.ensures.1 _ b.1 _ _ _ _
    (way-already _ _ _ _ _ c.is_sized.ensures (required _ _ _ (sym c.in_ok-require.ensures)) (not-false _ b.0))

pub turn_closed-requires : goal.turn_closed-requires
turn_closed-requires c =
    let s = required _ _ _ (sym c.in_ok-require.ensures) in
    (way-fit _ c.args.opened _ c.args.marks.now _ c.is_sized.ensures s, way-marks _ c.args.opened c.args.file.now _ _ c.is_sized.ensures s)

pub returns : goal.returns
returns c =
    way-closed _ _ _ _ _ c.is_sized.ensures (required _ _ _ (sym c.in_ok-require.ensures)) _ _ _ _
    (not-true _ (required _ _ _ (sym c.in_ok-require-2.ensures)))
    c.turn_closed.ensures
