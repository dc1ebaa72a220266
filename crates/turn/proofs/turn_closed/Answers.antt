-- `turn::turn_closed` meets its contract: the inspection decides.
use mathlib.Core.Path.{sym}
use Rattle.numbers.proofs.Exits.{broke}
use Rattle.numbers.proofs.Passed.{required}
use Rattle.turn.proofs.Ways.{told-refused, closed-bad, closed-fits, closed-good, closed-done}
use Rattle.turn.proofs.turn_closed.Goals as goal

pub returns-in_err-require : goal.returns-in_err-require
returns-in_err-require c =
    let b = broke _ _ _ c.in_err-require.ensures in
    told-refused _ _ c.from_residual.ensures.1 _ b.1 _ _ _ _ (closed-bad _ _ _ _ c.inspect.ensures.0 c.inspect.ensures.1 b.0)

pub turn_file-requires : goal.turn_file-requires
turn_file-requires c = closed-fits _ _ _ _ c.inspect.ensures.0 (required _ _ _ (sym c.in_ok-require.ensures)) (record { good = c.requires.0.good; size = c.requires.0.size })

pub other-requires : goal.other-requires
other-requires c = search closed-good

pub returns : goal.returns
returns c =
    closed-done _ _ _ _ c.inspect.ensures.0 _ _ _ (required _ _ _ (sym c.in_ok-require.ensures)) c.turn_file.ensures.0 c.turn_file.ensures.1 c.other.ensures
