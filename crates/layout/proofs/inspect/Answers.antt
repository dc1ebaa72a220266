-- The walk's marks where it came through, else none.
use native.Mathlib.Omega.{arith}
use Rattle.layout.proofs.CodeWhole.{left-marks, left-none}
use Rattle.layout.proofs.inspect.Goals as goal

pub returns-in-Ok : goal.returns-in-Ok
returns-in-Ok c = (c.in-Ok.ensures, left-marks _ _ _ c.in-Ok.ensures)

pub returns-in-Err : goal.returns-in-Err
returns-in-Err c = (c.in-Err.ensures, left-none _ _ _ _ c.in-Err.ensures c.clear-in-Err.ensures (omega arith))
