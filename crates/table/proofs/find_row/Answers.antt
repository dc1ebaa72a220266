-- Of every row passed the test is false: of the low ones at the front, and of those compared.
use native.Mathlib.Omega.{arith}
use Rattle.table.proofs.Turns.{unwanted, found_at, found_none, passed_over_lem}
use Rattle.table.proofs.find_row.Goals as goal

pub loop-i-init : goal.loop-i-init
loop-i-init c = unwanted _ _ _ _ _ c.low_after-first.ensures.1

pub returns-then-is_wanted : goal.returns-then-is_wanted
returns-then-is_wanted c = search found_at

pub loop-i-preserved : goal.loop-i-preserved
loop-i-preserved c = search passed_over_lem

pub returns : goal.returns
returns c = found_none _ _ _ _ _ _ c.loop-i.invariant (omega arith)
