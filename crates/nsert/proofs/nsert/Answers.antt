-- The plan by `plan_nsert`, which tells what `do_plan` relies on.
use native.Mathlib.Omega.{arith}
use Rattle.nsert.proofs.Fits.{plan-fits}
use Rattle.nsert.proofs.Telling.{key-within, nsert-told}
use Rattle.nsert.proofs.nsert.Goals as goal

pub plan_nsert-requires : goal.plan_nsert-requires
plan_nsert-requires c = omega (arith, key-within)

pub do_plan-requires : goal.do_plan-requires
do_plan-requires c = (search, search, search plan-fits)

pub returns : goal.returns
returns c = search nsert-told
