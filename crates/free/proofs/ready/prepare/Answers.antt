-- What the calls leave is the file made ready, and the buffer holds the detail block.
use native.Mathlib.Omega.{arith}
use Rattle.free.proofs.Readying.{head_small, followed-fits, staged-some, readied, loaded}
use Rattle.free.proofs.ready.prepare.Goals as goal

pub stage-requires : goal.stage-requires
stage-requires c = (search followed-fits, (search, search))

pub load-requires : goal.load-requires
load-requires c = (record { good = search; file-is = omega arith; buffer-is = search }, (search, search))

pub set_free-requires : goal.set_free-requires
set_free-requires c = (search staged-some, search head_small)

pub returns : goal.returns
returns c = (search, search readied, search loaded)
