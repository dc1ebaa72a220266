-- The plan by `plan_dlete`, which tells what `do_dlete` relies on; the workspace stays; a refusal is the plan's own.
use mathlib.Core.Path.{refl}
use Rattle.drum.proofs.Sizes.{key-within}
use Rattle.rules.specs.Dlete.{dlete_steps}
use Rattle.dlete.proofs.Planned.{delete-fits}
use Rattle.dlete.proofs.Ended.{dlete-told}
use Rattle.dlete.proofs.dlete.Goals as goal

pub plan_dlete-requires : goal.plan_dlete-requires
plan_dlete-requires c = search key-within

pub do_dlete-requires : goal.do_dlete-requires
do_dlete-requires c = (search, delete-fits _ _ _ _ c.in-Ok.ensures)

pub returns-in-Ok : goal.returns-in-Ok
returns-in-Ok c = dlete-told _ _ _ _ _ _ _ _ _ _ c.in-Ok.ensures c.do_dlete.ensures

pub returns-in-Err : goal.returns-in-Err
unfolding dlete_steps
returns-in-Err c = rw (c.refused.ensures, ← c.in-Err.ensures) refl
