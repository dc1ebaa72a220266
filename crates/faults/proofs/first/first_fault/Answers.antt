-- `first::first_fault` meets its contract.
use mathlib.Core.Path.{ap, sym, ◌∙◌}
use Rattle.drum.proofs.Good.{size-good}
use Rattle.faults.specs.declared.Fault.TheVariants.{TooLarge}
use Rattle.faults.specs.First.{first_fault}
use Rattle.faults.proofs.first.first_fault.Goals as goal

pub returns-in-None : goal.returns-in-None
unfolding first_fault
returns-in-None c = rw c.in-None.is c.words_fault.ensures

pub returns-then-is_good : goal.returns-then-is_good
unfolding first_fault
returns-then-is_good c =
    let good = sym c.is_good.ensures ∙ c.if-is_good.true in
    rw (c.in-Some.is, good) (ap TooLarge (size-good _ _ _ c.file_size.ensures good))

pub returns-else-is_good : goal.returns-else-is_good
unfolding first_fault
returns-else-is_good c = rw (c.in-Some.is, ← c.is_good.ensures, c.if-is_good.false) c.range_fault.ensures
