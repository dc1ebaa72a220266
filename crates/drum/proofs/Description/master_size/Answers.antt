-- No size of parameters that are not good.
use Rattle.drum.proofs.Good.{size_none, size-some, was-good}
use Rattle.drum.proofs.Description.master_size.Goals as goal

pub returns-then-not-is_good : goal.returns-then-not-is_good
returns-then-not-is_good c = search size_none

pub master_words-requires : goal.master_words-requires
master_words-requires c = search was-good

pub returns : goal.returns
returns c = search size-some
