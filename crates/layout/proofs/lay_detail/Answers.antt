-- A word and the key ONES.
use Rattle.layout.proofs.CodeCreate.{laid-detail}
use Rattle.layout.proofs.lay_detail.Goals as goal

pub returns : goal.returns
returns c = search laid-detail
