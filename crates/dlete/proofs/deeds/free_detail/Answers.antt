-- What the three calls left, one after the other, is the file with the block freed.
use Rattle.drum.proofs.Sizes.{number_small}
use Rattle.dlete.proofs.Emptied.{staged-fits, staged-held, freed-told}
use Rattle.dlete.proofs.deeds.free_detail.Goals as goal

pub stage-requires : goal.stage-requires
stage-requires c = (search staged-fits, (search, search))

pub free_block-requires : goal.free_block-requires
free_block-requires c = (search staged-held, search number_small)

pub returns : goal.returns
returns c = (search, search freed-told)
