-- The half is one of the two blocks.
use native.Mathlib.Omega.{arith}
use Rattle.nsert.proofs.Planning.{few-records}
use Rattle.nsert.proofs.Telling.{half-least, half-most, half-landed, half-text}
use Rattle.nsert.proofs.deeds.land_half.Goals as goal

pub half_of-half-requires : goal.half_of-half-requires
half_of-half-requires c = omega (arith, few-records)

pub land-requires : goal.land-requires
land-requires c = (search, (search half-least, search half-most))

pub returns : goal.returns
returns c = (search half-landed, search half-text)
