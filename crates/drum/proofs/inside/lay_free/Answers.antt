-- Zeros, a word and the link are the text.
use Rattle.drum.proofs.FreeTexts.{freed-by}
use Rattle.drum.proofs.inside.lay_free.Goals as goal

pub returns : goal.returns
returns c = search freed-by
