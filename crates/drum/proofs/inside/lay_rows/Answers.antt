-- A word, the rows and zeros, side by side, are the text.
use Rattle.drum.proofs.Lent.{laid_by}
use Rattle.drum.proofs.inside.lay_rows.Goals as goal

pub returns : goal.returns
returns c = search laid_by
