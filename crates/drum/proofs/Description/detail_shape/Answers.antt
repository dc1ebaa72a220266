-- A detail block's table.
use Rattle.drum.proofs.Forms.{detail-made}
use Rattle.drum.proofs.Description.detail_shape.Goals as goal

pub returns : goal.returns
returns c = search detail-made
