-- `texts::put_bytes` meets its contract: the bytes of the part that they are copied over.
use mathlib.Core.Path.{refl}
use native.Mathlib.Omega.{arith}
use Rattle.words.proofs.Parts.{mid-put}
use Rattle.texts.proofs.put_bytes.Goals as goal

pub returns : goal.returns
returns c = (rw c.copy_from_slice.ensures.after (mid-put c.args.at _ c.args.out.now c.args.text.now (omega arith)), refl)
