-- What word 0 has besides the count, by the form.
use mathlib.Core.Path.{sym}
use Rattle.drum.proofs.Forms.{tag-first, tag-second}
use Rattle.drum.proofs.Description.tag.Goals as goal

pub returns-then-self-eq-SECOND : goal.returns-then-self-eq-SECOND
returns-then-self-eq-SECOND c = sym (tag-second _ _ c.if-self-eq-SECOND.true)

pub returns : goal.returns
returns c = sym (tag-first _ _ c.if-self-eq-SECOND.false)
