-- Where the link is, by the form.
use mathlib.Core.Path.{sym}
use Rattle.drum.proofs.Forms.{link-first, link-second}
use Rattle.drum.proofs.Description.link_place.Goals as goal

pub returns-then-self-eq-SECOND : goal.returns-then-self-eq-SECOND
returns-then-self-eq-SECOND c = sym (link-second _ c.if-self-eq-SECOND.true)

pub returns : goal.returns
returns c = sym (link-first _ c.if-self-eq-SECOND.false)
