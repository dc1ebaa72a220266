-- The link is the word at its place.
use Rattle.drum.proofs.Forms.{link-read, link-within}
use Rattle.drum.proofs.kinds.link_in.Goals as goal

pub word_at-requires : goal.word_at-requires
word_at-requires c = search link-within

pub returns : goal.returns
returns c = search link-read
