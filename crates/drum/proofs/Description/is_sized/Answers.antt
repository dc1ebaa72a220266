-- The parameters are tested first; after that the file has a size.
use mathlib.Core.Path.{◌≡◌, sym, ◌∙◌}
use mathlib.Core.Bool.{Bool, true, and-true}
use borrow.Author.Tests.{eq-eqb, ne_eqb}
use Rattle.drum.specs.Params.{sized, every}
use Rattle.drum.proofs.Description.is_sized.Goals as goal

-- past the first test the parameters are good
kept : {a b : Bool} → a ≡ b → a ≡ true → b ≡ true
kept e h = sym e ∙ h

pub returns-then-not-is_good : goal.returns-then-not-is_good
unfolding sized every
returns-then-not-is_good c = simp (← c.is_good.ensures, c.if-not-is_good.true)

pub file_words-requires : goal.file_words-requires
file_words-requires c = kept c.is_good.ensures c.if-not-is_good.false

pub returns-then-file-file_words : goal.returns-then-file-file_words
unfolding sized every
returns-then-file-file_words c = simp (kept c.is_good.ensures c.if-not-is_good.false, ← c.file_words.ensures, eq-eqb _ _ c.if-file-file_words.true, and-true)

pub returns-else-file-file_words : goal.returns-else-file-file_words
unfolding sized every
returns-else-file-file_words c = simp (kept c.is_good.ensures c.if-not-is_good.false, ← c.file_words.ensures, ne_eqb _ _ c.if-file-file_words.false)
