-- The reasons of the report as the code has them: the word of each.
use Rattle.std.specs.Prelude.{ℕ, Option, None, Some}
use Rattle.salvage.specs.declared.texts.Reason.{Reason}
use Rattle.salvage.specs.declared.texts.Reason.TheVariants.{NotMarked, BadCount, BadWord, BadOrder, SecondCopy, LackedRoom}
use Rattle.salvage.specs.Met.{not_marked, bad_count, bad_word, bad_order}

-- "the first test missed" of a block; of a record "whether it was a second copy (NSERT gave 1) or lacked room" [Z2, Z5]
abbrev pub word_of : Reason → ℕ
word_of NotMarked = not_marked
word_of BadCount = bad_count
word_of BadWord = bad_word
word_of BadOrder = bad_order
word_of SecondCopy = 5
word_of LackedRoom = 6

-- the word of the reason that a text gives, 0 where it gives none [Z2]
abbrev pub word_told : Option Reason → ℕ
word_told None = 0
word_told (Some r) = word_of r
