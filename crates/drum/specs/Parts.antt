-- Where the current text of a block lies. Document 01, "The session": "one part of the buffer or of the file". Which of the two, and where in it.
use Rattle.std.specs.Prelude.{ℕ, ◌+◌, ◌*◌, cond, List, eqb}
use Rattle.std.specs.Borrow.{Bor}
use Rattle.drum.specs.declared.Description.{Description}
use Rattle.drum.specs.Params.{start}
use Rattle.drum.specs.Blocks.{seen, text_of}

-- a slice that is lent
abbrev pub Borrowed : Type 0
Borrowed = Bor (List ℕ)

-- a part of a slice: the address of its first word, and its words
pub record Part : Type 0 where
  pub address : ℕ × ℕ
  pub words : List ℕ

-- a part that is lent back: where it lies, and its words [S5]
abbrev pub part_of : Borrowed → Part
part_of s = record { address = s.ref_ptr; words = s.now }

-- the address of word n of a slice: a word is four bytes
abbrev pub word_of : Borrowed → ℕ → ℕ × ℕ
word_of s n = (s.ref_ptr.0, n * 4 + s.ref_ptr.1)

-- "Current text of a block: the buffer if it is the current block, else the file": where it lies [S4]
unfoldable pub part_text : Description → ℕ → Borrowed → Borrowed → ℕ → ℕ × ℕ
part_text p current file buffer b = cond (eqb b current) buffer.ref_ptr (word_of file (start p b))

-- the current text of block b as a part [S4, S5]
abbrev pub text_part : Description → ℕ → Borrowed → Borrowed → ℕ → Part
text_part p current file buffer b = record { address = part_text p current file buffer b; words = text_of (seen p current file.now buffer.now) b }
