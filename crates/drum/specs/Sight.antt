-- What a plan looks at, of the words that it is lent.
use Rattle.drum.specs.declared.seen.Seen.{Seen}
use Rattle.drum.specs.Blocks.{Texts, seen}

-- "Current text of a block": of the file, the buffer and the current block that are lent [S4]
abbrev pub texts : Seen → Texts
texts v = seen v.desc v.current v.file.now v.buffer.now
