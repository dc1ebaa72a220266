-- What the code tells of a block reached.
use Rattle.std.specs.Prelude.{ℕ, Bool, List, length}
use Rattle.drum.specs.Blocks.{Texts, seen}
use Rattle.rules.specs.declared.Held.{Held}
use Rattle.rules.specs.Lookup.{Reached}
use Rattle.acts.specs.declared.Arrived.{Arrived}

-- what a plan looks at, where description, current block and flag are handed over as one [S4]
abbrev pub seen_by : Held → List ℕ → List ℕ → Texts
seen_by at f b = seen at.desc at.current f b

-- what some steps come to, with their transfers counted
pub record Come : Type 0 where
  pub file : List ℕ
  pub current : ℕ
  pub flag : Bool
  pub buffer : List ℕ
  pub transfers : ℕ

-- what the steps came to, so counted [T3]
abbrev pub come : Reached → Come
come r = record { file = r.file; current = r.current; flag = r.flag; buffer = r.buffer; transfers = length r.moves }

-- what the code gave back of it, with the words it left [T3]
abbrev pub came : Arrived → List ℕ → List ℕ → Come
came r f b = record { file = f; current = r.current; flag = r.flag; buffer = b; transfers = r.transfers }
