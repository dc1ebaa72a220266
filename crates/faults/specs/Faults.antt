-- What is wrong with a line of calls that document 01 calls a bad one. The word is the first of the line.
use Rattle.std.specs.Prelude.{ℕ, ◌-◌, cond, List, eqb, Option, None, Some}
use Rattle.words.specs.Keys.{same_key}
use Rattle.drum.specs.declared.Description.{Description}
use Rattle.rules.specs.declared.Call.{Call}
use Rattle.texts.specs.Texts.{bytes}
use Rattle.lines.specs.Lines.{named, carries}
use Rattle.faults.specs.declared.Fault.{Fault}
use Rattle.faults.specs.declared.Fault.TheVariants.{Empty, NotPlayed, NoCall, Count, NoNumber, AboveTop}
use Rattle.faults.specs.declared.watch.Watch.{Watch}
use Rattle.faults.specs.Nearest.{nearest}

-- "a line that is no such call (nor is VIEW)": its first word names none
unfoldable pub name_fault : Watch → List ℕ → Fault
name_fault w word = cond (eqb w.words 0) Empty (cond (same_key word (bytes "VIEW")) NotPlayed (NoCall (nearest word)))

-- the first word that is not all digits, where one is, else what is wrong besides
unfoldable pub odd_fault : Option ℕ → Fault → Fault
odd_fault None more = more
odd_fault (Some word) more = NoNumber word

-- "the key or record that kind carries": so many numbers are to stand behind the name; "A number above 4294967295 makes its line a bad one"
unfoldable pub numbers_fault : Watch → Call → ℕ → Fault
numbers_fault w c takes =
    odd_fault w.odd (cond (eqb (w.words - 1) takes) AboveTop (Count c takes (w.words - 1)))

-- "a line that is no such call", by the call that its first word names [O6]
unfoldable pub named_fault : Description → Watch → List ℕ → Option Call → Fault
named_fault p w word None = name_fault w word
named_fault p w word (Some c) = numbers_fault w c (carries p c)

-- "a line that is no such call .. prints `BAD LINE`": what is wrong with it
unfoldable pub call_fault : Description → Watch → List ℕ → Fault
call_fault p w word = named_fault p w word (named word)
