-- A name as a record. Document 02, "The name register": "a record's key is a source spelling, its first data word the state (0 raw, 1 romanised,
-- 2 held), the rest a spelling".
use Rattle.std.specs.Prelude.{ℕ, ◌+◌, ◌-◌, List, ◌∷◌, ◌++◌, get_or}
use Rattle.words.specs.Words.{part}
use Rattle.drum.specs.declared.Description.{Description}
use Rattle.register.specs.declared.State as code
use Rattle.register.specs.declared.State.TheVariants as is

-- "0 raw" [G2]
abbrev pub raw : ℕ
raw = 0

-- "1 romanised" [G2]
abbrev pub romanised : ℕ
romanised = 1

-- "2 held" [G2]
abbrev pub on_hold : ℕ
on_hold = 2

-- the word of a state as the code has it [G2]
abbrev pub word_of : code.State → ℕ
word_of is.Raw = raw
word_of is.Romanised = romanised
word_of is.Held = on_hold

-- the words of a spelling: those of a record behind its key and its state [G2]
abbrev pub spelling_size : Description → ℕ
spelling_size p = p.wpr - p.k - 1

-- a record: key, state, spelling [G2]
unfoldable pub name_of : List ℕ → ℕ → List ℕ → List ℕ
name_of key state spelling = key ++ state ∷ spelling

-- the state of a record: "its first data word" [G2]
unfoldable pub state_of : Description → List ℕ → ℕ
state_of p r = get_or r p.k 0

-- the spelling of a record: "the rest" [G2]
unfoldable pub spelling_of : Description → List ℕ → List ℕ
spelling_of p r = part (p.k + 1) (spelling_size p) r
