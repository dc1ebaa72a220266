-- The register's calls, as what the routine's calls do one after the other. Document 02, "The name register": "Above the routine, by its promises
-- alone". The key stands first in the workspace, as for SEEK; a given spelling is lent apart.
use Rattle.std.specs.Prelude.{ℕ, Bool, cond, not, ◌&&◌, List, ◌++◌, eqb, ltb, length}
use Rattle.numbers.specs.Numbers.{done, wrong_size, wrong_key, not_allowed}
use Rattle.numbers.specs.Checked.{Checked, passed, refused, ◌>>◌, require}
use Rattle.words.specs.Words.{zeros, all_words}
use Rattle.drum.specs.declared.Description.{Description}
use Rattle.rules.specs.State.{State, Outcome, desc, key_in, unchanged}
use Rattle.rules.specs.Checks.{sizes_ok, work_ok, is_open, key_ok}
use Rattle.rules.specs.Seek.{seek, updat}
use Rattle.rules.specs.Adv.{adv}
use Rattle.rules.specs.NsertDone.{nsert}
use Rattle.rules.specs.Requests.{lending}
use Rattle.register.specs.Names.{raw, romanised, on_hold, spelling_size, name_of, state_of, spelling_of}

-- ---- the refusals before the routine is called

-- "020007 also where a record has no data word" [G12]
unfoldable pub has_state : State → Checked Bool
has_state st = require (ltb (desc st).k (desc st).wpr) wrong_size

-- 020007, 020005, 030001, as SEEK gives them: of the sizes, the session and the key [G10, G12]
unfoldable pub name_ok : State → Checked Bool
name_ok st = do
  has_state st
  sizes_ok st
  work_ok st
  is_open st
  key_ok (desc st).k st

-- the same where a spelling is given: its length is one more slice length, and "030001 covers a given spelling" [G11, G12]
unfoldable pub spelled_ok : List ℕ → State → Checked Bool
spelled_ok spelling st = do
  require (eqb (length spelling) (spelling_size (desc st))) wrong_size
  name_ok st
  require (all_words spelling) wrong_key

-- "all unchanged" by the first refusal, or what the routine then does [G10]
unfoldable pub checked : State → Checked Bool → Outcome → Outcome
checked st (refused n) o = unchanged st n
checked st (passed x) o = o

-- ---- entering, asking, listing

-- "Entering adds a raw name, its spelling zero.": the record that is put in [G3]
unfoldable pub raw_name : Description → List ℕ → List ℕ
raw_name p work = name_of (key_in p work) raw (zeros (spelling_size p))

-- entering: NSERT of that record, which stands in the workspace whatever NSERT answers [G3, G13]
unfoldable pub enter : State → Outcome
enter st = checked st (name_ok st) (nsert (lending (raw_name (desc st) st.work) st))

-- asking: SEEK [G6, G13]
unfoldable pub ask : State → Outcome
ask st = checked st (has_state st) (seek st)

-- listing: ADV hands out the next name [G9, G13]
unfoldable pub next : State → Outcome
next st = checked st (has_state st) (adv st)

-- ---- moves

-- another number for what was done: "030007 .. after 000001", all as SEEK left it [G10]
unfoldable pub stopped : ℕ → Outcome → Outcome
stopped n o = record { number = n; transfers = o.transfers; after = o.after }

-- one step, and another on what it left: the number of the last, and the transfers of both [G13]
unfoldable pub joined : Outcome → Outcome → Outcome
joined o u = record { number = u.number; transfers = o.transfers ++ u.transfers; after = u.after }

-- SEEK, and 030007 where the record that it found is in another state than `from` [G4, G5, G10]
unfoldable pub sought : ℕ → State → Outcome
sought from st =
    let o = seek st in
    cond (eqb o.number done && not (eqb (state_of (desc st) o.after.work) from)) (stopped not_allowed o) o

-- what follows a record that was found: a refusal, or UPDAT with these words [G4, G5]
unfoldable pub followed : Outcome → Checked (List ℕ) → Outcome
followed o (refused n) = stopped n o
followed o (passed w) = joined o (updat (lending w o.after))

-- a move from a state, to the record that is made of the one found [G4, G5, G10]
unfoldable pub move : ℕ → (List ℕ → Checked (List ℕ)) → State → Outcome
move from made st = let o = sought from st in cond (eqb o.number done) (followed o (made o.after.work)) o

-- "Romanising moves raw to romanised with a given spelling" [G4]
unfoldable pub spelled : Description → List ℕ → List ℕ → Checked (List ℕ)
spelled p spelling w = passed (name_of (key_in p w) romanised spelling)

-- "Holding and freeing move romanised to held and back": the spelling is the record's own, 030001 where it has a word above 262143 [G5, G11]
unfoldable pub turned : Description → ℕ → List ℕ → Checked (List ℕ)
turned p to w = do
  require (all_words (spelling_of p w)) wrong_key
  passed (name_of (key_in p w) to (spelling_of p w))

-- romanising, with a given spelling [G4]
unfoldable pub romanise : List ℕ → State → Outcome
romanise spelling st = checked st (spelled_ok spelling st) (move raw (spelled (desc st) spelling) st)

-- holding and freeing: from one state to another, the spelling kept [G5]
unfoldable pub turn : ℕ → ℕ → State → Outcome
turn from to st = checked st (name_ok st) (move from (turned (desc st) to) st)

-- holding [G5]
unfoldable pub hold : State → Outcome
hold st = turn romanised on_hold st

-- freeing [G5]
unfoldable pub free : State → Outcome
free st = turn on_hold romanised st
