-- Which call can answer which number, on all words. Document 01, "Numbers returned (octal)", column "when". Nothing is proved here.
use Rattle.std.specs.Prelude.{ℕ, ◌≡◌, Bool, true, ◌||◌, List, eqb}
use Rattle.numbers.specs.Numbers.{wrong_size, already_open, is_closed, wrong_key, bad_file, not_found, out_of_sequence, no_room, at_end, done, accepted}
use Rattle.drum.specs.declared.Description.{Description}
use Rattle.rules.specs.State.{State}
use Rattle.rules.specs.Open.{create}
use Rattle.rules.specs.Requests.{Request, opening, closing, seeking, advancing, inserting, deleting, updating, extending, answer}

-- the refusals that leave "all unchanged": of OPEN; of CLOSE and ADV; of a keyed call [N1, N2, N5]
unfoldable pub open_refuses : ℕ → Bool
open_refuses n = eqb n wrong_size || (eqb n already_open || eqb n bad_file)

-- of CLOSE and ADV [N1, N3, N5]
unfoldable pub plain_refuses : ℕ → Bool
plain_refuses n = eqb n wrong_size || (eqb n is_closed || eqb n bad_file)

-- of a keyed call [N1, N3, N4, N5]
unfoldable pub keyed_refuses : ℕ → Bool
keyed_refuses n = eqb n wrong_size || (eqb n is_closed || (eqb n wrong_key || eqb n bad_file))

-- what the steps come to: 0; "not found"; "ADV reached the end"; stored, 0 or 070001, "NSERT duplicate", "XTEND out of sequence", too few free [N6, N11]
unfoldable pub finds : ℕ → Bool
finds n = eqb n done || eqb n not_found

-- ADV: 0, or it "reached the end" [N10, N11]
unfoldable pub advances : ℕ → Bool
advances n = eqb n done || eqb n at_end

-- NSERT: stored, there already, or no room [N6, N8, N9, N11]
unfoldable pub inserts : ℕ → Bool
inserts n = accepted n || (eqb n not_found || eqb n no_room)

-- XTEND: stored, out of sequence, or no room [N7, N8, N9, N11]
unfoldable pub extends : ℕ → Bool
extends n = accepted n || (eqb n out_of_sequence || eqb n no_room)

-- the numbers that each call can answer: its refusals, and what its steps come to [N1]
unfoldable pub can_answer : Request → ℕ → Bool
can_answer (opening marks) n = open_refuses n || eqb n done
can_answer closing n = plain_refuses n || eqb n done
can_answer (seeking work) n = keyed_refuses n || finds n
can_answer (advancing work) n = plain_refuses n || advances n
can_answer (inserting work) n = keyed_refuses n || inserts n
can_answer (deleting work) n = keyed_refuses n || finds n
can_answer (updating work) n = keyed_refuses n || finds n
can_answer (extending work) n = keyed_refuses n || extends n

-- "the first that applies is given, and none otherwise"
abbrev pub CanAnswer : Type 0
CanAnswer = (st : State) (q : Request) → can_answer q (answer st q).number ≡ true

-- "CREATE has no session and can answer only 020007 or 0." [N12]
abbrev pub CreateCan : Type 0
CreateCan = (p : Description) (f : List ℕ) → let n = (create p f).number in (eqb n wrong_size || eqb n done) ≡ true
