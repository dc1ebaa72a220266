-- The reading set's calls for programs in other languages: each does what the reading call does, told in words as the full set's are.
use Rattle.std.specs.Prelude.{ℕ, Bool, false, cond, ◌&&◌, List, [], eqb, get_or}
use Rattle.numbers.specs.Numbers.{wrong_size}
use Rattle.rules.specs.State.{State, Outcome, lent}
use Rattle.face.specs.Counted.{counted, counted_open}
use Rattle.searchfile.specs.declared.Session.{Session}
use Rattle.searchfile.specs.Answers.{Answer}
use Rattle.reading.specs.declared.ReadingSession.{ReadingSession}
use Rattle.reading.specs.Answers as reading
use Rattle.reading.specs.Reading.{one_section, read_open}
use Rattle.capi.specs.Words.{is_session, parameters_in, session_of, packed}
use Rattle.capi.specs.Calls.{Returned, ReturnedOpen, returned, told_in_words, marked, told_open}
use Rattle.capi.specs.View.{place_of}

-- "The session is the same words; a flag word (8) other than 0 answers 020007 and changes nothing." [V9]
unfoldable pub is_reading : List ℕ → Bool
is_reading ws = is_session ws && eqb (get_or ws 8 0) 0

-- 020007 and nothing changed, or what the reading call does [V9]
unfoldable pub called_reading : (State → Outcome) → List ℕ → List ℕ → List ℕ → List ℕ → Returned
called_reading call ws f b w =
    cond (is_reading ws) (told_in_words ws (counted (call (lent (session_of ws) f b w)))) (returned (packed 0 wrong_size) ws f b w)

-- the same of OPEN, with its marks [V9]
unfoldable pub called_reading_open : List ℕ → List ℕ → List ℕ → List ℕ → ReturnedOpen
called_reading_open ws f b m =
    cond (is_reading ws)
    (told_open ws (counted_open (read_open (lent (session_of ws) f b []) m)))
    (marked (returned (packed 0 wrong_size) ws f b []) m)

-- the same of VIEW, whose part is empty where CONTROL is not 1 [V1, V9, S5]
unfoldable pub viewed_reading : List ℕ → List ℕ → List ℕ → ℕ → ℕ
viewed_reading ws f b block =
    cond (is_reading ws) (cond (one_section (parameters_in ws)) (place_of (lent (session_of ws) f b []) block) 0) (packed 0 wrong_size)

-- a reading session as one of the full set, its flag off; and a reading call's answer as one of the full set [V4]
abbrev pub whole_session : ReadingSession → Session
whole_session s = record { desc = s.desc; opened = s.opened; current = s.current; flag = false; placed = s.placed; position = s.position }

abbrev pub whole_answer : reading.Answer → Answer
whole_answer a = record { number = a.number; transfers = a.transfers; session = whole_session a.session }
