-- The exported calls: each does what the session call does, told in words.
use Rattle.std.specs.Prelude.{ℕ, ◌≤◌, ◌≡◌, cond, List, [], length}
use Rattle.numbers.specs.Numbers.{wrong_size}
use Rattle.rules.specs.State.{State, Outcome, lent}
use Rattle.rules.specs.Open.{open_file}
use Rattle.searchfile.specs.declared.Session as code
use Rattle.searchfile.specs.Answers.{Answer}
use Rattle.searchfile.specs.Promise.{Counted, CountedOpen, counted, counted_open}
use Rattle.capi.specs.Words.{is_session, parameters_in, session_of, words_of, most_word, packed}

-- what a function returns, and the words it leaves
pub record Returned : Type 0 where
  pub answer : ℕ
  pub session : List ℕ
  pub file : List ℕ
  pub buffer : List ℕ
  pub work : List ℕ

-- the same as a function of them; of words that a function is not lent, none
abbrev pub returned : ℕ → List ℕ → List ℕ → List ℕ → List ℕ → Returned
returned r ws f b w = record { answer = r; session = ws; file = f; buffer = b; work = w }

-- a session call's outcome: "transfers times 2^32, plus the number", and the session as words like ws, which were lent
abbrev pub told_in_words : List ℕ → Counted → Returned
told_in_words ws o =
    returned (packed o.transfers o.number) (words_of ws o.after.session) o.after.file o.after.buffer o.after.work

-- "A session slice of another length, or a word 6, 8 or 9 above 1, answers 020007 and changes nothing."; of any other the function does
-- what the session call does
unfoldable pub called : (State → Outcome) → List ℕ → List ℕ → List ℕ → List ℕ → Returned
called call ws f b w =
    cond (is_session ws) (told_in_words ws (counted (call (lent (session_of ws) f b w)))) (returned (packed 0 wrong_size) ws f b w)

-- `nasturakh_open(session, file, buffer, marks)`: what it returns and leaves, the marks beside
pub record ReturnedOpen : Type 0 where
  pub returned : Returned
  pub marks : List ℕ

-- the same as a function of them
abbrev pub marked : Returned → List ℕ → ReturnedOpen
marked r m = record { returned = r; marks = m }

-- OPEN's outcome, told in words
abbrev pub told_open : List ℕ → CountedOpen → ReturnedOpen
told_open ws o = marked (told_in_words ws o.outcome) o.marks

-- what `called` is of the other calls: 020007 and nothing changed, or what OPEN does
unfoldable pub called_open : List ℕ → List ℕ → List ℕ → List ℕ → ReturnedOpen
called_open ws f b m =
    cond (is_session ws)
    (told_open ws (counted_open (open_file (lent (session_of ws) f b []) m)))
    (marked (returned (packed 0 wrong_size) ws f b []) m)

-- a session that words have room for, with the parameters that stand in the words
pub record Writable (ws : List ℕ) (s : code.Session) : Type 0 where
  pub whole : 73 ≤ length ws
  pub no_more : length ws ≤ 74
  pub same-parameters : parameters_in ws ≡ s.desc
  pub current-most : s.current ≤ most_word

-- an answer that words and a 64-bit number have room for
pub record Tellable (ws : List ℕ) (a : Answer) : Type 0 where
  pub session : Writable ws a.session
  pub few : a.transfers ≤ 16
