-- `nasturakh_turn(session, file, marks)`: what it returns and leaves. Nothing is proved here.
use Rattle.std.specs.Prelude.{ℕ, ◌≡◌, cond, ◌&&◌, List, [], eqb, length, get_or}
use Rattle.numbers.specs.Numbers.{wrong_size}
use Rattle.rules.specs.State.{lent}
use Rattle.rules.specs.Turning.{turn_file}
use Rattle.searchfile.specs.Turning.{CountedTurn, counted_turn}
use Rattle.capi.specs.Words.{is_session, session_of, words_of, packed}

-- the number returned, and every word lent
pub record ReturnedTurn : Type 0 where
  pub answer : ℕ
  pub session : List ℕ
  pub file : List ℕ
  pub marks : List ℕ

-- the same as a function of them
abbrev pub returned_turn : ℕ → List ℕ → List ℕ → List ℕ → ReturnedTurn
returned_turn r ws f m = record { answer = r; session = ws; file = f; marks = m }

-- the outcome of the session's call, told in words
abbrev pub told_turn : List ℕ → CountedTurn → ReturnedTurn
told_turn ws o =
    returned_turn
    (packed o.outcome.transfers o.outcome.number)
    (words_of ws o.outcome.after.session)
    o.outcome.after.file
    o.marks

-- words that are no session, or have no place for the form: 020007 and nothing changed; of any other the function does what the session's call does [K5]
unfoldable pub called_turn : List ℕ → List ℕ → List ℕ → ReturnedTurn
called_turn ws f m =
    cond (is_session ws && eqb (length ws) 74)
    (told_turn ws (counted_turn (turn_file (lent (session_of ws) f [] []) m)))
    (returned_turn (packed 0 wrong_size) ws f m)

-- of the session's words no other than FORM is changed [K5]
abbrev pub OnlyForm : Type 0
OnlyForm = (ws file marks : List ℕ) (i : ℕ) → (i ≡ 73 → ⊥) → get_or (called_turn ws file marks).session i 0 ≡ get_or ws i 0

-- "Two results allowed by one promise are proved equal": the number returned, and every word lent
abbrev pub OneReturnedTurn : Type 0
OneReturnedTurn =
    (ws file marks : List ℕ) (r s : ℕ) (us vs f g m n : List ℕ) → returned_turn r us f m ≡ called_turn ws file marks
    → returned_turn s vs g n ≡ called_turn ws file marks → (r ≡ s) × (us ≡ vs) × (f ≡ g) × (m ≡ n)
