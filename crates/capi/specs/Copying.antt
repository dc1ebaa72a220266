-- `nasturakh_copy(session, file, second, control, marks)`: what it returns and leaves. Nothing is proved here.
use Rattle.std.specs.Prelude.{ℕ, ◌≡◌, cond, List, []}
use Rattle.numbers.specs.Numbers.{wrong_size}
use Rattle.rules.specs.State.{lent}
use Rattle.rules.specs.Copy.{copy_file}
use Rattle.searchfile.specs.Copying.{CountedCopy, counted_copy}
use Rattle.capi.specs.Words.{is_session, session_of, words_of, packed}

-- the number returned, and every word lent
pub record ReturnedCopy : Type 0 where
  pub answer : ℕ
  pub session : List ℕ
  pub file : List ℕ
  pub second : List ℕ
  pub marks : List ℕ

-- the same as a function of them
abbrev pub returned_copy : ℕ → List ℕ → List ℕ → List ℕ → List ℕ → ReturnedCopy
returned_copy r ws f second m = record { answer = r; session = ws; file = f; second = second; marks = m }

-- the outcome of the session's call, told in words
abbrev pub told_copy : List ℕ → CountedCopy → ReturnedCopy
told_copy ws o =
    returned_copy
    (packed o.outcome.transfers o.outcome.number)
    (words_of ws o.outcome.after.session)
    o.outcome.after.file
    o.second
    o.marks

-- words that are no session: 020007 and nothing changed; of any other the function does what the session's call does
unfoldable pub called_copy : List ℕ → List ℕ → List ℕ → ℕ → List ℕ → ReturnedCopy
called_copy ws f second c m =
    cond (is_session ws)
    (told_copy ws (counted_copy (copy_file (lent (session_of ws) f [] []) second c m)))
    (returned_copy (packed 0 wrong_size) ws f second m)

-- "Two results allowed by one promise are proved equal": the number returned, and every word lent
abbrev pub OneReturnedCopy : Type 0
OneReturnedCopy =
    (ws file second marks : List ℕ) (c r s : ℕ) (us vs f g x y m n : List ℕ) → returned_copy r us f x m ≡ called_copy ws file second c marks
    → returned_copy s vs g y n ≡ called_copy ws file second c marks → (r ≡ s) × (us ≡ vs) × (f ≡ g) × (x ≡ y) × (m ≡ n)
