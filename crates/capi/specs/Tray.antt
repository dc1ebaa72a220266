-- `nasturakh_nsert_tray(session, file, buffer, tray, told)`: what it returns and leaves. Nothing is proved here.
use Rattle.std.specs.Prelude.{ℕ, ◌≡◌, cond, ◌&&◌, List, [], ◌∷◌, eqb, length}
use Rattle.numbers.specs.Numbers.{wrong_size}
use Rattle.rules.specs.State.{lent}
use Rattle.tray.specs.Tray.{nsert_tray}
use Rattle.tray.specs.Promise.{CountedTray, counted_tray}
use Rattle.capi.specs.Words.{is_session, session_of, words_of}

-- the number returned, and every word lent
pub record ReturnedTray : Type 0 where
  pub answer : ℕ
  pub session : List ℕ
  pub file : List ℕ
  pub buffer : List ℕ
  pub told : List ℕ

-- the same as a function of them
abbrev pub returned_tray : ℕ → List ℕ → List ℕ → List ℕ → List ℕ → ReturnedTray
returned_tray r ws f b told = record { answer = r; session = ws; file = f; buffer = b; told = told }

-- what the tray comes to, told in words: its number alone; "the sum of transfers" and "how many were stored" beside [Y2]
abbrev pub told_tray : List ℕ → CountedTray → ReturnedTray
told_tray ws o =
    returned_tray o.number (words_of ws o.after.session) o.after.file o.after.buffer (o.transfers ∷ o.stored ∷ [])

-- words that are no session, or no two words to tell the figures in: 020007 and nothing changed; of any other the function does what the tray does
unfoldable pub called_tray : List ℕ → List ℕ → List ℕ → List ℕ → List ℕ → ReturnedTray
called_tray ws f b t told =
    cond (is_session ws && eqb (length told) 2)
    (told_tray ws (counted_tray (nsert_tray (lent (session_of ws) f b []) t)))
    (returned_tray wrong_size ws f b told)

-- "Two results allowed by one promise are proved equal": the number returned, and every word lent
abbrev pub OneReturnedTray : Type 0
OneReturnedTray =
    (ws file buffer t told : List ℕ) (r s : ℕ) (us vs f g b d m n : List ℕ) → returned_tray r us f b m ≡ called_tray ws file buffer t told
    → returned_tray s vs g d n ≡ called_tray ws file buffer t told → (r ≡ s) × (us ≡ vs) × (f ≡ g) × (b ≡ d) × (m ≡ n)
