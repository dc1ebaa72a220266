-- `nasturakh_salvage(session, copy, fresh, buffer, report, told)`: what it returns and leaves. Nothing is proved here.
use Rattle.std.specs.Prelude.{ℕ, ◌≡◌, cond, ◌&&◌, List, [], ◌∷◌, eqb, length}
use Rattle.numbers.specs.Numbers.{wrong_size}
use Rattle.salvage.specs.Salvage.{Salvaging, salvage}
use Rattle.capi.specs.Words.{is_session, parameters_in}

-- the number returned, and every word lent that may change
pub record ReturnedSalvage : Type 0 where
  pub answer : ℕ
  pub fresh : List ℕ
  pub buffer : List ℕ
  pub report : List ℕ
  pub told : List ℕ

-- the same as a function of them
abbrev pub returned_salvage : ℕ → List ℕ → List ℕ → List ℕ → List ℕ → ReturnedSalvage
returned_salvage r f b x m = record { answer = r; fresh = f; buffer = b; report = x; told = m }

-- the call, told in words: transfers and lines in two words of 64 bits
abbrev pub told_salvage : Salvaging → ReturnedSalvage
told_salvage o = returned_salvage o.number o.fresh o.buffer o.report (o.transfers ∷ o.lines ∷ [])

-- words that are no session, or other than two words to tell in: 020007 and nothing changed; of any other the function does what the call does, with the
-- session's parameters
unfoldable pub called_salvage : List ℕ → List ℕ → List ℕ → List ℕ → List ℕ → List ℕ → ReturnedSalvage
called_salvage ws copy fresh buffer report told =
    cond (is_session ws && eqb (length told) 2)
    (told_salvage (salvage (parameters_in ws) copy fresh buffer report))
    (returned_salvage wrong_size fresh buffer report told)

-- "Two results allowed by one promise are proved equal": the number returned, and every word lent
abbrev pub OneReturnedSalvage : Type 0
OneReturnedSalvage =
    (o : ReturnedSalvage) (r s : ℕ) (f g b d x y m n : List ℕ) → returned_salvage r f b x m ≡ o → returned_salvage s g d y n ≡ o
    → (r ≡ s) × (f ≡ g) × (b ≡ d) × (x ≡ y) × (m ≡ n)
