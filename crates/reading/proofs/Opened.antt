-- The ways through OPEN of the profile, one law for each return of its method: x is the test of the file.
use Prim.Native.Nat.{ℕ}
use mathlib.Core.Path.{◌≡◌, refl, sym, ap, ◌∙◌}
use mathlib.Core.Bool.{Bool, true, false}
use mathlib.Core.List.{List, []}
use borrow.Author.Tests.{eqb-true}
use lib.Dec.{eqb}
use lib.ListN.{length}
use Rattle.std.proofs.lemmas.Bool.{not_from_true, not_from_false}
use Rattle.numbers.specs.Numbers.{done, wrong_size, bad_file}
use Rattle.numbers.specs.Checked.{passed, refused}
use Rattle.numbers.proofs.Passed.{then-passed}
use Rattle.words.specs.Words.{zeros}
use Rattle.drum.specs.Params.{sized}
use Rattle.drum.proofs.Good.{Sized, sized-facts}
use Rattle.layout.specs.Inspected.{Fit, flagged, left_marks}
use Rattle.layout.proofs.CodeFlags.{halted, moved}
use Rattle.rules.specs.State.{State, lent, at_rest, unchanged}
use Rattle.rules.specs.Checks.{sizes_ok}
use Rattle.rules.specs.Open.{Opened, open_checks, open_layout}
use Rattle.face.specs.Counted.{counted_open}
use Rattle.reading.specs.declared.ReadingSession.{ReadingSession}
use Rattle.reading.specs.Answers.{Answer}
use Rattle.reading.specs.Finished.{finished_marks}
use Rattle.reading.specs.Reading.{as_session, given, answered_open, read_open, read_open_done}
use Rattle.reading.proofs.Profile.{profiled, behind}

-- refused, these marks left
abbrev shut : State → ℕ → List ℕ → Opened
shut st n ms = record { outcome = unchanged st n; marks = ms }

module _ (s : ReadingSession) (f b ms : List ℕ) where
  abbrev st : State
  st = given s f b []

  -- a refusal leaves all as it was, but for these marks
  unchanged-by : (n : ℕ) (r : Answer) (m₁ : List ℕ) → r ≡ record { number = n; transfers = 0; session = s } → read_open st ms ≡ shut st n m₁
      → answered_open r f b m₁ ≡ counted_open (read_open st ms)
  unchanged-by n r m₁ e h = (λ j. answered_open (e j) f b m₁) ∙ sym (ap counted_open h)

  pub open_early : (n : ℕ) (r : Answer) → r ≡ record { number = n; transfers = 0; session = s } → refused n ≡ profiled (λ z. open_checks z ms) st
      → answered_open r f b ms ≡ counted_open (read_open st ms)
  unfolding read_open read_open_done
  open_early n r e h = unchanged-by n r ms e (rw (← h) refl)

  module _ (h : passed true ≡ profiled (λ z. open_checks z ms) st) where
    -- what the inspector asks for
    tests : (Sized s.desc (length f) (length b)) × (length ms ≡ s.desc.n)
    unfolding open_checks sizes_ok
    tests =
        let one = then-passed (sized s.desc (length f) (length b)) wrong_size _ _ (sym (behind s.desc _ h)) in
        let two = then-passed (eqb (length ms) s.desc.n) wrong_size _ _ one.1 in
        (sized-facts _ _ _ one.0, eqb-true _ _ two.0)

    pub inspect-fit : Fit s.desc f
    inspect-fit = let z = tests.0 in record { good = z.good; size = z.file-is }

    pub marks_whole : length ms ≡ s.desc.n
    marks_whole = tests.1

    module _ (x : Bool) (m₁ : List ℕ) (a : (finished_marks s.desc f ≡ flagged x m₁) × (m₁ ≡ left_marks s.desc.n (finished_marks s.desc f))) where
      pub open-bad : (r : Answer) → r ≡ record { number = bad_file; transfers = 0; session = s } → x ≡ false
          → answered_open r f b m₁ ≡ counted_open (read_open st ms)
      unfolding read_open read_open_done open_layout left_marks
      open-bad r e z =
          let bad = halted x m₁ _ a.0 (not_from_false x z) in
          let m = a.1 ∙ ap (left_marks s.desc.n) bad in
          (λ j. answered_open r f b (m j)) ∙ unchanged-by bad_file r (zeros s.desc.n) e (rw (← h, bad) refl)

      -- the file is as it should be: at rest, with its marks
      pub open_done_lem : (rest : ReadingSession) → as_session rest ≡ at_rest true (as_session s) → x ≡ true
          → answered_open (record { number = done; transfers = 0; session = rest }) f b m₁ ≡ counted_open (read_open st ms)
      unfolding read_open read_open_done open_layout
      open_done_lem rest e y =
          (λ j. record { outcome = record { number = done; transfers = 0; after = lent (e j) f b [] }; marks = m₁ })
          ∙ sym (rw (← h, moved x m₁ _ a.0 (not_from_true x y)) refl)
