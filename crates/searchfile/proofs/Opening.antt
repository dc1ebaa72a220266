-- The ways through OPEN, one law for each return of its method: x is the test of the file.
use mathlib.Core.Path.{◌≡◌, refl, sym, ap, ◌∙◌}
use mathlib.Core.Bool.{Bool, true, false}
use mathlib.Core.List.{List, []}
use Prim.Native.Nat.{ℕ}
use lib.ListN.{length}
use borrow.Author.Tests.{eqb-true}
use Rattle.std.proofs.lemmas.Bool.{not_from_true, not_from_false}
use Rattle.numbers.specs.Numbers.{done, wrong_size, bad_file}
use Rattle.numbers.specs.Checked.{passed, refused}
use Rattle.numbers.proofs.Passed.{then-passed}
use Rattle.words.specs.Words.{zeros}
use lib.Dec.{eqb}
use Rattle.drum.specs.Params.{sized}
use Rattle.drum.proofs.Good.{Sized, sized-facts}
use Rattle.layout.specs.Inspect.{layout_marks}
use Rattle.layout.specs.Inspected.{Fit, flagged, left_marks}
use Rattle.layout.proofs.CodeFlags.{halted, moved}
use Rattle.rules.specs.State.{State, lent, at_rest, unchanged}
use Rattle.rules.specs.Checks.{sizes_ok}
use Rattle.rules.specs.Open.{Opened, open_file, open_checks, open_done, open_layout}
use Rattle.searchfile.specs.declared.Session as code
use Rattle.searchfile.specs.Answers.{Answer}
use Rattle.searchfile.specs.Promise.{held, given, answered_open, counted_open}

-- refused, these marks left; and opened
abbrev shut : State → ℕ → List ℕ → Opened
shut st n ms = record { outcome = unchanged st n; marks = ms }

abbrev open-now : State → List ℕ → Opened
open-now st ms = record {
  outcome = record { number = done; transfers = []; after = lent (at_rest true st.session) st.file st.buffer st.work };
  marks = ms;
}

module _ (s : code.Session) (f b ms : List ℕ) where
  abbrev st : State
  st = given s f b []

  -- a refusal leaves all as it was, but for these marks
  unchanged-by : (n : ℕ) (r : Answer) (m₁ : List ℕ) → r ≡ record { number = n; transfers = 0; session = s } → open_file st ms ≡ shut st n m₁
      → answered_open r f b m₁ ≡ counted_open (open_file st ms)
  unchanged-by n r m₁ e h = (λ j. answered_open (e j) f b m₁) ∙ sym (ap counted_open h)

  pub open_early : (n : ℕ) (r : Answer) → r ≡ record { number = n; transfers = 0; session = s } → refused n ≡ open_checks st ms
      → answered_open r f b ms ≡ counted_open (open_file st ms)
  unfolding open_file open_done
  open_early n r e h = unchanged-by n r ms e (rw (← h) refl)

  module _ (h : passed true ≡ open_checks st ms) where
    -- what the inspector asks for
    tests : (Sized s.desc (length f) (length b)) × (length ms ≡ s.desc.n)
    unfolding open_checks sizes_ok
    tests =
        let one = then-passed (sized s.desc (length f) (length b)) wrong_size _ _ (sym h) in
        let two = then-passed (eqb (length ms) s.desc.n) wrong_size _ _ one.1 in
        (sized-facts _ _ _ one.0, eqb-true _ _ two.0)

    pub inspect-fit : Fit s.desc f
    inspect-fit = let z = tests.0 in record { good = z.good; size = z.file-is }

    pub marks_whole : length ms ≡ s.desc.n
    marks_whole = tests.1

    module _ (x : Bool) (m₁ : List ℕ) (a : (layout_marks s.desc f ≡ flagged x m₁) × (m₁ ≡ left_marks s.desc.n (layout_marks s.desc f))) where
      pub open-bad : (r : Answer) → r ≡ record { number = bad_file; transfers = 0; session = s } → x ≡ false
          → answered_open r f b m₁ ≡ counted_open (open_file st ms)
      unfolding open_file open_done open_layout left_marks
      open-bad r e z =
          let bad = halted x m₁ _ a.0 (not_from_false x z) in
          let m = a.1 ∙ ap (left_marks s.desc.n) bad in
          (λ j. answered_open r f b (m j)) ∙ unchanged-by bad_file r (zeros s.desc.n) e (rw (← h, bad) refl)

      -- the file is as it should be: at rest, with its marks
      pub open_done_lem : (rest : code.Session) → held rest ≡ at_rest true (held s) → x ≡ true
          → answered_open (record { number = done; transfers = 0; session = rest }) f b m₁ ≡ counted_open (open_file st ms)
      unfolding open_file open_done open_layout
      open_done_lem rest e y =
          (λ j. record { outcome = record { number = done; transfers = 0; after = lent (e j) f b [] }; marks = m₁ })
          ∙ sym (rw (← h, moved x m₁ _ a.0 (not_from_true x y)) refl)
