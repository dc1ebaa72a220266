-- The ways through CLOSE, one law for each return of its method.
use Prim.Native.Nat.{ℕ}
use mathlib.Core.Path.{◌≡◌, refl, sym, ◌∙◌}
use mathlib.Core.Bool.{true, false}
use mathlib.Core.List.{List, []}
use lib.ListN.{length}
use Rattle.numbers.specs.Numbers.{done, wrong_size, is_closed, bad_file}
use Rattle.numbers.specs.Checked.{passed, refused}
use Rattle.numbers.proofs.Passed.{then-passed, required}
use Rattle.drum.specs.Params.{sized}
use Rattle.drum.proofs.Good.{sized-facts}
use Rattle.drum.specs.Blocks.{Fitting, written}
use Rattle.rules.specs.State.{State, texts, lent, at_rest}
use Rattle.rules.specs.Checks.{sizes_ok, is_open}
use Rattle.rules.specs.Fits.{FlushFits}
use Rattle.rules.specs.Lookup.{flush_moves}
use Rattle.rules.specs.Close.{close, close_checks, close_done}
use Rattle.rules.proofs.Fits.{flush-fits}
use Rattle.searchfile.specs.declared.Session as code
use Rattle.searchfile.specs.Answers.{Answer}
use Rattle.searchfile.specs.Promise.{held, given, counted, answered}

module _ (s : code.Session) (f b : List ℕ) where
  abbrev st : State
  st = given s f b []

  -- a refusal leaves all as it was
  pub close_early : (n : ℕ) (r : Answer) → r ≡ record { number = n; transfers = 0; session = s } → refused n ≡ close_checks st
      → answered r f b [] ≡ counted (close st)
  unfolding close close_done
  close_early n r e h = (λ j. answered (e j) f b []) ∙ sym (rw (← h) refl)

  module _ (h : passed true ≡ close_checks st) where
    pub close-fitting : Fitting s.desc f b
    unfolding close_checks sizes_ok
    close-fitting =
        let z = sized-facts _ _ _ (then-passed (sized s.desc (length f) (length b)) wrong_size _ _ (sym h)).0 in
        record { good = z.good; file-is = z.file-is; buffer-is = z.buffer-is }

    -- the block to be written is one of the file's
    pub close-flush : FlushFits (texts st) s.flag
    unfolding close_checks sizes_ok is_open
    close-flush =
        let one = then-passed (sized s.desc (length f) (length b)) wrong_size _ _ (sym h) in
        let two = then-passed s.opened is_closed _ _ one.1 in
        flush-fits (texts st) s.flag (required _ bad_file _ two.1)

    -- written if flagged, and at rest
    pub close-done : (rest : code.Session) (g : List ℕ) (n : ℕ) → held rest ≡ at_rest false (held s)
        → (n ≡ length (flush_moves (texts st) s.flag)) × (g ≡ written s.desc (flush_moves (texts st) s.flag) f)
        → answered (record { number = done; transfers = n; session = rest }) g b [] ≡ counted (close st)
    unfolding close close_done
    close-done rest g n e a =
        (λ j. record { number = done; transfers = a.0 j; after = lent (e j) (a.1 j) b [] })
        ∙ sym (rw (← h) refl)
