-- `register::refused_spelled` meets its contract: each test is the next line of the definition.
use mathlib.Core.Path.{refl, ap, ◌∙◌}
use Rattle.words.specs.Words.{all_words}
use Rattle.words.proofs.Parts.{part-all}
use Rattle.numbers.proofs.Exits.{handed-test}
use Rattle.register.specs.Checks.{spelled_checks}
use Rattle.register.proofs.checks.refused_spelled.Goals as goal

pub returns-in_err-require : goal.returns-in_err-require
unfolding spelled_checks
returns-in_err-require c =
    handed-test _ _ _ c.from_residual.ensures.1
    (rw (← c.saturating_sub.ensures, ← c.saturating_sub-size.ensures, ← c.in_err-require.ensures) refl)

pub returns-in_err-refused_name : goal.returns-in_err-refused_name
unfolding spelled_checks
returns-in_err-refused_name c =
    handed-test _ _ _ c.from_residual-in_err-refused_name.ensures.1
    (rw (← c.saturating_sub.ensures, ← c.saturating_sub-size.ensures, ← c.in_ok-require.ensures, ← c.in_err-refused_name.ensures) refl)

pub returns : goal.returns
unfolding spelled_checks
returns c =
    let words = c.all_words-good.ensures ∙ ap all_words (part-all _ c.args.spelling.now refl) in
    rw (
      ← c.saturating_sub.ensures,
      ← c.saturating_sub-size.ensures,
      ← c.in_ok-require.ensures,
      ← c.in_ok-refused_name.ensures,
      ← words,
      ← c.require-2.ensures,
    ) refl
