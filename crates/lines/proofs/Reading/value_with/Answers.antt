-- `Reading::value_with` meets its contract.
use mathlib.Core.Path.{refl, sym, ◌∙◌}
use native.Mathlib.Omega.{arith}
use Rattle.lines.proofs.Steps.{digit-least, stays-other, stays-letter, stays-over, value-added}
use Rattle.lines.proofs.Reading.value_with.Goals as goal
use Rattle.lines.proofs.Reading.value_with.Goals.{then-not-self-via-then-not-self, then-not-self-via-else-not-self+then-not-is_digit}

pub returns-then-not-self : goal.returns-then-not-self
returns-then-not-self c =
    let s = c.args in
    elim c.then-not-self.branch [
      | then-not-self-via-then-not-self w ↦ rw (stays-other s.self.number s.self.value s.b w.if-not-self.true) refl
      | then-not-self-via-else-not-self+then-not-is_digit w ↦ rw (stays-letter s.self.number s.self.value s.b (sym w.is_digit.ensures ∙ w.if-not-is_digit.true)) refl
    ]

pub returns-in_err-checked_mul : goal.returns-in_err-checked_mul
returns-in_err-checked_mul c =
    let s = c.args in
    c.from_residual.ensures ∙ rw (stays-over s.self.number s.self.value s.b (omega (arith, c.in_err-checked_mul.ensures))) refl

pub overflow_sub-b : goal.overflow_sub-b
overflow_sub-b c = digit-least c.args.b (sym c.if-not-is_digit.ensures)

pub returns : goal.returns
returns c = value-added _ _ _ _ _ _ c.if-not-self.false (sym c.if-not-is_digit.ensures) c.in_ok-checked_mul.ensures.1 c.from.ensures c.checked_add.ensures
