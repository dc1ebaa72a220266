-- `copy::copy_file` meets its contract: each return is one way through the call.
use Prim.Native.Nat.{ℕ}
use mathlib.Core.Path.{sym, ap, ◌∙◌}
use borrow.Author.Tests.{not-true, not-false}
use Rattle.numbers.proofs.Exits.{number-handed, broke}
use Rattle.numbers.proofs.Passed.{required}
use Rattle.rules.specs.Copy.{copy_left}
use Rattle.copy.proofs.Ways.{way-wrong, way-already, way-fit, way-marks, way-bad, way-fits, way-done}
use Rattle.copy.proofs.copy_file.Goals as goal

pub returns-in_err-require : goal.returns-in_err-require
returns-in_err-require c =
    let b = broke _ _ _ c.in_err-require.ensures in
    ap (λ (n : ℕ). copy_left n c.args.second.now c.args.marks.now) (number-handed _ _ c.from_residual.ensures.1 ∙ b.1)
    ∙ way-wrong _ _ _ _ _ _ _ c.is_sized.ensures b.0

pub returns-in_err-require-2 : goal.returns-in_err-require-2
returns-in_err-require-2 c =
    let b = broke _ _ _ c.in_err-require-2.ensures in
    ap (λ (n : ℕ). copy_left n c.args.second.now c.args.marks.now) (number-handed _ _ c.from_residual-in_err-require-2.ensures.1 ∙ b.1)
    ∙ way-already _ _ _ _ _ _ _ c.is_sized.ensures (required _ _ _ (sym c.in_ok-require.ensures)) (not-false _ b.0)

pub inspect-requires : goal.inspect-requires
inspect-requires c =
    let s = required _ _ _ (sym c.in_ok-require.ensures) in
    record {
      fit = way-fit _ c.args.opened _ _ c.args.second.now c.args.marks.now _ c.is_sized.ensures s;
      marks_len = way-marks _ c.args.opened _ _ c.args.second.now c.args.marks.now _ c.is_sized.ensures s;
    }

pub returns-in_err-require-3 : goal.returns-in_err-require-3
returns-in_err-require-3 c =
    let b = broke _ _ _ c.in_err-require-3.ensures in
    let s = required _ _ _ (sym c.in_ok-require.ensures) in
    let o = not-true _ (required _ _ _ (sym c.in_ok-require-2.ensures)) in
    ap (λ (n : ℕ). copy_left n c.args.second.now c.inspect.new.marks) (number-handed _ _ c.from_residual-in_err-require-3.ensures.1 ∙ b.1)
    ∙ way-bad _ _ _ _ _ _ _ c.is_sized.ensures s _ _ c.inspect.ensures.0 c.inspect.ensures.1 o b.0

pub lay_copy-requires : goal.lay_copy-requires
lay_copy-requires c =
    let s = required _ _ _ (sym c.in_ok-require.ensures) in
    way-fits _ c.args.opened _ _ _ c.args.marks.now _ c.is_sized.ensures s _ _ c.inspect.ensures.0 (required _ _ _ (sym c.in_ok-require-3.ensures))

pub returns : goal.returns
returns c =
    let s = required _ _ _ (sym c.in_ok-require.ensures) in
    let o = not-true _ (required _ _ _ (sym c.in_ok-require-2.ensures)) in
    way-done _ _ _ _ _ _ _ c.is_sized.ensures s _ _ c.inspect.ensures.0 _ c.lay_copy.ensures o (required _ _ _ (sym c.in_ok-require-3.ensures))
