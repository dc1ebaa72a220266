-- `texts::put_digits` meets its contract.
use mathlib.Core.Path.{◌≡◌, refl, sym}
use Prim.Native.Nat.{◌<◌}
use native.Mathlib.Nat.{mod-lt}
use native.Mathlib.Omega.{arith}
use lib.ListN.{length-set}
use Rattle.words.proofs.Parts.{put-none}
use Rattle.texts.proofs.Digits.{digit-turn, no_digit}
use Rattle.texts.proofs.put_digits.Goals as goal

pub loop-i-init : goal.loop-i-init
loop-i-init c = (omega arith, refl, refl)

pub overflow_cast-out : goal.overflow_cast-out
overflow_cast-out c =
    let p : 0 < c.args.base = omega arith in
    omega (arith, mod-lt c.loop-i.rest p)

pub overflow_add-out : goal.overflow_add-out
overflow_add-out c =
    let p : 0 < c.args.base = omega arith in
    omega (arith, mod-lt c.loop-i.rest p)

pub loop-i-preserved : goal.loop-i-preserved
loop-i-preserved c = (omega arith, digit-turn _ _ _ _ _ _ c.loop-i.invariant.1 (omega arith) (omega arith), simp length-set (omega arith))

pub returns : goal.returns
returns c =
    let e : c.loop-i.i ≡ 0 = omega arith in
    (sym (rw (e, no_digit, put-none) at c.loop-i.invariant.1), refl)
