-- `texts::put_number` meets its contract.
use native.Mathlib.Omega.{arith}
use lib.ListN.{length-set}
use Rattle.texts.specs.Texts.{octal}
use Rattle.texts.proofs.Puts.{written-cons}
use Rattle.texts.proofs.Digits.{length_digits}
use Rattle.texts.proofs.put_number.Goals as goal

pub put_digits-requires : goal.put_digits-requires
put_digits-requires c = (simp length-set (omega arith), omega arith, omega arith)

pub returns : goal.returns
unfolding octal
returns c =
    let o = rw c.from.ensures at c.put_digits.ensures in
    let w = written-cons c.args.out.now c.args.at 32 _ _ c.put_digits.result (omega arith) (o.0, omega (arith, length_digits 8 6 c.args.n)) in
    (w.0, w.1, omega arith)
