-- `texts::put_decimal` meets its contract.
use native.Mathlib.Omega.{arith}
use lib.ListN.{length-set}
use Rattle.texts.specs.Texts.{decimal}
use Rattle.texts.proofs.Puts.{written-cons}
use Rattle.texts.proofs.Lines.{length-decimal}
use Rattle.texts.proofs.put_decimal.Goals as goal

pub put_digits-requires : goal.put_digits-requires
put_digits-requires c = (simp length-set (omega arith), omega arith, omega arith)

pub returns : goal.returns
unfolding decimal
returns c =
    let o = rw c.places-k.ensures.0 at c.put_digits.ensures.0 in
    let w = written-cons c.args.out.now c.args.at 32 _ _ c.put_digits.result (omega arith) (o, omega (arith, length-decimal c.args.n)) in
    (w.0, w.1, omega arith)
