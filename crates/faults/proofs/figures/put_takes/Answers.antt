-- `figures::put_takes` meets its contract.
use native.Mathlib.Omega.{arith}
use borrow.Author.Tests.{eq-eqb, ne_eqb}
use Rattle.texts.specs.Texts.{bytes}
use Rattle.faults.specs.Sentences.{takes_text}
use Rattle.faults.proofs.figures.put_takes.Goals as goal

pub returns-then-takes-eq1 : goal.returns-then-takes-eq1
unfolding takes_text bytes
returns-then-takes-eq1 c =
    let b = c.put_bytes.ensures in
    rw (eq-eqb _ _ c.if-takes-eq1.true) (b.0, b.1, omega (arith, b.1))

pub returns : goal.returns
unfolding takes_text bytes
returns c =
    let f = c.put_figure.ensures in
    rw (ne_eqb _ _ c.if-takes-eq1.false) (f.0, f.1, omega (arith, f.2))
