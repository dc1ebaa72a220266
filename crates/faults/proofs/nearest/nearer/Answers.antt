-- `nearest::nearer` meets its contract.
use mathlib.Core.Path.{ap}
use mathlib.Core.List.{List}
use native.Mathlib.Omega.{arith}
use Prim.Native.Nat.{ℕ}
use lib.ListN.{length}
use Rattle.texts.specs.Results.{spelling}
use Rattle.texts.proofs.Names.{spelling-short}
use Rattle.faults.proofs.Cases.{nearer-kept, nearer-new}
use Rattle.faults.proofs.nearest.nearer.Goals as goal

pub alike-score-requires : goal.alike-score-requires
alike-score-requires c = omega (arith, spelling-short c.args.call, ap (λ (l : List ℕ). length l) c.spelling-text.ensures)

pub returns-then-score-near : goal.returns-then-score-near
returns-then-score-near c =
    let e = rw c.spelling-text.ensures at c.alike-score.ensures in
    nearer-kept c.args.word.now (spelling c.args.call) c.args.near c.args.call _ e c.if-score-near.true

pub returns : goal.returns
returns c =
    let e = rw c.spelling-text.ensures at c.alike-score.ensures in
    rw c.spelling-text.ensures (nearer-new c.args.word.now (spelling c.args.call) c.args.near c.args.call _ e c.if-score-near.false)
