-- `texts::put_listed` meets its contract: what is to be written from here on comes to what the whole comes to.
use mathlib.Core.Path.{◌≡◌, refl, sym}
use mathlib.Core.List.{[]}
use native.Mathlib.Omega.{arith}
use lib.ListN.{drop}
use Rattle.words.proofs.Parts.{put-none}
use Rattle.texts.specs.Texts.{listed}
use Rattle.texts.proofs.Lines.{listed-turn, listed-done}
use Rattle.texts.proofs.put_listed.Goals as goal

pub loop-word-init : goal.loop-word-init
loop-word-init c = (omega arith, (refl, refl), refl)

pub put_decimal-end-requires : goal.put_decimal-end-requires
put_decimal-end-requires c = omega arith

pub loop-word-preserved : goal.loop-word-preserved
loop-word-preserved c =
    let l = c.loop-word in
    let w = c.put_decimal-end.ensures in
    (omega arith, listed-turn _ _ c.args.words.now _ _ l.word-index _ _ _ l.invariant.1 (omega arith) c.from.ensures (w.0, w.1) (omega arith), omega arith)

pub returns : goal.returns
returns c =
    let e : listed (drop c.loop-word.word-index c.args.words.now) ≡ [] = listed-done c.loop-word.word-index c.args.words.now (omega arith) in
    let v = rw e at c.loop-word.invariant.1 in
    (rw put-none at (sym v.0), omega arith, omega arith)
