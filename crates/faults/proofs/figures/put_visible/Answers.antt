-- `figures::put_visible` meets its contract.
use mathlib.Core.Path.{◌≡◌, refl}
use native.Mathlib.Omega.{arith}
use lib.ListN.{length, length-set}
use Rattle.words.proofs.Parts.{put-none, part_none, part-all}
use Rattle.faults.specs.Sentences.{visibles}
use Rattle.faults.proofs.Turns.{length-visibles, visible-turn}
use Rattle.faults.proofs.figures.put_visible.Goals as goal

pub loop-i-init : goal.loop-i-init
unfolding visibles
loop-i-init c = (rw (part_none, put-none), refl)

pub loop-i-preserved : goal.loop-i-preserved
loop-i-preserved c = (visible-turn _ _ _ _ _ _ c.loop-i.invariant.0 (omega arith) (omega arith) c.visible.ensures, simp length-set (omega arith))

pub returns : goal.returns
returns c =
    let e : length c.args.word.now ≡ c.loop-i.i = omega arith in
    let h = rw (part-all c.loop-i.i c.args.word.now e) at c.loop-i.invariant.0 in
    (h, omega (arith, length-visibles c.args.word.now), omega arith)
