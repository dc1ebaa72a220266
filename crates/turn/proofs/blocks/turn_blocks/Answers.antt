-- What is left to turn gives the whole, and the blocks not yet turned are as they were.
use mathlib.Core.Path.{refl}
use native.Mathlib.Omega.{arith}
use Rattle.turn.proofs.Steps.{first-turn, turn-ready, turn-next, rest-next, turn_end}
use Rattle.turn.proofs.blocks.turn_blocks.Goals as goal

pub loop-b-init : goal.loop-b-init
loop-b-init c = (omega arith, search first-turn, refl, refl)

pub turn_block-requires : goal.turn_block-requires
turn_block-requires c = search turn-ready

pub loop-b-preserved : goal.loop-b-preserved
loop-b-preserved c =
    let (few, left, rest, same) = c.loop-b.invariant in
    let (fit, words, many) = c.requires in
    let turned = c.turn_block.ensures in
    let below = c.loop-b-test.true in
    (omega arith, turn-next _ _ _ _ _ _ _ left turned refl fit same many below, rest-next _ _ _ _ _ _ rest turned fit same (omega arith), omega arith)

pub returns : goal.returns
returns c = search turn_end
