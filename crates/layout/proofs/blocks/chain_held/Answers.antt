-- The mark, the kind and the words decide at each block; what is left of the chain gives what all of it gives.
use mathlib.Core.Path.{refl, ◌∙◌}
use native.Mathlib.Omega.{arith}
use native.Mathlib.Nat.{sub-zero}
use Rattle.drum.proofs.Forms.{link_near}
use Rattle.layout.proofs.CodeFlags.{stopped, by-test, last-test}
use Rattle.layout.proofs.CodeSizes.{block-least, block-most, block-wide}
use Rattle.layout.proofs.CodeSteps.{chain-end, chain-last, chain-step, link-rest}
use Rattle.layout.proofs.blocks.chain_held.Goals as goal

pub overflow_add-behind : goal.overflow_add-behind
overflow_add-behind c = omega (arith, link_near)

pub loop-i-init : goal.loop-i-init
loop-i-init c = (omega arith, rw sub-zero refl)

pub returns-then-b-eq0 : goal.returns-then-b-eq0
returns-then-b-eq0 c = chain-end _ _ _ _ _ _ _ c.loop-i.invariant.1 c.if-b-eq0.true

pub returns-in_err-mark : goal.returns-in_err-mark
returns-in_err-mark c =
    stopped _ _ _ _ c.from_residual.ensures.1
    (chain-step _ _ _ _ _ _ _ c.loop-i.invariant.1 c.loop-i-test.true c.if-b-eq0.false ∙ rw (c.in_err-mark.ensures) refl)

pub block_of-t-requires : goal.block_of-t-requires
block_of-t-requires c =
    let l = c.loop-i.invariant.0 in
    (c.requires.fit, block-least c.args.p _ 2 _ _ c.in_ok-mark.ensures l, block-most c.args.p _ 2 _ _ c.in_ok-mark.ensures l)

pub is_free-requires : goal.is_free-requires
is_free-requires c = omega (arith, block-wide)

pub returns-in_err-require : goal.returns-in_err-require
returns-in_err-require c =
    stopped _ _ _ _ c.from_residual-in_err-require.ensures.1
    (chain-step _ _ _ _ _ _ _ c.loop-i.invariant.1 c.loop-i-test.true c.if-b-eq0.false
    ∙ rw (c.in_ok-mark.ensures, ← c.block_of-t.ensures.0, ← c.is_free.ensures, by-test c.is_free.result _ c.in_err-require.ensures) refl)

pub overflow_sub-t : goal.overflow_sub-t
overflow_sub-t c = omega (arith, block-wide, link_near)

pub all_are-requires : goal.all_are-requires
all_are-requires c = omega (arith, block-wide, link_near)

pub returns-in_err-require-2 : goal.returns-in_err-require-2
returns-in_err-require-2 c =
    let r = link-rest c.args.p c.block_of-t.result.now _ c.link_place-behind.ensures _ c.all_are.ensures in
    stopped _ _ _ _ c.from_residual-in_err-require-2.ensures.1
    (chain-step _ _ _ _ _ _ _ c.loop-i.invariant.1 c.loop-i-test.true c.if-b-eq0.false
    ∙ rw (c.in_ok-mark.ensures, ← c.block_of-t.ensures.0, ← c.is_free.ensures, ← c.in_ok-require.ensures, ← r, by-test c.all_are.result _ c.in_err-require-2.ensures) refl)

pub link_in-b-requires : goal.link_in-b-requires
link_in-b-requires c = omega (arith, block-wide)

pub loop-i-preserved : goal.loop-i-preserved
loop-i-preserved c =
    let r = link-rest c.args.p c.block_of-t.result.now _ c.link_place-behind.ensures _ c.all_are.ensures in (
      omega arith,
      chain-step _ _ _ _ _ _ _ c.loop-i.invariant.1 c.loop-i-test.true c.if-b-eq0.false
          ∙ rw (c.in_ok-mark.ensures, ← c.block_of-t.ensures.0, ← c.is_free.ensures, ← c.in_ok-require.ensures, ← r, ← c.in_ok-require-2.ensures, ← c.link_in-b.ensures) refl,
    )

pub returns : goal.returns
returns c = chain-last _ _ _ _ _ _ _ c.loop-i.invariant.1 c.loop-i-test.false ∙ last-test _ c.require-2.result c.loop-i.marks c.require-2.ensures
