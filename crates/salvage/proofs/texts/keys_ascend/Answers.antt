-- `salvage::texts::keys_ascend` meets its contract: the keys that are left ascend exactly when all do.
use Rattle.salvage.proofs.Rows.{rows-first, keys-first, pair-within, rows-after, keys-told, keys-done, keys-again}
use Rattle.salvage.proofs.texts.keys_ascend.Goals as goal

pub loop-i-init : goal.loop-i-init
loop-i-init c = (rows-first c.args.p c.args.t.now c.args.n c.requires.1, keys-first c.args.p c.args.t.now c.args.n)

pub key_below-requires : goal.key_below-requires
key_below-requires c = pair-within c.args.p c.args.t.now c.args.n c.loop-i.i _ c.saturating_sub-i-end.ensures c.loop-i-test.true c.loop-i.invariant.0 c.requires.0

pub returns-then-not-key_below : goal.returns-then-not-key_below
returns-then-not-key_below c =
    keys-told c.args.p c.args.t.now c.args.n c.loop-i.i _ c.saturating_sub-i-end.ensures _ c.key_below.ensures c.loop-i-test.true c.requires.0 c.loop-i.invariant.1 c.if-not-key_below.true

pub loop-i-preserved : goal.loop-i-preserved
loop-i-preserved c = (
  rows-after c.args.p c.args.t.now c.args.n c.loop-i.i _ c.saturating_sub-i-end.ensures c.loop-i-test.true c.loop-i.invariant.0,
  keys-again c.args.p c.args.t.now c.args.n c.loop-i.i _ c.saturating_sub-i-end.ensures _ c.key_below.ensures c.loop-i-test.true c.requires.0 c.loop-i.invariant.1 c.if-not-key_below.false,
)

pub returns : goal.returns
returns c = keys-done c.args.p c.args.t.now c.args.n c.loop-i.i _ c.saturating_sub-i-end.ensures c.loop-i-test.false c.loop-i.invariant.1
