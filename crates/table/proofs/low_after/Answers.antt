-- A row passed begins with the key's first word, and its next two are below the key's.
use native.Mathlib.Omega.{arith}
use Rattle.table.proofs.Turns.{low-next-words}
use Rattle.table.proofs.low_after.Goals as goal

pub loop-i-preserved : goal.loop-i-preserved
loop-i-preserved c =
    low-next-words c.args.h _ _ _ _ _ _ c.loop-i.invariant c.place-word.ensures c.loop-i-test.true c.requires.0 c.requires.1 c.requires.2
    _ _ c.pair_at-next.ensures c.pair_at.ensures c.if-next-pair_at.false c.if-t-word.false (omega arith)
