-- A row passed begins with a word below the key's first.
use native.Mathlib.Omega.{arith}
use Rattle.table.proofs.Turns.{low-first-word}
use Rattle.table.proofs.low_rows.Goals as goal

pub loop-i-preserved : goal.loop-i-preserved
loop-i-preserved c =
    low-first-word c.args.h _ _ _ _ _ _ c.loop-i.invariant c.place.ensures c.loop-i-test.true
    c.requires.0 c.requires.1 c.requires.2 (omega arith) (omega arith)
