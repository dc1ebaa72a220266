-- `words::copy_words` meets its contract.
use mathlib.Core.Path.{◌≡◌, refl}
use native.Mathlib.Omega.{arith}
use lib.ListN.{length-set}
use Rattle.words.proofs.Parts.{put-none, part_none}
use Rattle.words.proofs.Turns.{copy-turn}
use Rattle.words.proofs.copy_words.Goals as goal

pub loop-i-init : goal.loop-i-init
loop-i-init c = (rw (part_none, put-none), refl)

pub loop-i-preserved : goal.loop-i-preserved
loop-i-preserved c =
    let l = c.loop-i in (
      copy-turn _ _ _ _ _ _ l.invariant.0 (omega arith) (omega arith),
      simp length-set (omega arith),
    )

pub returns : goal.returns
returns c =
    let l = c.loop-i in
    let e : l.i ≡ c.args.n = omega arith in
    rw e at l.invariant.0
