-- `texts::put_digits` meets its contract.
use mathlib.Core.Path.{◌≡◌}
use Prim.Native.Nat.{◌≤◌}
use lib.ListN.{length}
use Rattle.words.specs.Words.{put}
use Rattle.texts.specs.Texts.{digits}
use Rattle.texts.proofs.put_digits.Given as goal

abbrev pub invariant-loop-i : goal.invariant-loop-i
invariant-loop-i l = (l.i ≤ l.k) × (put l.initial.out l.at (digits l.base l.k l.n) ≡ put l.out l.at (digits l.base l.i l.rest)) × (length l.out ≡ length l.initial.out)

abbrev pub decreases-loop-i : goal.decreases-loop-i
decreases-loop-i l = l.i
