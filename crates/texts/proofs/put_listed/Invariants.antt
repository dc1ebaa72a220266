-- `texts::put_listed` meets its contract: what is to be written from here on comes to what the whole comes to.
use mathlib.Core.Path.{◌≡◌}
use Prim.Native.Nat.{◌+◌, ◌*◌, ◌≤◌}
use lib.ListN.{length, drop}
use Rattle.words.specs.Words.{put}
use Rattle.texts.specs.Texts.{listed}
use Rattle.texts.proofs.Puts.{Written}
use Rattle.texts.proofs.put_listed.Given as goal

abbrev pub invariant-loop-word : goal.invariant-loop-word
invariant-loop-word l = (l.end ≤ l.at + 21 * l.word-index) × Written l.out l.end (listed (drop l.word-index l.words)) (put l.initial.out l.at (listed l.words)) (l.at + length (listed l.words)) × (length l.out ≡ length l.initial.out)
