-- The blocks named so far are marked.
use mathlib.Core.Path.{refl}
use native.Mathlib.Omega.{arith}
use lib.ListN.{length-set}
use Rattle.turn.proofs.Marks.{some_words, turn-fit, turn-few, mark-none, names-some, names-within, mark-next, mark-all}
use Rattle.turn.proofs.marking.mark_indexes.Goals as goal

pub word_at-n-requires : goal.word_at-n-requires
word_at-n-requires c = search some_words

pub loop-i-init : goal.loop-i-init
loop-i-init c = (search mark-none, refl)

pub named-b-requires : goal.named-b-requires
named-b-requires c = (search turn-fit, search turn-few, omega arith)

pub overflow_sub-marks : goal.overflow_sub-marks
overflow_sub-marks c = search names-some

pub bounds-marks-b : goal.bounds-marks-b
bounds-marks-b c = search names-within

pub loop-i-preserved : goal.loop-i-preserved
loop-i-preserved c = (search mark-next, simp length-set (omega arith))

pub returns : goal.returns
returns c = search mark-all
