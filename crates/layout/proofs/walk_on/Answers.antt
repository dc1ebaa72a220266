-- The master, the sections, the chain and the rest decide, in this order.
use mathlib.Core.Path.{refl}
use native.Mathlib.Omega.{arith}
use Rattle.layout.specs.Inspect.{walked}
use Rattle.layout.proofs.CodeFlags.{stopped, by-test, last-test}
use Rattle.layout.proofs.CodeMarks.{length-zeros}
use Rattle.layout.proofs.CodeSizes.{file-long, entries-inside}
use Rattle.layout.proofs.CodeWhole.{sections-some, sections-few, lowest-some, lowest-few}
use Rattle.layout.proofs.walk_on.Goals as goal

pub word_at-n-requires : goal.word_at-n-requires
word_at-n-requires c = omega (arith, file-long)

pub word_at-head-requires : goal.word_at-head-requires
word_at-head-requires c = omega (arith, file-long)

pub word_at-lowest-requires : goal.word_at-lowest-requires
word_at-lowest-requires c = omega (arith, file-long)

pub master_ok-requires : goal.master_ok-requires
master_ok-requires c = record { fit = search; le_n = (search sections-some, search sections-few) }

pub returns-in_err-require : goal.returns-in_err-require
unfolding walked
returns-in_err-require c =
    stopped _ _ _ _ c.from_residual.ensures.1
    (rw (← c.word_at-n.ensures, ← c.master_ok.ensures, by-test c.master_ok.result _ c.in_err-require.ensures) refl)

pub sections_held-requires : goal.sections_held-requires
sections_held-requires c = record { fit = search; marks_len = (search length-zeros, search (entries-inside, sections-some, sections-few)) }

pub returns-in_err-sections_held : goal.returns-in_err-sections_held
unfolding walked
returns-in_err-sections_held c =
    stopped _ _ _ _ c.from_residual-in_err-sections_held.ensures.1
    (rw (← c.word_at-n.ensures, ← c.master_ok.ensures, ← c.in_ok-require.ensures, ← c.requires.marks_value, c.in_err-sections_held.ensures) refl)

pub chain_held-requires : goal.chain_held-requires
chain_held-requires c = record { fit = search; marks_len = omega (arith, length-zeros) }

pub returns-in_err-chain_held : goal.returns-in_err-chain_held
unfolding walked
returns-in_err-chain_held c =
    stopped _ _ _ _ c.from_residual-in_err-chain_held.ensures.1
    (rw (← c.word_at-n.ensures, ← c.master_ok.ensures, ← c.in_ok-require.ensures, ← c.requires.marks_value, c.in_ok-sections_held.ensures, ← c.word_at-head.ensures, c.in_err-chain_held.ensures) refl)

pub rest_ok-requires : goal.rest_ok-requires
rest_ok-requires c = record { fit = search; marks_len = (omega (arith, length-zeros), search lowest-some, search lowest-few) }

pub returns : goal.returns
unfolding walked
returns c =
    rw (← c.word_at-n.ensures, ← c.master_ok.ensures, ← c.in_ok-require.ensures, ← c.requires.marks_value, c.in_ok-sections_held.ensures, ← c.word_at-head.ensures, c.in_ok-chain_held.ensures, ← c.word_at-lowest.ensures, ← c.rest_ok.ensures)
    (last-test c.rest_ok.result c.require-2.result c.chain_held.new.marks c.require-2.ensures)
