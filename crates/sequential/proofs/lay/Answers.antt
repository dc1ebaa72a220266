-- The record, and a zero word behind it where one belongs there.
use native.Mathlib.Omega.{arith}
use Rattle.sequential.proofs.Good.{lies-fine, lies-few, lies-end}
use Rattle.sequential.proofs.Laid.{lay-end, zero-end, laid-closed, laid-open}
use borrow.Author.Rules.{rules}
use Rattle.sequential.proofs.lay.Goals as goal

pub copy_words-requires : goal.copy_words-requires
copy_words-requires c = (search lay-end, search rules)

pub closes-requires : goal.closes-requires
closes-requires c = (search lies-fine, search lies-few)

pub overflow_add-start : goal.overflow_add-start
overflow_add-start c = omega (arith, lies-end)

pub zero_words-requires : goal.zero_words-requires
zero_words-requires c =
    let h =
    zero-end _ _ _ _ _ _ _ c.copy_words.ensures c.requires.0 c.word_of-start.ensures c.requires.1 c.closes.ensures
    c.if-closes.true in
    omega arith

pub returns-then-closes : goal.returns-then-closes
returns-then-closes c = search laid-closed

pub returns-else-closes : goal.returns-else-closes
returns-else-closes c = search laid-open
