-- The last row lies behind all others.
use borrow.Author.Rules.{rules}
use Rattle.layout.proofs.CodeSizes.{row_last, last-span, last-place}
use Rattle.layout.proofs.rows.last_row.Goals as goal

pub overflow_mul-result : goal.overflow_mul-result
overflow_mul-result c = search last-span

pub overflow_add-result : goal.overflow_add-result
overflow_add-result c = search last-place

pub returns : goal.returns
returns c = (search rules, search row_last)
