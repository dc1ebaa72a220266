-- `salvage::is_roomy` meets its contract.
use Rattle.std.proofs.Common.{arith}
use Rattle.std.proofs.lemmas.Bool.Decides.{nat_tests}
use Rattle.salvage.proofs.Ends.{lengths-wrong, row_fits, most-fits, words-fit, report-tells}
use Rattle.salvage.proofs.is_roomy.Goals as goal

pub overflow_add-result : goal.overflow_add-result
overflow_add-result c = search row_fits

pub overflow_mul-result : goal.overflow_mul-result
overflow_mul-result c = search most-fits

pub overflow_mul-result-then-copy-fresh : goal.overflow_mul-result-then-copy-fresh
overflow_mul-result-then-copy-fresh c = search words-fit

pub returns-then-copy-fresh : goal.returns-then-copy-fresh
returns-then-copy-fresh c = search report-tells

pub returns-else-copy-fresh : goal.returns-else-copy-fresh
returns-else-copy-fresh c =
    let e = lengths-wrong c.args.p c.args.copy c.args.fresh c.args.buffer c.args.report _ c.is_sized.ensures c.if-copy-fresh.either in
    grind (arith, nat_tests)
