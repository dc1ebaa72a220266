-- Each mark is asked.
use mathlib.Core.Path.{◌∙◌}
use mathlib.Core.Bool.{not}
use lib.Dec.{eqb}
use Rattle.std.proofs.Common.{rules, tests}
use Rattle.std.proofs.lemmas.Iterator.{YieldsList-from_slice}
use Rattle.std.proofs.lemmas.Iterator.Search.{all_from_yields_List}
use Rattle.layout.proofs.CodeMarks.{none-listed}
use Rattle.layout.proofs.marking.all_set.Goals as goal

pub returns : goal.returns
returns c =
    all_from_yields_List {all = c.args.marks.now} (λ y. not (eqb y 0)) _ _ c.all.result c.all.ensures.ran (YieldsList-from_slice _ cc) (λ y b q k. search (rules, tests))
    ∙ none-listed c.args.marks.now
