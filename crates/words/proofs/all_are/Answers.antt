-- `words::all_are` meets its contract.
use mathlib.Core.Path.{◌∙◌}
use lib.Dec.{eqb}
use Rattle.std.proofs.Common.{rules, tests}
use Rattle.std.proofs.lemmas.Iterator.{YieldsList-from_slice}
use Rattle.std.proofs.lemmas.Iterator.Search.{all_from_yields_List}
use Rattle.words.proofs.All.{all_are-range}
use Rattle.words.proofs.all_are.Goals as goal

pub returns : goal.returns
returns c =
    all_from_yields_List (λ y. eqb y c.args.x) _ _ c.all.result c.all.ensures.ran (YieldsList-from_slice _ cc) (λ y b q k. search (rules, tests))
    ∙ all_are-range c.args.a c.args.n c.args.t.now c.args.x
