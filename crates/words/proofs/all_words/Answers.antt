-- `words::all_words` meets its contract.
use mathlib.Core.Path.{◌∙◌}
use Prim.Native.Nat.{◌+◌, ◌-◌}
use lib.Dec.{leb}
use lib.ListN.{take, drop}
use Rattle.std.proofs.Common.{rules, tests}
use Rattle.std.proofs.lemmas.Iterator.{YieldsList-from_slice}
use Rattle.std.proofs.lemmas.Iterator.Search.{all_from_yields_List}
use Rattle.words.proofs.All.{all_words-range}
use Rattle.words.proofs.all_words.Goals as goal

pub returns : goal.returns
returns c =
    let a = c.args.a in
    let range = take (a + c.args.n - a) (drop a c.args.t.now) in
    all_from_yields_List (λ x. leb x 262143) _ _ c.all.result c.all.ensures.ran (YieldsList-from_slice range cc) (λ x b q k. search (rules, tests))
    ∙ all_words-range a c.args.n c.args.t.now
