-- `salvage::walk::put_line` meets its contract: three words are one part of the report.
use mathlib.Core.Path.{refl, ap, ◌∙◌}
use Prim.Native.Nat.{◌+◌, ◌*◌}
use lib.ListN.{set}
use Rattle.salvage.proofs.Lines.{line-put}
use Rattle.salvage.proofs.walk.put_line.Goals as goal

pub returns : goal.returns
returns c =
    let reason = c.put_word-3.ensures ∙ ap (set c.put_word-2.new.t (3 * c.args.n + 2)) c.from.ensures in
    line-put _ _ _ _ _ _ _ _ _ reason c.put_word-2.ensures c.put_word.ensures refl c.requires
