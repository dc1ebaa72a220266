-- `copy::is_file` meets its contract.
use mathlib.Core.Path.{refl, sym, ◌∙◌}
use Rattle.drum.specs.Params.{file_size}
use Rattle.drum.proofs.Good.{size-good}
use Rattle.copy.proofs.is_file.Goals as goal

pub returns-then-is_good : goal.returns-then-is_good
returns-then-is_good c =
    let g = sym c.is_good.ensures ∙ c.if-is_good.true in
    rw (g, size-good c.args.p (file_size c.args.p) c.file_size.result c.file_size.ensures g) refl
