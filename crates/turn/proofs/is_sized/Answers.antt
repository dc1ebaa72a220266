-- `turn::is_sized` meets its contract: the tests are the definition's.
use mathlib.Core.Path.{◌≡◌, refl, sym, ◌∙◌}
use mathlib.Core.Bool.{◌&&◌}
use lib.Dec.{eqb}
use Rattle.drum.specs.Params.{good_params, file_size}
use Rattle.drum.proofs.Good.{size-good}
use Rattle.turn.proofs.Sizes.{last-size, wrong-file}
use Rattle.turn.proofs.is_sized.Goals as goal
use Rattle.turn.proofs.is_sized.Goals.{then-is_good, else-is_good}

pub returns-then-file-file_size : goal.returns-then-file-file_size
returns-then-file-file_size c =
    let p = c.args.p in
    let v : c.if-is_good.value ≡ (good_params p && eqb c.args.file (file_size p)) = elim c.if-is_good.branch [
      | then-is_good w ↦ let g = sym c.is_good.ensures ∙ w.if-is_good.true in
          rw (w.value-is, g, size-good p (file_size p) w.file_size.result w.file_size.ensures g) refl
      | else-is_good w ↦ rw (w.value-is, ← c.is_good.ensures, w.if-is_good.false) refl
    ] in
    last-size p c.args.file c.args.marks _ v c.if-file-file_size.true

pub returns-else-file-file_size : goal.returns-else-file-file_size
returns-else-file-file_size c =
    let p = c.args.p in
    let v : c.if-is_good.value ≡ (good_params p && eqb c.args.file (file_size p)) = elim c.if-is_good.branch [
      | then-is_good w ↦ let g = sym c.is_good.ensures ∙ w.if-is_good.true in
          rw (w.value-is, g, size-good p (file_size p) w.file_size.result w.file_size.ensures g) refl
      | else-is_good w ↦ rw (w.value-is, ← c.is_good.ensures, w.if-is_good.false) refl
    ] in
    wrong-file p c.args.file c.args.marks _ v c.if-file-file_size.false
