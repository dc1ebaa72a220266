-- `searchfile::Session::shows` meets its contract: the tests, one after the other.
use mathlib.Core.Path.{◌≡◌, ◌∙◌}
use mathlib.Core.Bool.{◌&&◌}
use lib.Dec.{leb}
use Rattle.drum.specs.Params.{sized}
use Rattle.searchfile.specs.Parts.{shown}
use Rattle.searchfile.proofs.Viewing.{then_and, else-and, shown-when, shown_not}
use Rattle.searchfile.proofs.Session.shows.Goals.{then-self, else-self, then-is_sized, else-is_sized}
use Rattle.searchfile.proofs.Session.shows.Goals as goal

pub returns-then-b-ge1 : goal.returns-then-b-ge1
unfolding shown
returns-then-b-ge1 c =
    let one : c.if-self.value ≡ (c.args.self.opened && sized c.args.self.desc c.args.file c.args.buffer) =
    elim c.if-self.branch [
      | then-self w ↦ then_and _ _ _ w.if-self.true (w.value-is ∙ w.is_sized.ensures)
      | else-self w ↦ else-and _ _ _ w.if-self.false w.value-is
    ] in
    let two : c.if-is_sized.value ≡ (c.if-self.value && leb 1 c.args.b) =
    elim c.if-is_sized.branch [
      | then-is_sized w ↦ then_and _ _ _ w.if-is_sized.true w.value-is
      | else-is_sized w ↦ else-and _ _ _ w.if-is_sized.false w.value-is
    ] in
    shown-when _ _ _ _ _ _ one two c.if-b-ge1.true

pub returns-else-b-ge1 : goal.returns-else-b-ge1
unfolding shown
returns-else-b-ge1 c =
    let one : c.if-self.value ≡ (c.args.self.opened && sized c.args.self.desc c.args.file c.args.buffer) =
    elim c.if-self.branch [
      | then-self w ↦ then_and _ _ _ w.if-self.true (w.value-is ∙ w.is_sized.ensures)
      | else-self w ↦ else-and _ _ _ w.if-self.false w.value-is
    ] in
    let two : c.if-is_sized.value ≡ (c.if-self.value && leb 1 c.args.b) =
    elim c.if-is_sized.branch [
      | then-is_sized w ↦ then_and _ _ _ w.if-is_sized.true w.value-is
      | else-is_sized w ↦ else-and _ _ _ w.if-is_sized.false w.value-is
    ] in
    shown_not _ _ _ _ _ _ one two c.if-b-ge1.false
