-- The tests, one after the other.
use mathlib.Core.Path.{◌≡◌, ◌∙◌}
use mathlib.Core.Bool.{◌&&◌}
use lib.Dec.{leb}
use borrow.Author.Tests.{eq-eqb, ne_eqb}
use Rattle.drum.specs.Params.{sized}
use Rattle.face.specs.Parts.{shown}
use Rattle.reading.specs.Reading.{one_section, read_shown}
use Rattle.reading.proofs.Order.{then_and, else-and}
use Rattle.reading.proofs.Viewed.{shown-when, shown_not}
use Rattle.reading.proofs.ReadingSession.shows.Goals.{then-p-eq1, else-p-eq1, then-self, else-self, then-is_sized, else-is_sized}
use Rattle.reading.proofs.ReadingSession.shows.Goals as goal

pub returns-then-b-ge1 : goal.returns-then-b-ge1
unfolding read_shown shown
returns-then-b-ge1 c =
    let one : c.if-p-eq1.value ≡ (one_section c.args.self.desc && c.args.self.opened) =
    elim c.if-p-eq1.branch [
      | then-p-eq1 w ↦ then_and _ _ _ (eq-eqb _ _ w.if-p-eq1.true) w.value-is
      | else-p-eq1 w ↦ else-and _ _ _ (ne_eqb _ _ w.if-p-eq1.false) w.value-is
    ] in
    let two : c.if-self.value ≡ (c.if-p-eq1.value && sized c.args.self.desc c.args.file c.args.buffer) =
    elim c.if-self.branch [
      | then-self w ↦ then_and _ _ _ w.if-self.true (w.value-is ∙ w.is_sized.ensures)
      | else-self w ↦ else-and _ _ _ w.if-self.false w.value-is
    ] in
    let three : c.if-is_sized.value ≡ (c.if-self.value && leb 1 c.args.b) =
    elim c.if-is_sized.branch [
      | then-is_sized w ↦ then_and _ _ _ w.if-is_sized.true w.value-is
      | else-is_sized w ↦ else-and _ _ _ w.if-is_sized.false w.value-is
    ] in
    shown-when _ _ _ _ _ _ _ _ one two three c.if-b-ge1.true

pub returns-else-b-ge1 : goal.returns-else-b-ge1
unfolding read_shown shown
returns-else-b-ge1 c =
    let one : c.if-p-eq1.value ≡ (one_section c.args.self.desc && c.args.self.opened) =
    elim c.if-p-eq1.branch [
      | then-p-eq1 w ↦ then_and _ _ _ (eq-eqb _ _ w.if-p-eq1.true) w.value-is
      | else-p-eq1 w ↦ else-and _ _ _ (ne_eqb _ _ w.if-p-eq1.false) w.value-is
    ] in
    let two : c.if-self.value ≡ (c.if-p-eq1.value && sized c.args.self.desc c.args.file c.args.buffer) =
    elim c.if-self.branch [
      | then-self w ↦ then_and _ _ _ w.if-self.true (w.value-is ∙ w.is_sized.ensures)
      | else-self w ↦ else-and _ _ _ w.if-self.false w.value-is
    ] in
    let three : c.if-is_sized.value ≡ (c.if-self.value && leb 1 c.args.b) =
    elim c.if-is_sized.branch [
      | then-is_sized w ↦ then_and _ _ _ w.if-is_sized.true w.value-is
      | else-is_sized w ↦ else-and _ _ _ w.if-is_sized.false w.value-is
    ] in
    shown_not _ _ _ _ _ _ _ _ one two three c.if-b-ge1.false
