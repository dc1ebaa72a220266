-- The marks below the lowest block, those from it on, and the words from it on decide.
use mathlib.Core.Path.{◌≡◌, refl}
use mathlib.Core.Bool.{◌&&◌}
use Prim.Native.Nat.{◌-◌}
use lib.ListN.{length, take, drop}
use Rattle.words.specs.Words.{all_are, none_is}
use Rattle.layout.proofs.CodeWhole.{rest-words, rest-marks}
use Rattle.layout.proofs.CodeSizes.{in-file-end, rest-inside}
use Rattle.layout.proofs.rest_ok.Goals as goal
use Rattle.layout.proofs.rest_ok.Goals.{then-all_set, else-all_set}

pub overflow_sub-f : goal.overflow_sub-f
overflow_sub-f c = search in-file-end

pub all_are-requires : goal.all_are-requires
all_are-requires c = search rest-inside

pub returns-then-none_set : goal.returns-then-none_set
returns-then-none_set c =
    let v : c.if-all_set.value
    ≡ (none_is 0 (take (c.args.lowest - 1) c.args.marks.now)
    && all_are 0 (take (length c.args.marks.now - (c.args.lowest - 1)) (drop (c.args.lowest - 1) c.args.marks.now))) = elim c.if-all_set.branch [
      | then-all_set w ↦ rw (w.value-is, ← c.all_set.ensures, w.if-all_set.true, ← w.none_set.ensures) refl
      | else-all_set w ↦ rw (w.value-is, ← c.all_set.ensures, w.if-all_set.false) refl
    ] in
    rest-words c.args.p c.args.f.now _ _ _ v _ c.start-s.ensures _ c.all_are.ensures c.if-none_set.true

pub returns-else-none_set : goal.returns-else-none_set
returns-else-none_set c =
    let v : c.if-all_set.value
    ≡ (none_is 0 (take (c.args.lowest - 1) c.args.marks.now)
    && all_are 0 (take (length c.args.marks.now - (c.args.lowest - 1)) (drop (c.args.lowest - 1) c.args.marks.now))) = elim c.if-all_set.branch [
      | then-all_set w ↦ rw (w.value-is, ← c.all_set.ensures, w.if-all_set.true, ← w.none_set.ensures) refl
      | else-all_set w ↦ rw (w.value-is, ← c.all_set.ensures, w.if-all_set.false) refl
    ] in
    rest-marks c.args.p c.args.f.now _ _ _ v c.if-none_set.false
