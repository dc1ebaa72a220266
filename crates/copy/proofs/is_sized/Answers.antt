-- `copy::is_sized` meets its contract: the tests are the definition's, in another order.
use mathlib.Core.Path.{◌≡◌, refl}
use mathlib.Core.Bool.{◌&&◌}
use lib.Dec.{eqb}
use lib.ListN.{length}
use Rattle.copy.proofs.Sizes.{is_file, some_word, sized-room, sized-not}
use Rattle.copy.proofs.is_sized.Goals as goal
use Rattle.copy.proofs.is_sized.Goals.{then-is_file, else-is_file, then-are_files, else-are_files}

pub word_at-requires : goal.word_at-requires
word_at-requires c =
    let p = c.args.p in
    let q = c.with_control-q.result in
    let a : c.if-is_file.are_files ≡ (is_file p (length c.args.file.now) && is_file q c.args.second) = elim c.if-is_file.branch [
      | then-is_file w ↦ rw (w.are_files-is, ← c.is_file.ensures, w.if-is_file.true, ← w.is_file-are_files.ensures) refl
      | else-is_file w ↦ rw (w.are_files-is, ← c.is_file.ensures, w.if-is_file.false) refl
    ] in
    let v : c.if-are_files.value ≡ ((is_file p (length c.args.file.now) && is_file q c.args.second) && eqb c.args.marks p.n) = elim c.if-are_files.branch [
      | then-are_files w ↦ rw (w.value-is, ← a, w.if-are_files.true) refl
      | else-are_files w ↦ rw (w.value-is, ← a, w.if-are_files.false) refl
    ] in
    some_word p c.args.control c.args.file.now c.args.second c.args.marks q c.with_control-q.ensures _ v c.if-marks-p.true

pub returns-then-marks-p : goal.returns-then-marks-p
returns-then-marks-p c =
    let p = c.args.p in
    let q = c.with_control-q.result in
    let a : c.if-is_file.are_files ≡ (is_file p (length c.args.file.now) && is_file q c.args.second) = elim c.if-is_file.branch [
      | then-is_file w ↦ rw (w.are_files-is, ← c.is_file.ensures, w.if-is_file.true, ← w.is_file-are_files.ensures) refl
      | else-is_file w ↦ rw (w.are_files-is, ← c.is_file.ensures, w.if-is_file.false) refl
    ] in
    let v : c.if-are_files.value ≡ ((is_file p (length c.args.file.now) && is_file q c.args.second) && eqb c.args.marks p.n) = elim c.if-are_files.branch [
      | then-are_files w ↦ rw (w.value-is, ← a, w.if-are_files.true) refl
      | else-are_files w ↦ rw (w.value-is, ← a, w.if-are_files.false) refl
    ] in
    sized-room p c.args.control c.args.file.now c.args.second c.args.marks q c.with_control-q.ensures _ v c.if-marks-p.true _ c.word_at.ensures

pub returns-else-marks-p : goal.returns-else-marks-p
returns-else-marks-p c =
    let p = c.args.p in
    let q = c.with_control-q.result in
    let a : c.if-is_file.are_files ≡ (is_file p (length c.args.file.now) && is_file q c.args.second) = elim c.if-is_file.branch [
      | then-is_file w ↦ rw (w.are_files-is, ← c.is_file.ensures, w.if-is_file.true, ← w.is_file-are_files.ensures) refl
      | else-is_file w ↦ rw (w.are_files-is, ← c.is_file.ensures, w.if-is_file.false) refl
    ] in
    let v : c.if-are_files.value ≡ ((is_file p (length c.args.file.now) && is_file q c.args.second) && eqb c.args.marks p.n) = elim c.if-are_files.branch [
      | then-are_files w ↦ rw (w.value-is, ← a, w.if-are_files.true) refl
      | else-are_files w ↦ rw (w.value-is, ← a, w.if-are_files.false) refl
    ] in
    sized-not p c.args.control c.args.file.now c.args.second c.args.marks q c.with_control-q.ensures _ v c.if-marks-p.false
