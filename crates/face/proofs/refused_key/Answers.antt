-- `face::refused_key` meets its contract: the refusals before it, then the test of the workspace's words.
use mathlib.Core.Path.{◌≡◌, refl}
use mathlib.Core.Bool.{not, ◌&&◌}
use Rattle.words.specs.Words.{part, all_words}
use Rattle.words.specs.Keys.{is_ones}
use Rattle.numbers.proofs.Exits.{handed-test}
use Rattle.face.specs.Checks.{keyed_checks}
use Rattle.face.proofs.Refusing.{reads-within, key-within}
use Rattle.face.proofs.refused_key.Goals as goal
use Rattle.face.proofs.refused_key.Goals.{then-all_words, else-all_words}

pub returns-in_err-refused_plain : goal.returns-in_err-refused_plain
unfolding keyed_checks
returns-in_err-refused_plain c = handed-test _ _ _ c.from_residual.ensures.1 (rw (← c.in_err-refused_plain.ensures) refl)

pub all_words-requires : goal.all_words-requires
all_words-requires c = reads-within _ _ _ _ _ _ c.in_ok-refused_plain.ensures c.requires

pub all_are-requires : goal.all_are-requires
all_are-requires c = key-within _ _ _ _ _ c.args.reads c.in_ok-refused_plain.ensures

pub returns : goal.returns
unfolding keyed_checks is_ones
returns c =
    let key : c.if-all_words.is_key ≡ (all_words (part 0 c.args.reads c.args.work.now) && not (is_ones (part 0 c.args.p.k c.args.work.now))) = elim c.if-all_words.branch [
      | then-all_words w ↦ rw (w.is_key-is, ← c.all_words.ensures, w.if-all_words.true, ← w.all_are.ensures) refl
      | else-all_words w ↦ rw (w.is_key-is, ← c.all_words.ensures, w.if-all_words.false) refl
    ] in
    rw (← c.in_ok-refused_plain.ensures, ← key, ← c.require.ensures) refl
