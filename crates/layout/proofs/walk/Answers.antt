-- No word too large, and the master's numbers in range: then the walk itself.
use mathlib.Core.Path.{◌≡◌, refl, ap, ◌∙◌}
use Prim.Native.Nat.{suc, ◌+◌}
use native.Mathlib.Omega.{arith}
use Rattle.words.specs.Words.{all_words}
use Rattle.words.proofs.Parts.{part-all}
use Rattle.layout.specs.Inspect.{layout_marks}
use Rattle.layout.proofs.CodeFlags.{stopped, by-test, by-range}
use Rattle.layout.proofs.CodeSizes.{file-long, blocks-few}
use Rattle.layout.proofs.walk.Goals as goal

pub returns-in_err-require : goal.returns-in_err-require
unfolding layout_marks
returns-in_err-require c =
    let w = c.all_words.ensures ∙ ap all_words (part-all _ c.args.f.now refl) in
    stopped _ _ _ _ c.from_residual.ensures.1 (rw (← w, by-test c.all_words.result _ c.in_err-require.ensures) refl)

pub word_at-requires : goal.word_at-requires
word_at-requires c = omega (arith, file-long)

pub returns-in_err-within : goal.returns-in_err-within
unfolding layout_marks
returns-in_err-within c =
    let w = c.all_words.ensures ∙ ap all_words (part-all _ c.args.f.now refl) in
    stopped _ _ _ _ c.from_residual-in_err-within.ensures.1
    (rw (← w, ← c.in_ok-require.ensures, ← c.word_at.ensures, by-range 1 c.args.p.control c.word_at.result _ c.in_err-within.ensures.step) refl)

pub overflow_add-p : goal.overflow_add-p
overflow_add-p c = omega (arith, blocks-few)

pub word_at-requires-2 : goal.word_at-requires-2
word_at-requires-2 c = omega (arith, file-long)

pub returns-in_err-within-2 : goal.returns-in_err-within-2
unfolding layout_marks
returns-in_err-within-2 c =
    let w = c.all_words.ensures ∙ ap all_words (part-all _ c.args.f.now refl) in
    let s : suc c.args.p.n ≡ c.args.p.n + 1 = omega arith in
    stopped _ _ _ _ c.from_residual-in_err-within-2.ensures.1
    (rw (← w, ← c.in_ok-require.ensures, ← c.word_at.ensures, ← c.in_ok-within.ensures.step, ← c.word_at-2.ensures, s, by-range 1 (c.args.p.n + 1) c.word_at-2.result _ c.in_err-within-2.ensures.step) refl)

pub walk_on-requires : goal.walk_on-requires
walk_on-requires c =
    let x = c.in_ok-within.ensures.range in
    let y = c.in_ok-within-2.ensures.range in
    record { fit = (c.requires.fit, omega arith); marks_value = c.requires.marks_value }

pub returns : goal.returns
unfolding layout_marks
returns c =
    let w = c.all_words.ensures ∙ ap all_words (part-all _ c.args.f.now refl) in
    let s : suc c.args.p.n ≡ c.args.p.n + 1 = omega arith in
    rw (← w, ← c.in_ok-require.ensures, ← c.word_at.ensures, ← c.in_ok-within.ensures.step, ← c.word_at-2.ensures, s, ← c.in_ok-within-2.ensures.step) c.walk_on.ensures
