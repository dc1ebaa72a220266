-- The mark, the count, the last bound and the entries decide; the block is one of the file's, since it could be marked.
use mathlib.Core.Path.{◌≡◌, refl}
use native.Mathlib.Omega.{arith}
use Prim.Native.Nat.{◌+◌, ◌≤◌}
use lib.ListN.{length}
use borrow.Author.Rules.{rules}
use Rattle.drum.specs.Params.{index_shape}
use Rattle.layout.specs.Inspect.{key_held, detail_held, index_held}
use Rattle.layout.proofs.CodeFlags.{stopped, by-test}
use Rattle.layout.proofs.CodeSizes.{block-least, block-most, entries-room, file-short}
use Rattle.layout.proofs.blocks.index_held.Goals as goal

pub returns-in_err-mark : goal.returns-in_err-mark
unfolding index_held
returns-in_err-mark c = stopped _ _ _ _ c.from_residual.ensures.1 (rw (← c.word_at-b.ensures, c.in_err-mark.ensures) refl)

pub start_of-s-requires : goal.start_of-s-requires
start_of-s-requires c =
    let l = c.requires.marks_len.0 in
    (c.requires.fit, block-least c.args.p _ 1 _ _ c.in_ok-mark.ensures l, block-most c.args.p _ 1 _ _ c.in_ok-mark.ensures l)

pub rows_in-requires : goal.rows_in-requires
unfolding index_shape
rows_in-requires c = (rw c.index_shape.ensures (entries-room _ _ c.requires.fit _ c.i.ensures), c.start_of-s.ensures.1)

pub returns-in_err-n : goal.returns-in_err-n
unfolding index_held
returns-in_err-n c =
    stopped _ _ _ _ c.from_residual-in_err-n.ensures.1
    (rw (← c.word_at-b.ensures, c.in_ok-mark.ensures, ← c.start_of-s.ensures.0, ← c.i.ensures, ← c.index_shape.ensures, c.in_err-n.ensures.count) refl)

pub last_row-last-requires : goal.last_row-last-requires
unfolding index_shape
last_row-last-requires c =
    let h = rw (c.index_shape.ensures) at c.in_ok-n.ensures.inside in
    omega (arith, h)

pub returns-in_err-require : goal.returns-in_err-require
unfolding index_held key_held
returns-in_err-require c =
    stopped _ _ _ _ c.from_residual-in_err-require.ensures.1
    (rw (← c.word_at-b.ensures, c.in_ok-mark.ensures, ← c.start_of-s.ensures.0, ← c.i.ensures, ← c.index_shape.ensures, c.in_ok-n.ensures.count, ← c.last_row-last.ensures.0, ← c.same_key.ensures, by-test c.same_key.result _ c.in_err-require.ensures) refl)

pub through-requires-clause-fits : goal.through-requires-clause-fits
unfolding index_shape
through-requires-clause-fits c =
    let h = rw (c.index_shape.ensures) at c.in_ok-n.ensures.inside in
    omega (arith, h, file-short _ _ c.requires.fit)

pub through-requires-clause-callable : goal.through-requires-clause-callable
unfolding index_shape
through-requires-clause-callable c = λ before at m l i q.
    let h = rw (c.index_shape.ensures) at c.in_ok-n.ensures.inside in
    let low = q c.args.p.k (length c.args.f.now) (omega arith) (omega arith) (omega (arith, h)) in
    let room : at + (c.args.p.k + 1) ≤ length c.args.f.now = omega (arith, h) in
    let many : length m.now ≡ c.args.p.n = omega arith in
    search rules

pub returns : goal.returns
unfolding index_held key_held
returns c =
    rw (← c.word_at-b.ensures, c.in_ok-mark.ensures, ← c.start_of-s.ensures.0, ← c.i.ensures, ← c.index_shape.ensures, c.in_ok-n.ensures.count, ← c.last_row-last.ensures.0, ← c.same_key.ensures, ← c.in_ok-require.ensures)
    (c.through.ensures (detail_held c.args.p c.args.f.now) (λ before at m r after q. search rules))
