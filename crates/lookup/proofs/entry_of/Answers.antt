-- Each number is tested in the order of the definition, and the block's word lies in the table.
use mathlib.Core.Path.{refl, sym, ◌∙◌}
use borrow.Author.Tests.{ltb-true}
use Rattle.numbers.proofs.Exits.{handed}
use Rattle.numbers.proofs.Passed.{required}
use Rattle.rules.specs.Paths.{entry_of}
use Rattle.lookup.proofs.Entries.{rows-counted, block-there, place_is}
use Rattle.lookup.proofs.entry_of.Goals as goal

pub returns-in_err-n : goal.returns-in_err-n
unfolding entry_of
returns-in_err-n c = handed _ _ _ c.from_residual.ensures.1 (rw (← c.count_of.ensures, ← c.in_err-n.ensures.step) refl)

pub place_of-place-requires : goal.place_of-place-requires
place_of-place-requires c = let r = c.in_ok-n.ensures.range in search (rows-counted, r.0 ∙ c.count_of.ensures, r)

pub returns-in_err-require : goal.returns-in_err-require
unfolding entry_of
returns-in_err-require c =
    let i = place_is c.args.which c.args.h c.args.key.now c.args.t.now _ _ c.requires.width_is c.place_of-place.ensures in
    handed _ _ _ c.from_residual-in_err-require.ensures.1
    (rw (← c.count_of.ensures, ← c.in_ok-n.ensures.step, ← i, ← c.in_err-require.ensures) refl)

pub block_in-requires : goal.block_in-requires
block_in-requires c =
    let l = ltb-true _ _ (required _ _ _ (sym c.in_ok-require.ensures)) in
    search (block-there, c.in_ok-n.ensures.range, l)

pub returns-in_err-block : goal.returns-in_err-block
unfolding entry_of
returns-in_err-block c =
    let i = place_is c.args.which c.args.h c.args.key.now c.args.t.now _ _ c.requires.width_is c.place_of-place.ensures in
    handed _ _ _ c.from_residual-in_err-block.ensures.1
    (rw (← c.count_of.ensures, ← c.in_ok-n.ensures.step, ← i, ← c.in_ok-require.ensures, ← c.block_in.ensures, ← c.in_err-block.ensures.step) refl)

pub returns : goal.returns
unfolding entry_of
returns c =
    let i = place_is c.args.which c.args.h c.args.key.now c.args.t.now _ _ c.requires.width_is c.place_of-place.ensures in
    rw (← c.count_of.ensures, ← c.in_ok-n.ensures.step, ← i, ← c.in_ok-require.ensures, ← c.block_in.ensures, ← c.in_ok-block.ensures.step) refl
