-- The detail block is split, and then what is above it.
use native.Mathlib.Omega.{arith}
use Rattle.nsert.proofs.Splitting.{key-short, cut_fits, both-above, both-file}
use Rattle.nsert.proofs.splits.write_both.Goals as goal

pub cut-moved-requires : goal.cut-moved-requires
cut-moved-requires c = (search, omega (arith, key-short), search)

pub write_above-requires : goal.write_above-requires
write_above-requires c = (
  search cut_fits,
  let s = c.requires in
      search (both-above, s.0.fitting, s.0.whole, s.1, c.cut-moved.ensures.1),
  omega (arith, key-short),
)

pub returns : goal.returns
returns c = (search, search both-file)
