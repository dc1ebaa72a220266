-- A way by the last entries does not ask the key.
use mathlib.Core.Path.{◌∙◌}
use native.Mathlib.Omega.{arith}
use Rattle.lookup.proofs.Fits.{last-any}
use Rattle.xtend.proofs.Rows.{buffer-long}
use Rattle.xtend.proofs.last.last_path.Goals as goal

pub path_by-requires : goal.path_by-requires
path_by-requires c = let l = buffer-long _ _ _ c.args.v.fits in omega arith

pub returns : goal.returns
returns c = c.path_by.ensures ∙ last-any _ _ _
