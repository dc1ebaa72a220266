-- A call's name has at most six bytes.
use Prim.Native.Nat.{◌≤◌}
use native.Mathlib.Omega.{arith}
use lib.ListN.{length}
use Rattle.rules.specs.declared.Call.{Call}
use Rattle.rules.specs.declared.Call.TheVariants.{Create, Open, Close, Seek, Adv, Nsert, Dlete, Updat, Xtend}
use Rattle.texts.specs.Texts.{bytes}
use Rattle.texts.specs.Results.{spelling}

pub spelling-short : (c : Call) → length (spelling c) ≤ 6
unfolding spelling bytes
spelling-short Create = omega arith
spelling-short Open = omega arith
spelling-short Close = omega arith
spelling-short (Seek at) = omega arith
spelling-short Adv = omega arith
spelling-short (Nsert at) = omega arith
spelling-short (Dlete at) = omega arith
spelling-short (Updat at) = omega arith
spelling-short (Xtend at) = omega arith
