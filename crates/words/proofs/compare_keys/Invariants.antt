-- `words::compare_keys` meets its contract.
use mathlib.Core.Path.{◌≡◌}
use Prim.Native.Nat.{◌+◌, ◌-◌}
use Rattle.words.specs.Words.{part}
use Rattle.words.specs.Keys.{order}
use Rattle.words.proofs.compare_keys.Given as goal

abbrev pub invariant-loop-m : goal.invariant-loop-m
invariant-loop-m l = order (part l.i l.k l.a) (part l.j l.k l.b) ≡ order (part (l.i + l.m) (l.k - l.m) l.a) (part (l.j + l.m) (l.k - l.m) l.b)
