-- What is left of the chain gives what all of it gives.
use mathlib.Core.Path.{◌≡◌}
use Prim.Native.Nat.{◌-◌}
use lib.ListN.{length}
use Rattle.layout.specs.Inspect.{chain_held}
use Rattle.layout.proofs.blocks.chain_held.Given as goal

abbrev pub invariant-loop-i : goal.invariant-loop-i
invariant-loop-i l = (length l.marks ≡ l.p.n) × (chain_held l.p l.f l.p.n l.head l.initial.marks ≡ chain_held l.p l.f (l.p.n - l._i) l.b l.marks)
