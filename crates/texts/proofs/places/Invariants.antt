-- `texts::places` meets its contract.
use mathlib.Core.Path.{◌≡◌}
use Prim.Native.Nat.{suc, ◌+◌, ◌-◌, ◌^◌, ◌≤◌, ◌<◌}
use Rattle.texts.specs.Texts.{places}
use Rattle.texts.proofs.places.Given as goal

abbrev pub invariant-loop-rest : goal.invariant-loop-rest
invariant-loop-rest l = (1 ≤ l.k) × (l.k ≤ 20) × (l.rest < 10 ^ suc (20 - l.k)) × (places 19 l.n ≡ places (20 - l.k) l.rest + (l.k - 1))

abbrev pub decreases-loop-rest : goal.decreases-loop-rest
decreases-loop-rest l = l.rest
