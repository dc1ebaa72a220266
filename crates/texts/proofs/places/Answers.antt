-- `texts::places` meets its contract.
use mathlib.Core.Path.{◌≡◌}
use Prim.Native.Nat.{◌-◌}
use native.Mathlib.Omega.{arith}
use Rattle.texts.specs.Texts.{places}
use Rattle.texts.proofs.Digits.{places-one, places-turn}
use Rattle.texts.proofs.places.Goals as goal

pub loop-rest-preserved : goal.loop-rest-preserved
loop-rest-preserved c =
    let t = places-turn _ _ _ c.loop-rest.invariant.1 c.loop-rest.invariant.0 (omega arith) c.loop-rest.invariant.2 c.loop-rest.invariant.3 in
    (omega arith, t.0, t.1, t.2)

pub returns : goal.returns
returns c =
    let e : places (20 - c.loop-rest.k) c.loop-rest.rest ≡ 1 = places-one _ _ (omega arith) in
    omega arith
