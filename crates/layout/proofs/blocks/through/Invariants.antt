-- What is left of the entries gives what all of them give.
use denote.MutBor.{MutBor}
use mathlib.Core.Path.{◌≡◌}
use mathlib.Core.List.{List}
use Prim.Native.Nat.{ℕ, ◌+◌, ◌*◌, ◌-◌}
use Rattle.std.specs.Prelude.{Result}
use Rattle.numbers.specs.declared.Refusal.{Refusal}
use Rattle.numbers.specs.Checked.{Checked}
use Rattle.layout.specs.Inspect.{through}
use Rattle.layout.specs.Inspected.{stepped, Lies}
use Rattle.layout.proofs.blocks.through.Given as goal

abbrev pub invariant-loop-i : goal.invariant-loop-i
invariant-loop-i g l =
    Lies l.low l.e l.stride l.n l.before
    × ((walk : ℕ → ℕ → List ℕ → Checked (List ℕ))
    → ((before at : ℕ) (m : MutBor (List ℕ)) (r : Result (Unit {0}) Refusal) (after : MutBor (List ℕ)) → goal.F-post g l.step before at m r after
    → walk before at m.now ≡ stepped r after.now)
    → through walk l.stride l.low l.e l.n l.initial.marks ≡ through walk l.stride l.before (l.e + l.i * l.stride) (l.n - l.i) l.marks)
