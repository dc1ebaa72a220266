-- The words passed are the key's, and the one at which it stops is not.
use mathlib.Core.Path.{◌≡◌}
use mathlib.Core.Bool.{false}
use Prim.Native.Nat.{ℕ, ◌<◌}
use Rattle.table.specs.Tables.{differs}
use Rattle.table.proofs.same_words.Given as goal

abbrev pub invariant-loop-m : goal.invariant-loop-m
invariant-loop-m l = (j : ℕ) → j < l.m → differs l.t l.place l.key l.at j ≡ false
