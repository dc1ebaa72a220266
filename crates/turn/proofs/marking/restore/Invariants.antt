-- The marks given back, and what the others give, are all.
use mathlib.Core.Path.{◌≡◌}
use mathlib.Core.List.{◌++◌}
use lib.ListN.{take, drop}
use Rattle.layout.specs.Turned.{index_unmarked}
use Rattle.turn.proofs.marking.restore.Given as goal

abbrev pub invariant-loop-m : goal.invariant-loop-m
invariant-loop-m l = index_unmarked l.initial.marks ≡ take l.m-index l.marks ++ index_unmarked (drop l.m-index l.marks)
