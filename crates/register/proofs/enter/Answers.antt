-- `register::enter` meets its contract: the refusals, zeros behind the key, NSERT.
use native.Mathlib.Omega.{arith}
use Rattle.register.proofs.Refusing.{name-fits}
use Rattle.register.proofs.Guards.{guard-refused, enter-guard, enter-passed}
use Rattle.register.proofs.enter.Goals as goal

pub returns-in-Err : goal.returns-in-Err
returns-in-Err c = search (guard-refused enter-guard, c.refused.ensures, c.in-Err.ensures)

pub overflow_sub-p : goal.overflow_sub-p
overflow_sub-p c = let h = name-fits _ _ _ _ _ c.in_default.ensures in omega arith

pub zero_words-requires : goal.zero_words-requires
zero_words-requires c = let h = name-fits _ _ _ _ _ c.in_default.ensures in omega arith

pub returns : goal.returns
returns c = search (enter-passed, c.nsert.ensures, c.zero_words.ensures, c.in_default.ensures)
