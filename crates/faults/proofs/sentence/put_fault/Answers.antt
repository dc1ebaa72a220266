-- `sentence::put_fault` meets its contract.
use native.Mathlib.Omega.{arith}
use Rattle.texts.specs.Texts.{bytes}
use Rattle.faults.specs.Sentences.{fault_text}
use Rattle.faults.proofs.Told.{fault-put, fault-end}
use Rattle.faults.proofs.sentence.put_fault.Goals as goal

pub returns-in-Empty : goal.returns-in-Empty
unfolding fault_text bytes
returns-in-Empty c = (search fault-put, search fault-end, omega arith)

pub returns-in-NotPlayed : goal.returns-in-NotPlayed
unfolding fault_text bytes
returns-in-NotPlayed c = (search fault-put, search fault-end, omega arith)

pub returns-in-NoCall : goal.returns-in-NoCall
unfolding fault_text bytes
returns-in-NoCall c = (search fault-put, search fault-end, omega arith)

pub returns-in-Count : goal.returns-in-Count
unfolding fault_text bytes
returns-in-Count c = (search fault-put, search fault-end, omega arith)

pub returns-in-NoNumber : goal.returns-in-NoNumber
unfolding fault_text bytes
returns-in-NoNumber c = (search fault-put, search fault-end, omega arith)

pub returns-in-AboveTop : goal.returns-in-AboveTop
unfolding fault_text bytes
returns-in-AboveTop c = (search fault-put, search fault-end, omega arith)

pub returns-in-NotSix : goal.returns-in-NotSix
unfolding fault_text bytes
returns-in-NotSix c = (search fault-put, search fault-end, omega arith)

pub returns-in-OutOfRange : goal.returns-in-OutOfRange
unfolding fault_text bytes
returns-in-OutOfRange c = (search fault-put, search fault-end, omega arith)

pub returns-in-TooLarge : goal.returns-in-TooLarge
unfolding fault_text bytes
returns-in-TooLarge c = (search fault-put, search fault-end, omega arith)
