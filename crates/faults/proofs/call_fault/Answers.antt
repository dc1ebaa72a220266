-- `call_fault` meets its contract.
use Rattle.faults.proofs.Cases.{call_none, call-some}
use Rattle.faults.proofs.call_fault.Goals as goal

pub returns-in-None : goal.returns-in-None
returns-in-None c = call_none c.args.p c.args.w _ _ c.name_fault.ensures c.in-None.ensures

pub returns-in-Some : goal.returns-in-Some
returns-in-Some c = call-some c.args.p c.args.w _ _ _ _ c.numbers_fault.ensures c.carries.ensures c.in-Some.ensures
