-- `capi::salvaging::nasturakh_salvage` meets its contract: the words are no session's, no two words to tell in, or salvage's promise is told in words.
use native.Mathlib.Omega.{arith}
use lib.ListN.{length-set}
use Rattle.capi.proofs.SalvageTold.{salvage-none, salvage-untold, salvage-called}
use Rattle.capi.proofs.salvaging.nasturakh_salvage.Goals as goal

pub returns-in_default : goal.returns-in_default
returns-in_default c = search (salvage-none, c.in_default.ensures.no)

pub returns-then-told-ne-TOLD_WORDS : goal.returns-then-told-ne-TOLD_WORDS
returns-then-told-ne-TOLD_WORDS c = search (salvage-untold, c.in-Some.ensures.yes)

pub bounds-told-1 : goal.bounds-told-1
bounds-told-1 c = simp length-set (omega arith)

pub returns : goal.returns
returns c = search (salvage-called, c.in-Some.ensures.yes, c.in-Some.ensures.same)
