-- `capi::trays::nasturakh_nsert_tray` meets its contract: the words are no session's, there are no two words to tell in, or the tray's promise is told in
-- words.
use native.Mathlib.Omega.{arith}
use lib.ListN.{length-set}
use Rattle.capi.proofs.TrayTold.{tray-writable, tray-none, tray-untold, tray-called}
use Rattle.capi.proofs.trays.nasturakh_nsert_tray.Goals as goal

pub returns-in_default : goal.returns-in_default
returns-in_default c = search (tray-none, c.in_default.ensures.no)

pub returns-then-told-ne-TOLD_WORDS : goal.returns-then-told-ne-TOLD_WORDS
returns-then-told-ne-TOLD_WORDS c = search (tray-untold, c.in-Some.ensures.yes)

pub put_session-requires : goal.put_session-requires
put_session-requires c = search (tray-writable, c.in-Some.ensures.yes, c.in-Some.ensures.same)

pub bounds-told-1 : goal.bounds-told-1
bounds-told-1 c = simp length-set (omega arith)

pub returns : goal.returns
returns c = search (tray-called, c.in-Some.ensures.yes, c.in-Some.ensures.same)
