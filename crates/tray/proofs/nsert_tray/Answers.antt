-- `tray::nsert_tray` meets its contract: a refusal, or the NSERTs.
use Rattle.tray.proofs.Refusing.{tray-long, call-refused, call-made}
use Rattle.tray.proofs.nsert_tray.Goals as goal

pub insert_each-requires : goal.insert_each-requires
insert_each-requires c = search (tray-long, c.in-Ok.ensures)

pub returns-in-Ok : goal.returns-in-Ok
returns-in-Ok c = search (call-made, c.insert_each.ensures, c.in-Ok.ensures)

pub returns-in-Err : goal.returns-in-Err
returns-in-Err c = search (call-refused, c.in-Err.ensures, c.from.ensures)
