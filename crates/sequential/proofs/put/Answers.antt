use Rattle.sequential.proofs.Laid.{put-lies, put-words, put-few, put_refused, put-done}
use Rattle.sequential.proofs.put.Goals as goal

pub lay-requires : goal.lay-requires
lay-requires c = (put-lies _ _ _ _ _ c.in-Ok.ensures, put-words _ _ _ _ _ c.in-Ok.ensures)

pub behind_row-requires : goal.behind_row-requires
behind_row-requires c = put-few _ _ _ _ _ c.in-Ok.ensures

pub returns-in-Ok : goal.returns-in-Ok
returns-in-Ok c = put-done _ _ _ _ _ _ _ c.in-Ok.ensures c.lay.ensures c.behind_row.ensures

pub returns-in-Err : goal.returns-in-Err
returns-in-Err c = put_refused _ _ _ _ _ _ c.in-Err.ensures c.from.ensures
