use Rattle.sequential.proofs.Good.{lies-inside}
use Rattle.sequential.proofs.Laid.{get-lies, get_left, get-fits, get-few, get-end, get_refused, get-done}
use Rattle.sequential.proofs.get.Goals as goal

pub word_of-start-requires : goal.word_of-start-requires
word_of-start-requires c = lies-inside _ _ _ (get-lies _ _ _ _ _ _ c.in-Ok.ensures)

pub copy_words-requires : goal.copy_words-requires
copy_words-requires c = (get-fits _ _ _ _ _ _ c.in-Ok.ensures, get-end _ _ _ _ _ _ c.in-Ok.ensures _ c.word_of-start.ensures)

pub behind_row-requires : goal.behind_row-requires
behind_row-requires c = get-few _ _ _ _ _ _ c.in-Ok.ensures

pub overflow_sub-result : goal.overflow_sub-result
overflow_sub-result c = get_left _ _ _ _ _ _ c.in-Ok.ensures

pub returns-in-Ok : goal.returns-in-Ok
returns-in-Ok c = get-done _ _ _ _ _ _ c.in-Ok.ensures _ _ _ c.word_of-start.ensures c.copy_words.ensures c.behind_row.ensures

pub returns-in-Err : goal.returns-in-Err
returns-in-Err c = get_refused _ _ _ _ _ _ _ c.in-Err.ensures c.from.ensures
