-- The current block is the buffer, any other a part of the file.
use Rattle.drum.proofs.Lending.{text-here, text-elsewhere, text-end, text-bytes, text-within}
use Rattle.drum.proofs.text_part.Goals as goal

pub returns-then-b-current : goal.returns-then-b-current
returns-then-b-current c = search text-here

pub overflow_add-end : goal.overflow_add-end
overflow_add-end c = search text-end

pub offset_bounds-file-start : goal.offset_bounds-file-start
offset_bounds-file-start c = search text-bytes

pub slice_bounds-result-end : goal.slice_bounds-result-end
slice_bounds-result-end c = search text-within

pub returns : goal.returns
returns c = search text-elsewhere
