-- `copy::lay_copy` meets its contract: the two writes fill the second file.
use Rattle.copy.proofs.Laid.{copy-fit, master-within, master-lies, master-from, blocks_from, blocks-whole, blocks-lie, copy-laid}
use borrow.Author.Rules.{rules}
use Rattle.copy.proofs.lay_copy.Goals as goal

pub entries_end-used-requires : goal.entries_end-used-requires
entries_end-used-requires c = record { fit = search copy-fit; file_bound = search rules }

pub lay_master-requires : goal.lay_master-requires
lay_master-requires c = (search master-within, search master-lies, search master-from)

pub overflow_sub-file : goal.overflow_sub-file
overflow_sub-file c = search blocks_from

pub copy_words-requires : goal.copy_words-requires
copy_words-requires c = (search blocks-lie, search blocks-whole)

pub returns : goal.returns
returns c = search copy-laid
