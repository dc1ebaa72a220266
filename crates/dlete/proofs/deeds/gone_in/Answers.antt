-- The index block is read, and written without the entry.
use native.Mathlib.Omega.{arith}
use Rattle.dlete.proofs.Gone.{entry-fits, entry_read, entry-stored}
use Rattle.dlete.proofs.deeds.gone_in.Goals as goal

pub read_block-requires : goal.read_block-requires
read_block-requires c = (search entry-fits, (search, search))

pub entry_gone-requires : goal.entry_gone-requires
entry_gone-requires c = search entry_read

pub write_block-requires : goal.write_block-requires
write_block-requires c = (record { good = search; file-is = search; buffer-is = omega arith }, (search, search))

pub returns : goal.returns
returns c = search entry-stored
