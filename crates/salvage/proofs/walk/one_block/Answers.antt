-- `salvage::walk::one_block` meets its contract: a line for a block passed over, or its records.
use mathlib.Core.Path.{refl}
use Rattle.salvage.specs.Reasons.{word_of}
use Rattle.salvage.proofs.Tests.{word-some}
use Rattle.salvage.proofs.Walks.{block-over, block-taken, block_run}
use Rattle.salvage.proofs.walk.one_block.Goals as goal

pub returns-in-Some : goal.returns-in-Some
returns-in-Some c =
    block-over c.args.going c.args.text.now c.args.b (word_of c.in-Some.reason) c.in-Some.ensures c.args.file.now c.args.buffer.now c.args.report.now
    c.add_line.new.report
    c.add_line.result
    c.add_line.ensures.0
    c.add_line.ensures.1
    (word-some c.in-Some.reason)

pub take_records-requires : goal.take_records-requires
take_records-requires c = block-taken c.args.going c.args.text.now c.args.b 0 c.in-None.ensures _ refl c.requires

pub returns-in-None : goal.returns-in-None
returns-in-None c = block_run c.args.going c.args.text.now c.args.b 0 c.in-None.ensures _ _ c.take_records.ensures refl
