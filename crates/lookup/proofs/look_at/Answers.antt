-- One search of the detail block's current text.
use borrow.Author.Tests.{lt-ltb, le-ltb}
use Rattle.lookup.proofs.Sizes.{text-long, text-some, text-count, rows-within, width-within, key-there}
use Rattle.lookup.proofs.Fits.{detail-found}
use Rattle.lookup.proofs.look_at.Goals as goal

pub records_in-n-requires : goal.records_in-n-requires
records_in-n-requires c = search text-some

pub find-i-requires : goal.find-i-requires
find-i-requires c = (search (rows-within, text-long, text-count), search width-within, search key-there)

pub returns-then-i-n : goal.returns-then-i-n
returns-then-i-n c =
    let i = detail-found _ _ _ _ _ _ _ c.detail_shape.ensures c.find-i.ensures in
    simp (← c.text_of-t.ensures, ← c.records_in-n.ensures, ← i, lt-ltb _ _ c.if-i-n.true)

pub returns : goal.returns
returns c =
    let i = detail-found _ _ _ _ _ _ _ c.detail_shape.ensures c.find-i.ensures in
    simp (← c.text_of-t.ensures, ← c.records_in-n.ensures, ← i, le-ltb _ _ c.if-i-n.false)
