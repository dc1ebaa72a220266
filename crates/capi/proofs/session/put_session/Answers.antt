-- `capi::session::put_session` meets its contract: words 6 to 72 are written, words 0 to 5 stand there.
use mathlib.Core.Path.{◌≡◌}
use native.Mathlib.Omega.{arith}
use lib.ListN.{length, length-set}
use Rattle.capi.proofs.Words.{overwritten}
use borrow.Author.Rules.{rules}
use Rattle.capi.proofs.session.put_session.Goals as goal

-- the position is an array of 63 words
pub copy_words-requires : goal.copy_words-requires
copy_words-requires c = let h : length c.args.s.position ≡ 63 = search rules in omega arith

pub bounds-words-7 : goal.bounds-words-7
bounds-words-7 c = simp length-set (omega arith)

pub bounds-words-8 : goal.bounds-words-8
bounds-words-8 c = simp length-set (omega arith)

pub bounds-words-9 : goal.bounds-words-9
bounds-words-9 c = simp length-set (omega arith)

pub returns : goal.returns
returns c = search (overwritten, rules)
