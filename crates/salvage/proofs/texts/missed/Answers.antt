-- `salvage::texts::missed` meets its contract: each return is the first test that fails.
use mathlib.Core.Logic.{inl, inr}
use native.Mathlib.Omega.{arith}
use Rattle.salvage.proofs.Tests.{text-some, missed-marked, missed-none, missed-many, span_fits, words-within}
use Rattle.salvage.proofs.Tests.{key-short, missed-word, missed-order, missed-nothing}
use Rattle.salvage.proofs.texts.missed.Goals as goal
use Rattle.salvage.proofs.texts.missed.Goals.{then-count-lt1-via-then-count-lt1, then-count-lt1-via-else-count-lt1+then-d-count}

pub word_at-word-requires : goal.word_at-word-requires
word_at-word-requires c = search text-some

pub returns-then-word-lt-DETAIL : goal.returns-then-word-lt-DETAIL
returns-then-word-lt-DETAIL c =
    missed-marked c.args.p c.args.t.now c.word_at-word.result c.word_at-word.ensures
    (elim c.then-word-lt-DETAIL.either [ inl low ↦ inl (omega arith) | inr high ↦ inr (omega arith) ])

pub returns-then-count-lt1 : goal.returns-then-count-lt1
returns-then-count-lt1 c =
    elim c.then-count-lt1.branch [
      | then-count-lt1-via-then-count-lt1 w ↦
          missed-none c.args.p c.args.t.now c.word_at-word.result c.word_at-word.ensures (omega arith) (omega arith) w.if-count-lt1.true
      | then-count-lt1-via-else-count-lt1+then-d-count w ↦
          missed-many c.args.p c.args.t.now c.word_at-word.result c.word_at-word.ensures (omega arith) (omega arith) w.d.result w.d.ensures w.if-d-count.true
    ]

pub overflow_mul-count : goal.overflow_mul-count
overflow_mul-count c = search span_fits

pub all_words-requires : goal.all_words-requires
all_words-requires c = search words-within

pub returns-then-not-all_words : goal.returns-then-not-all_words
returns-then-not-all_words c = search missed-word

pub keys_ascend-requires : goal.keys_ascend-requires
keys_ascend-requires c = (search key-short, search words-within)

pub returns-then-not-keys_ascend : goal.returns-then-not-keys_ascend
returns-then-not-keys_ascend c = search missed-order

pub returns : goal.returns
returns c = search missed-nothing
