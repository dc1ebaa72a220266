-- A row passed differs from the key in one word.
use mathlib.Core.Path.{◌≡◌, sym, ap, ◌∙◌}
use mathlib.Core.Bool.{false}
use Prim.Native.Nat.{ℕ, ◌+◌, ◌<◌}
use native.Mathlib.Omega.{arith}
use borrow.Author.Count.{below_more}
use lib.ListN.{get_or}
use Rattle.words.specs.Words.{part}
use Rattle.table.specs.declared.Want.TheVariants.{Equal}
use Rattle.table.specs.Tables.{fits, key_at}
use Rattle.table.proofs.Differs.{other_word, told_below, told-other}
use Rattle.table.proofs.Turns.{told-inside, found-any, found-same, found_none}
use Rattle.table.proofs.same_row.Goals as goal
use Rattle.table.proofs.same_row.Goals.{then-t-row+else-m-h, else-t-row}

pub returns-then-h-eq0 : goal.returns-then-h-eq0
returns-then-h-eq0 c = found-any _ _ _ _ _ c.if-h-eq0.true

pub returns-then-m-h : goal.returns-then-m-h
returns-then-m-h c =
    found-same _ _ _ _ _ _ _ _ c.place-row.ensures c.same_words-m.ensures c.loop-i.invariant.2 c.if-m-h.true c.loop-i-test.true
    c.requires.0 c.requires.1 c.requires.2

pub overflow_add-word : goal.overflow_add-word
overflow_add-word c = let b = told-inside _ _ _ _ _ _ c.same_words-m.ensures c.if-m-h.false c.requires.2 in omega arith

pub offset_bounds-key-at-then-t-row : goal.offset_bounds-key-at-then-t-row
offset_bounds-key-at-then-t-row c = let b = told-inside _ _ _ _ _ _ c.same_words-m.ensures c.if-m-h.false c.requires.2 in omega arith

pub bounds-key-at-then-t-row : goal.bounds-key-at-then-t-row
bounds-key-at-then-t-row c = told-inside _ _ _ _ _ _ c.same_words-m.ensures c.if-m-h.false c.requires.2

pub loop-i-preserved : goal.loop-i-preserved
unfolding fits key_at
loop-i-preserved c =
    let a = c.args in
    let l = c.loop-i in
    let e = c.place-row.ensures in
    let r = c.place-row.result in
    -- after a row that is passed: which word to look at, what the key has there, and that the row is not wanted
    let passed : (c.if-t-row.m < a.h.width) × (c.if-t-row.word ≡ get_or a.key.now (a.at + c.if-t-row.m) 0)
    × (fits Equal a.h (part a.at a.h.width a.key.now) a.t.now l.i ≡ false) =
    elim c.if-t-row.branch [
      | then-t-row+else-m-h w ↦
          let b = told_below a.t.now r a.key.now a.at a.h.width _ w.same_words-m.ensures w.if-m-h.false in
          let o = told-other a.t.now r a.key.now a.at a.h.width _ w.same_words-m.ensures w.if-m-h.false in
          (rw w.m-is b, w.word-is ∙ ap (λ (m : ℕ). get_or a.key.now (a.at + m) 0) (sym w.m-is), rw e at o)
      | else-t-row w ↦
          let o = other_word a.t.now r a.key.now a.at a.h.width l.m l.invariant.0 (λ q. w.if-t-row.false (q ∙ sym l.invariant.1)) in
          (rw w.m-is l.invariant.0, w.word-is ∙ l.invariant.1 ∙ ap (λ (m : ℕ). get_or a.key.now (a.at + m) 0) (sym w.m-is), rw e at o)
    ]
    in
    (passed.0, passed.1, below_more _ _ l.invariant.2 passed.2)

pub returns : goal.returns
returns c = found_none _ _ _ _ _ _ c.loop-i.invariant.2 (omega arith)
