-- The key found, another bound, and the last key, in this order.
use mathlib.Core.Path.{◌≡◌, refl, sym, ap, ◌∙◌}
use mathlib.Core.Bool.{Bool, true, false, cond}
use Prim.Native.Nat.{ℕ}
use native.Mathlib.Omega.{arith}
use borrow.Author.Tests.{lt-ltb, le-ltb}
use Rattle.rules.specs.Xtend.{not_behind}
use Rattle.lookup.proofs.Fits.{detail-found}
use Rattle.lookup.proofs.Sizes.{text-long, text-some, text-count, rows-within, width-within, key-there}
use Rattle.xtend.proofs.Ways.{path-records}
use Rattle.xtend.proofs.before.not_behind.Goals as goal
use Rattle.xtend.proofs.before.not_behind.Goals.{then-i-n, else-i-n}

pub records_in-n-requires : goal.records_in-n-requires
records_in-n-requires c = search text-some

pub find-i-requires : goal.find-i-requires
find-i-requires c = (search (rows-within, text-long, text-count), search width-within, search key-there)

pub is_above-requires : goal.is_above-requires
is_above-requires c = (search path-records, omega arith, search)

pub returns-then-not-just_before : goal.returns-then-not-just_before
unfolding not_behind
returns-then-not-just_before c =
    let i = detail-found _ _ _ _ _ _ _ c.detail_shape.ensures c.find-i.ensures in
    elim c.if-i-n.branch [
      | then-i-n w ↦ rw (c.if-not-just_before.true, ← c.text_of-t.ensures, ← c.records_in-n.ensures, ← i, lt-ltb _ _ w.if-i-n.true) refl
      | else-i-n w ↦
          rw (
            c.if-not-just_before.true,
            ← c.text_of-t.ensures,
            ← c.records_in-n.ensures,
            ← i,
            le-ltb _ _ w.if-i-n.false,
            ← w.just_before.ensures,
            sym w.value-is ∙ c.if-not-just_before.true,
          ) refl
    ]

pub returns-else-not-just_before : goal.returns-else-not-just_before
unfolding not_behind
returns-else-not-just_before c =
    let i = detail-found _ _ _ _ _ _ _ c.detail_shape.ensures c.find-i.ensures in
    elim c.if-i-n.branch [
      | then-i-n w ↦
          let z : true ≡ false = sym (lt-ltb _ _ w.if-i-n.true) ∙ sym w.value-is ∙ c.if-not-just_before.false in
          absurd (let n : ◌≡◌ {A = ℕ} 0 1 = ap (λ (t : Bool). cond t 0 1) z in omega arith)
      | else-i-n w ↦
          rw (
            ← c.text_of-t.ensures,
            ← c.is_above.ensures,
            ← c.records_in-n.ensures,
            ← i,
            le-ltb _ _ w.if-i-n.false,
            ← w.just_before.ensures,
            sym w.value-is ∙ c.if-not-just_before.false,
          ) refl
    ]
