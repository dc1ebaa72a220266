-- The words behind the entries and the last bound decide.
use mathlib.Core.Path.{refl}
use native.Mathlib.Omega.{arith}
use Rattle.words.specs.Keys.{is_ones}
use Rattle.drum.specs.Params.{master_size}
use Rattle.drum.proofs.Good.{size-good}
use Rattle.layout.specs.Inspect.{key_held, master_ok}
use Rattle.layout.proofs.CodeSizes.{entries-inside, entries-span, entries-end, behind-most, behind-inside, key-short}
use Rattle.layout.proofs.master_ok.Goals as goal

pub overflow_add-behind : goal.overflow_add-behind
overflow_add-behind c = omega (arith, key-short)

pub overflow_mul-behind : goal.overflow_mul-behind
overflow_mul-behind c = search entries-span

pub overflow_add-behind-2 : goal.overflow_add-behind-2
overflow_add-behind-2 c = search entries-end

pub overflow_sub-m : goal.overflow_sub-m
overflow_sub-m c = search behind-most

pub all_are-requires : goal.all_are-requires
all_are-requires c = search behind-inside

pub overflow_add-k : goal.overflow_add-k
overflow_add-k c = omega (arith, key-short)

pub last_row-requires : goal.last_row-requires
last_row-requires c = (search, search entries-inside)

pub returns-then-all_are : goal.returns-then-all_are
unfolding master_ok is_ones key_held
returns-then-all_are c =
    let m = size-good c.args.p (master_size c.args.p) c.master_size-m.result c.master_size-m.ensures c.requires.fit.good in
    rw (← m, ← c.all_are.ensures, c.if-all_are.true, ← c.last_row.ensures.0) c.all_are-then-all_are.ensures

pub returns-else-all_are : goal.returns-else-all_are
unfolding master_ok
returns-else-all_are c =
    let m = size-good c.args.p (master_size c.args.p) c.master_size-m.result c.master_size-m.ensures c.requires.fit.good in
    rw (← m, ← c.all_are.ensures, c.if-all_are.false) refl
