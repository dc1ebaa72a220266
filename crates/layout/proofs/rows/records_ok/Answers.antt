-- The order, the bound and the end record decide.
use mathlib.Core.Path.{◌≡◌, refl}
use mathlib.Core.Bool.{not, ◌&&◌}
use Rattle.words.specs.Words.{part}
use Rattle.words.specs.Keys.{key_lt}
use Rattle.layout.specs.Inspect.{ascends}
use Rattle.layout.proofs.CodeRows.{records-end, records-over}
use Rattle.layout.proofs.rows.records_ok.Goals as goal
use Rattle.layout.proofs.rows.records_ok.Goals.{then-ascends, else-ascends}

pub returns-then-not-key_below : goal.returns-then-not-key_below
returns-then-not-key_below c =
    let p = c.args.p in
    let f = c.args.f.now in
    let v : c.if-ascends.value ≡ (ascends p f p.wpr c.args.low c.args.a c.args.n && not (key_lt (part c.args.e p.k f) (part c.last_row-r.result p.k f))) = elim c.if-ascends.branch [
      | then-ascends w ↦ rw (w.value-is, ← c.ascends.ensures, w.if-ascends.true, ← w.key_below.ensures) refl
      | else-ascends w ↦ rw (w.value-is, ← c.ascends.ensures, w.if-ascends.false) refl
    ] in
    records-end _ _ _ _ _ _ _ c.last_row-r.ensures.0 _ v c.if-not-key_below.true _ c.end_ok.ensures

pub returns-else-not-key_below : goal.returns-else-not-key_below
returns-else-not-key_below c =
    let p = c.args.p in
    let f = c.args.f.now in
    let v : c.if-ascends.value ≡ (ascends p f p.wpr c.args.low c.args.a c.args.n && not (key_lt (part c.args.e p.k f) (part c.last_row-r.result p.k f))) = elim c.if-ascends.branch [
      | then-ascends w ↦ rw (w.value-is, ← c.ascends.ensures, w.if-ascends.true, ← w.key_below.ensures) refl
      | else-ascends w ↦ rw (w.value-is, ← c.ascends.ensures, w.if-ascends.false) refl
    ] in
    records-over _ _ _ _ _ _ _ c.last_row-r.ensures.0 _ v c.if-not-key_below.false
