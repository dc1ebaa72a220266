-- What ADV's steps tell once they are passed: of the buffered block, of the paths, and of what they come to.
use mathlib.Core.Path.{◌≡◌, refl, sym, ap, ◌∙◌}
use mathlib.Core.Bool.{Bool, true, false, cond}
use mathlib.Core.List.{List, []}
use Prim.Native.Nat.{ℕ, ◌+◌, ◌≤◌}
use lib.Dec.{ltb}
use Rattle.numbers.specs.Checked.{passed}
use Rattle.numbers.proofs.Passed.{Passed, by-test}
use Rattle.table.specs.Tables.{count}
use Rattle.drum.specs.Params.{D, index_shape, detail_shape}
use Rattle.drum.specs.Blocks.{Texts, text_of}
use Rattle.rules.specs.declared.Which.{Which}
use Rattle.rules.specs.declared.Which.TheVariants.{First, Place, Covering}
use Rattle.rules.specs.declared.Path.{Path}
use Rattle.rules.specs.declared.Step.{Step}
use Rattle.rules.specs.Paths.{path_by, path_to, first_path}
use Rattle.rules.specs.Fits.{PathFits, StepFits}
use Rattle.rules.specs.Adv.{next_in_buffer, next_path, adv_step}
use Rattle.rules.proofs.Fits.{step-passed}
use Rattle.lookup.proofs.Fits.{first_any, path-passed, test_fits}

next-passed : (v : Texts) (w : Path) → Passed (PathFits v) (next_path v w)
unfolding next_path
next-passed v w =
    by-test (ltb (w.entry + 1) (count (index_shape v.desc) (text_of v w.index))) _ _
    (λ e. path-passed v (Place w.section) (Place (w.entry + 1)) [])
    (λ e. path-passed v (Place (w.section + 1)) First [])

pub next_fits : (v : Texts) (w x : Path) → passed x ≡ next_path v w → PathFits v x
next_fits v w x e = (next-passed v w).holds x (sym e)

-- where the next record is in the buffer, a good block is buffered
pub here-most : (v : Texts) (key : List ℕ) (t : Bool) → passed t ≡ next_in_buffer v key → t ≡ true → count (detail_shape v.desc) v.buffer ≤ D v.desc
unfolding next_in_buffer
here-most v key t e h = (test_fits v _ (sym e ∙ ap (λ (x : Bool). passed x) h)).0.records-most

-- the way to the first block that is looked at
pub start : (v : Texts) (key : List ℕ) (placed : Bool) (which : Which) → which ≡ cond placed Covering First
    → path_by v which which key ≡ cond placed (path_to v key) (first_path v)
start v key placed which e = ap (λ (z : Which). path_by v z z key) e ∙ any placed
  where
    any : (t : Bool) → path_by v (cond t Covering First) (cond t Covering First) key ≡ cond t (path_to v key) (first_path v)
    any true = refl
    any false = first_any v key []

-- what the steps come to
pub step_fits : (v : Texts) (flag placed : Bool) (key : List ℕ) (s : Step) → passed s ≡ adv_step v flag placed key → StepFits v flag s
step_fits v flag placed key s e = (step-passed v flag key placed).holds s (sym e)
