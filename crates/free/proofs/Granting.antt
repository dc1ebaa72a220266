-- What the code asks of the parameters, of the master and of the chain's head, before it looks at them.
use Prim.Native.Nat.{ℕ, ◌+◌, ◌≤◌, ◌<◌}
use mathlib.Core.Path.{◌≡◌, refl, sym, ap, ◌∙◌}
use mathlib.Core.Bool.{Bool, true, false, cond}
use mathlib.Core.List.{List}
use native.Mathlib.Omega.{arith}
use borrow.Author.Tests.{eq-eqb, ltb-false}
use lib.Dec.{ltb, eqb}
use lib.ListN.{length}
use Rattle.numbers.specs.Checked.{Checked, passed, refused, ◌>>◌, within, up_to}
use Rattle.numbers.proofs.Passed.{clash, limited}
use Rattle.drum.specs.declared.Description.{Description}
use Rattle.drum.specs.Params.{good_params}
use Rattle.drum.specs.Blocks.{Fitting, Block, Texts, text_of}
use Rattle.drum.proofs.Good.{good-facts, caps}
use Rattle.drum.proofs.Blocks.{length-text_of}
use Rattle.rules.specs.Free.{none_left}

-- the parameters are small, and the master has words 0, 1 and 2
pub number_small : (p : Description) → good_params p ≡ true → p.n ≤ 262142
number_small p good = let g = good-facts p good in omega arith

pub master-some : (p : Description) (f b : List ℕ) → Fitting p f b → 3 ≤ length f
master-some p f b fit =
    let g = caps p fit.good in
    let l = fit.file-is in
    omega arith

-- a chain that passes: its first step, and the rest
parted : {A B : Type 0} (m : Checked A) (rest : Checked B) (b : B) → m >> rest ≡ passed b → (a : A) × (m ≡ passed a) × (rest ≡ passed b)
parted (refused n) rest b e = clash n b e
parted (passed a) rest b e = (a, refl, e)

-- what the test whether a block is left tells: the head is a block or 0, and of an empty chain word 2 is a block
module _ (p : Description) (head lowest : ℕ) (none : Bool) (e : passed none ≡ none_left p head lowest) where
  pub head-most : head ≤ p.n
  unfolding none_left
  head-most =
      let q = parted (up_to p.n head) (cond (eqb head 0) (within 1 (p.n + 1) lowest >> passed (ltb p.n lowest)) (passed false)) none (sym e) in
      (limited p.n head q.0 q.1).0

  pub lowest-most : head ≡ 0 → none ≡ false → lowest ≤ p.n
  unfolding none_left
  lowest-most z some =
      let q = parted (up_to p.n head) (cond (eqb head 0) (within 1 (p.n + 1) lowest >> passed (ltb p.n lowest)) (passed false)) none (sym e) in
      let r : within 1 (p.n + 1) lowest >> passed (ltb p.n lowest) ≡ passed none =
      ap (λ (t : Bool). cond t (within 1 (p.n + 1) lowest >> passed (ltb p.n lowest)) (passed false)) (sym (eq-eqb _ _ z)) ∙ q.2 in
      let s = (parted (within 1 (p.n + 1) lowest) (passed (ltb p.n lowest)) none r).2 in
      let t : ltb p.n lowest ≡ none = cc in
      ltb-false p.n lowest (t ∙ some)

-- a block's text has a link, in one of its first two words
pub link-there : (v : Texts) (b : ℕ) (t : List ℕ) → Fitting v.desc v.file v.buffer → t ≡ text_of v b → Block v.desc b → 1 < length t
link-there v b t fit e block =
    let g = caps v.desc fit.good in
    let l = ap length e ∙ length-text_of v b fit block in
    omega arith
