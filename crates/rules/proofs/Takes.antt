-- What new blocks tell once their tests are passed: one, and two with a section.
use Prim.Native.Nat.{ℕ, ◌+◌, ◌≤◌}
use mathlib.Core.Path.{◌≡◌, refl, sym, ◌∙◌}
use mathlib.Core.Bool.{Bool, true, false, not, ◌&&◌, ◌||◌}
use native.Mathlib.Omega.{arith}
use borrow.Author.Tests.{ltb-false, leb-false, eqb-false, not-true}
use lib.Dec.{leb, ltb, eqb}
use Rattle.numbers.specs.Numbers.{bad_file}
use Rattle.numbers.specs.Checked.{passed, require, within, up_to}
use Rattle.words.proofs.Keys.{clash}
use Rattle.words.proofs.All.{and_both}
use Rattle.drum.specs.declared.Description.{Description}
use Rattle.drum.specs.Blocks.{Texts, text_of, link_in, sections, chain_head, lowest_unused}
use Rattle.rules.specs.declared.Path.{Path}
use Rattle.rules.specs.declared.Taken.{Taken}
use Rattle.rules.specs.declared.Pair.{Pair}
use Rattle.rules.specs.Free.{none_left, granted, is_new, is_short, take_one, take_two}
use Rattle.rules.specs.Fits.{New, OneNew, TwoNew}
use Rattle.numbers.proofs.Passed.{Passed, chain, required, limited}

-- the head of the chain is a block or 0; and where a block is left with an empty chain, word 2 is one
record Left (p : Description) (head lowest : ℕ) (none : Bool) : Type 0 where
  head-most : head ≤ p.n
  lowest-most : none ≡ false → eqb head 0 ≡ true → lowest ≤ p.n

module _ (p : Description) (head lowest : ℕ) where
  left-empty : (x y : ℕ) → up_to p.n head ≡ passed x → within 1 (p.n + 1) lowest ≡ passed y → Left p head lowest (ltb p.n lowest)
  left-empty x y e f = record { head-most = (limited p.n head x e).0; lowest-most = λ g h. ltb-false p.n lowest g }

  left-chain : (x : ℕ) → up_to p.n head ≡ passed x → eqb head 0 ≡ false → Left p head lowest false
  left-chain x e f = record { head-most = (limited p.n head x e).0; lowest-most = λ g h. absurd (clash (sym h ∙ f)) }

  left_passed : Passed (Left p head lowest) (none_left p head lowest)
  unfolding none_left
  left_passed = search (chain, left-empty, left-chain) depth 12

-- a block granted, or 0, and the chain's head then
record Most (p : Description) (d : Taken) : Type 0 where
  block-most : d.block ≤ p.n
  head-most : d.head ≤ p.n

module _ (v : Texts) (head lowest : ℕ) where
  from-none : (none : Bool) → none_left v.desc head lowest ≡ passed none → Most v.desc (record { block = 0; head = head; lowest = lowest })
  from-none none e = record { block-most = omega arith; head-most = ((left_passed v.desc head lowest).holds none e).head-most }

  from_lowest : (none : Bool) → none_left v.desc head lowest ≡ passed none → none ≡ false → eqb head 0 ≡ true
      → Most v.desc (record { block = lowest; head = 0; lowest = lowest + 1 })
  from_lowest none e f g = record { block-most = ((left_passed v.desc head lowest).holds none e).lowest-most f g; head-most = omega arith }

  from-chain : (none : Bool) (link : ℕ) → none_left v.desc head lowest ≡ passed none → up_to v.desc.n (link_in v.desc (text_of v head)) ≡ passed link
      → Most v.desc (record { block = head; head = link; lowest = lowest })
  from-chain none link e f =
      let l = limited v.desc.n (link_in v.desc (text_of v head)) link f in
      record { block-most = ((left_passed v.desc head lowest).holds none e).head-most; head-most = omega arith }

  granted-passed : Passed (Most v.desc) (granted v head lowest)
  unfolding granted
  granted-passed = search (chain, from-none, from_lowest, from-chain) depth 12

  granted-most : (d : Taken) → granted v head lowest ≡ passed d → Most v.desc d
  granted-most d e = granted-passed.holds d e

-- where the test of "too few are free, or a section is needed and CONTROL are in use" fails, each part of it does
pub neither : (a b : Bool) → (a || b) ≡ false → (a ≡ false) × (b ≡ false)
neither true b e = absurd (clash e)
neither false b e = (refl, e)

module _ (v : Texts) (flag : Bool) (w : Path) where
  -- a block of 1..N that passed the test is a new block
  new-fits : (b : ℕ) (x : Bool) → b ≤ v.desc.n → eqb b 0 ≡ false → require (is_new v.current flag w b) bad_file ≡ passed x → New v w b
  new-fits b x m z r =
      let n = eqb-false b 0 z in
      let a = and_both (not (eqb b w.index)) _ (required (is_new v.current flag w b) bad_file x r) in
      let c = and_both (not (eqb b w.detail)) (not (flag && eqb b v.current)) a.1 in
      record {
        block = (omega arith, m);
        not-index = λ q. eqb-false b w.index (not-true _ a.0) (sym q);
        not-detail = λ q. eqb-false b w.detail (not-true _ c.0) (sym q);
      }

  record One (d : Taken) : Type 0 where
    taken : eqb d.block 0 ≡ false → OneNew v w d

  one_none : (d : Taken) → eqb d.block 0 ≡ true → One d
  one_none d e = record { taken = λ z. absurd (clash (sym e ∙ z)) }

  one-some : (d : Taken) (x : Bool) → granted v (chain_head v.file) (lowest_unused v.file) ≡ passed d
      → require (is_new v.current flag w d.block) bad_file ≡ passed x → One d
  one-some d x g r =
      let m = granted-most v _ _ d g in
      record { taken = λ z. record { new = new-fits d.block x m.block-most z r; head-most = m.head-most } }

  one-passed : Passed One (take_one v flag w)
  unfolding take_one
  one-passed = search (chain, one_none, one-some) depth 12

  -- one new block
  pub one-new : (d : Taken) → take_one v flag w ≡ passed d → eqb d.block 0 ≡ false → OneNew v w d
  one-new d e z = (one-passed.holds d e).taken z

  record Two (t : Pair) : Type 0 where
    taken : eqb t.detail 0 ≡ false → TwoNew v w t

  two_none : (d : Taken) → Two (record { detail = 0; index = d })
  two_none d = record { taken = λ z. absurd (clash z) }

  two-some : (d t : Taken) (x y z : Bool) → granted v (chain_head v.file) (lowest_unused v.file) ≡ passed d
      → granted v d.head d.lowest ≡ passed t
      → is_short v d.block t.block ≡ false
      → require (is_new v.current flag w d.block) bad_file ≡ passed x
      → require (is_new v.current flag w t.block) bad_file ≡ passed y
      → require (not (eqb t.block d.block)) bad_file ≡ passed z
      → Two (record { detail = d.block; index = t })
  two-some d t x y z g h e r q o =
      let m = granted-most v _ _ d g in
      let n = granted-most v _ _ t h in
      let a = neither (eqb d.block 0) _ e in
      let c = neither (eqb t.block 0) (leb v.desc.control (sections v.file)) a.1 in
      record {
        taken = λ k. record {
          detail = new-fits d.block x m.block-most a.0 r;
          index = new-fits t.block y n.block-most c.0 q;
          two = λ p. eqb-false t.block d.block (not-true _ (required _ bad_file z o)) (sym p);
          head-most = n.head-most;
          section = leb-false _ _ c.1;
        };
      }

  two-passed : Passed Two (take_two v flag w)
  unfolding take_two
  two-passed = search (chain, two_none, two-some) depth 16

  -- two new blocks, and a section
  pub two-new : (t : Pair) → take_two v flag w ≡ passed t → eqb t.detail 0 ≡ false → TwoNew v w t
  two-new t e z = (two-passed.holds t e).taken z
