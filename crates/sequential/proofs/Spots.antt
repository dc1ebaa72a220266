-- What the tests of a plan give: whole blocks, and places in the data area.
use mathlib.Core.Path.{◌≡◌, refl, sym, subst}
use mathlib.Core.Bool.{Bool, true, false, cond, not, ◌&&◌, ◌||◌}
use mathlib.Core.List.{List}
use Prim.Native.Nat.{ℕ, ◌+◌, ◌-◌, ◌/◌, ◌<◌}
use native.Mathlib.Omega.{arith}
use lib.Dec.{ltb, eqb}
use lib.ListN.{length, get_or}
use borrow.Author.Tests.{leb-true, eqb-true, ltb-true}
use Rattle.words.proofs.All.{and_both}
use Rattle.sequential.specs.declared.Kind.{Kind}
use Rattle.sequential.specs.declared.Kind.TheVariants.{Fixed, Variable}
use Rattle.sequential.specs.declared.Layout.{Layout}
use Rattle.sequential.specs.declared.Place.{Place}
use Rattle.sequential.specs.Rows.{area, whole, work_of, sized, blocks, right, room, word_of, next, stays_of, stays_at, get_place}
use Rattle.sequential.specs.Calls.{right_of, fixed_right}
use Rattle.sequential.specs.Lent.{Fine, InBlock, InArea, Inside}
use Rattle.sequential.proofs.Good.{Good, good-facts, whole-good, inside_is}

module _ (l : Layout) where
  -- sizes that are right: the file is whole, and the workspace has its words
  pub sized-whole : (file work : ℕ) → sized l file work ≡ true → whole l file ≡ true
  unfolding sized
  sized-whole file work h = (and_both _ _ h).0

  pub sized-work : (file work : ℕ) → sized l file work ≡ true → work ≡ work_of l.kind (area l)
  unfolding sized
  sized-work file work h = eqb-true work (work_of l.kind (area l)) (and_both (whole l file) (eqb work (work_of l.kind (area l))) h).1

  pub sized-fine : (file work : ℕ) → sized l file work ≡ true → Fine l
  sized-fine file work h = record { good = whole-good l file (sized-whole file work h) }

  pub sized-block : (q : Place) (file work : ℕ) → sized l file work ≡ true → q.block < file / l.wpb → InBlock l q file
  unfolding blocks
  sized-block q file work h b = record { sized = sized-whole file work h; block = b }

  -- a word of the data area that is read
  module _ (q : Place) (f : List ℕ) where
    pub stays-inside : InBlock l q (length f) → q.at < l.wpb - l.leaders → Inside l q (length f)
    unfolding area
    stays-inside h e = record { sized = h.sized; block = h.block; word = e }

    pub stays-read : (start : ℕ) → start ≡ word_of l q → InBlock l q (length f) → q.at < l.wpb - l.leaders → start < length f
    stays-read start s h e = subst (λ (i : ℕ). i < length f) (sym s) (inside_is l q (length f) (stays-inside h e))

    pub from-inside : InArea l q (length f) → q.block < length f / l.wpb → Inside l q (length f)
    unfolding blocks
    from-inside h b = record { sized = h.sized; block = b; word = h.word }

  -- the next record's place is in the data area: a fixed one has room there, a variable one is not at the block's end
  module _ (q : Place) (f : List ℕ) (whole : whole l (length f) ≡ true) (fixed : fixed_right l ≡ true) where
    g : Good l
    g = good-facts l (whole-good l (length f) whole)

    here-word : stays_at l q f ≡ true → q.at < l.wpb - l.leaders
    unfolding stays_at right room area
    here-word h = go l.kind refl
      where
        go : (k : Kind) → l.kind ≡ k → q.at < l.wpb - l.leaders
        go (Fixed n) ek =
            let a = leb-true 1 n (and_both _ _ (subst (λ (k : Kind). right_of k l ≡ true) ek fixed)).0 in
            let b = leb-true (q.at + n) (l.wpb - l.leaders) (subst (λ (k : Kind). stays_of k l q.at (get_or f (word_of l q) 0) ≡ true) ek h) in
            omega arith
        go Variable ek = test (eqb q.at 0) refl (subst (λ (k : Kind). stays_of k l q.at (get_or f (word_of l q) 0) ≡ true) ek h)
          where
            test : (t : Bool) → eqb q.at 0 ≡ t → stays_of Variable l q.at (get_or f (word_of l q) 0) ≡ true → q.at < l.wpb - l.leaders
            test true z _ = let a : q.at ≡ 0 = eqb-true q.at 0 z in let b = g.leaders-lt in omega arith
            test false z w =
                let word = not (eqb (get_or f (word_of l q) 0) 0) in
                ltb-true _ _ (and_both _ _ (subst (λ (t : Bool). (t || (ltb q.at (l.wpb - l.leaders) && word)) ≡ true) z w)).0

    pub next-area : InArea l (get_place l q f) (length f)
    unfolding get_place next
    next-area = record { sized = whole; word = go (stays_at l q f) refl }
      where
        go : (t : Bool) → stays_at l q f ≡ t → (cond t q (record { block = q.block + 1; at = 0 })).at < area l
        go true e = let w = here-word e in let a = g.area-is in omega arith
        go false e = let a = g.area-is in let b = g.leaders-lt in omega arith
