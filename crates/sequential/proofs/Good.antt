-- What a good layout and whole blocks are, as facts: the ranges, and that a place inside is a word of the file.
use mathlib.Core.Path.{◌≡◌, refl}
use mathlib.Core.Bool.{true}
use Prim.Native.Nat.{ℕ, ◌+◌, ◌*◌, ◌-◌, ◌/◌, ◌%◌, ◌≤◌, ◌<◌}
use native.Mathlib.Nat.{mul-le-mul_right, mul-le-mul_left, div-mul-le_self}
use native.Mathlib.Omega.{arith}
use borrow.Author.Tests.{leb-true, eqb-true, ltb-true}
use Rattle.words.proofs.All.{and_both}
use Rattle.sequential.specs.declared.Layout.{Layout}
use Rattle.sequential.specs.declared.Place.{Place}
use Rattle.sequential.specs.declared.Row.{Row}
use Rattle.sequential.specs.Rows.{area, good_layout, whole, blocks, word_of}
use Rattle.sequential.specs.Lent.{Fine, InBlock, InArea, Inside, LiesIn}

-- the ranges of a layout
pub record Good (l : Layout) : Type 0 where
  pub even : l.wpb % 2 ≡ 0
  pub least : 6 ≤ l.wpb
  pub most : l.wpb ≤ 4096
  pub leaders-most : l.leaders ≤ 63
  pub leaders-lt : l.leaders < l.wpb
  pub area-is : area l ≡ l.wpb - l.leaders

pub good-facts : (l : Layout) → good_layout l ≡ true → Good l
unfolding good_layout area
good-facts l h =
    let (a, h₁) = and_both _ _ h in
    let (b, h₂) = and_both _ _ h₁ in
    let (c, h₃) = and_both _ _ h₂ in
    let (d, e) = and_both _ _ h₃ in
    record {
      even = eqb-true _ _ a;
      least = leb-true _ _ b;
      most = leb-true _ _ c;
      leaders-most = leb-true _ _ d;
      leaders-lt = ltb-true _ _ e;
      area-is = refl;
    }

-- whole blocks of a good layout
pub whole-good : (l : Layout) (file : ℕ) → whole l file ≡ true → good_layout l ≡ true
unfolding whole
whole-good l file h = (and_both _ _ h).0

-- one block more would still lie in the file
pub block-end : (l : Layout) (b file : ℕ) → b < blocks l file → b * l.wpb + l.wpb ≤ file
unfolding blocks
block-end l b file h =
    let r : file / l.wpb * l.wpb ≤ file = div-mul-le_self file l.wpb in
    let m : (b + 1) * l.wpb ≤ file / l.wpb * l.wpb = mul-le-mul_right l.wpb (let z : b + 1 ≤ file / l.wpb = omega arith in z) in
    omega arith

-- the same as rules over the records of the code's contracts
pub fine-leaders : (l : Layout) → Fine l → l.leaders < l.wpb
fine-leaders l h = (good-facts l h.good).leaders-lt

pub block-fine : (l : Layout) (q : Place) (file : ℕ) → InBlock l q file → Fine l
block-fine l q file h = record { good = whole-good l file h.sized }

pub area-fine : (l : Layout) (q : Place) (file : ℕ) → InArea l q file → Fine l
area-fine l q file h = record { good = whole-good l file h.sized }

pub lies-fine : (l : Layout) (r : Row) (file : ℕ) → LiesIn l r file → Fine l
lies-fine l r file h = record { good = whole-good l file h.sized }

-- a block of the file has a number below the file's length
pub block-small : (l : Layout) (q : Place) (file : ℕ) → InBlock l q file → q.block < file
block-small l q file h =
    let g = good-facts l (whole-good l file h.sized) in
    let e = block-end l q.block file h.block in
    let m : q.block * 1 ≤ q.block * l.wpb = mul-le-mul_left q.block (let z : 1 ≤ l.wpb = omega arith in z) in
    omega arith

-- a place inside is a word of the file
pub inside-word : (l : Layout) (q : Place) (file : ℕ) → Inside l q file → q.block * l.wpb + l.leaders + q.at < file
inside-word l q file h =
    let g = good-facts l (whole-good l file h.sized) in
    let e = block-end l q.block file h.block in
    let w = h.word in
    omega arith

pub inside_is : (l : Layout) (q : Place) (file : ℕ) → Inside l q file → word_of l q < file
unfolding word_of
inside_is l q file h = inside-word l q file h

-- a record that lies in its block begins inside, ends in the file, and takes few words
pub lies-inside : (l : Layout) (r : Row) (file : ℕ) → LiesIn l r file → Inside l r.place file
lies-inside l r file h =
    let a = h.least in
    let b = h.most in
    record { sized = h.sized; block = h.block; word = omega arith }

pub lies-end : (l : Layout) (r : Row) (file : ℕ) → LiesIn l r file → word_of l r.place + r.words ≤ file
unfolding word_of
lies-end l r file h =
    let g = good-facts l (whole-good l file h.sized) in
    let e = block-end l r.place.block file h.block in
    let m = h.most in
    omega arith

pub lies-few : (l : Layout) (r : Row) (file : ℕ) → LiesIn l r file → r.place.at + r.words ≤ 4096
lies-few l r file h =
    let g = good-facts l (whole-good l file h.sized) in
    let m = h.most in
    omega arith

pub block-leaders : (l : Layout) (q : Place) (file : ℕ) → InBlock l q file → l.leaders < l.wpb
block-leaders l q file h = (good-facts l (whole-good l file h.sized)).leaders-lt

pub area-least : (l : Layout) (q : Place) (file : ℕ) → InArea l q file → 6 ≤ l.wpb
area-least l q file h = (good-facts l (whole-good l file h.sized)).least
