-- Where rows, the master and the blocks of a file that fits lie.
use mathlib.Core.Path.{◌≡◌, ap, ◌∙◌}
use mathlib.Core.List.{List}
use Prim.Native.Nat.{ℕ, ◌+◌, ◌*◌, ◌-◌, ◌^◌, ◌≤◌, ◌<◌}
use native.Mathlib.Omega.{arith}
use lib.ListN.{length, take, drop}
use mir.Syntax.{w64}
use mir.Val.{Fits}
use Rattle.table.proofs.Places.{row-le, row_next}
use Rattle.drum.specs.declared.Description.{Description}
use Rattle.drum.specs.Params.{D, I, start, master_size, file_size, size_if}
use Rattle.words.specs.Words.{part}
use Rattle.drum.specs.Blocks.{block_at}
use Rattle.drum.proofs.Good.{caps, size-good}
use Rattle.drum.proofs.Blocks.{block_within, length-block}
use Rattle.numbers.specs.Checked.{passed}
use Rattle.layout.specs.Inspect.{marked}
use Rattle.layout.specs.Inspected.{Fit}
use Rattle.layout.proofs.CodeMarks.{marked-in}

-- one row of n
row-less : (n s : ℕ) → 0 < n → n * s ≡ (n - 1) * s + s
row-less n s h =
    let e : n ≡ n - 1 + 1 = omega arith in
    ap (λ (i : ℕ). i * s) e ∙ row_next (n - 1) s

-- row i of n is one of them
pub nth-row : (i n s : ℕ) → i < n → i * s + s ≤ n * s
nth-row i n s h =
    let l = row-le (i + 1) n s (omega arith) in
    omega (arith, row_next i s)

-- n rows from place a on, before place z: the last of them
module _ (a n stride z : ℕ) (inside : a + n * stride ≤ z) (some : 0 < n) where
  pub row_last : a + (n - 1) * stride + stride ≤ z
  row_last = omega (arith, row-less n stride some)

  module _ (short : z * 4 < 2 ^ 63) where
    pub last-span : Fits w64 ((n - 1) * stride)
    last-span = let h = row_last in omega arith

    pub last-place : Fits w64 (a + (n - 1) * stride)
    last-place = let h = row_last in omega arith

-- what good parameters say of the file, of a block's words, of a key and of counts
module _ (p : Description) (f : List ℕ) (w : Fit p f) where
  pub file-short : length f ≤ 1074782148
  unfolding file_size
  file-short = let c = caps p w.good in omega (arith, w.size)

  pub file-long : p.k + 4 ≤ length f
  unfolding file_size
  file-long =
      let c = caps p w.good in
      let l = row-le 1 p.control (p.k + 1) c.facts.control-least in
      omega (arith, w.size)

  pub first_key : 0 + p.k ≤ length f
  first_key = let h = file-long in omega arith

  pub block-wide : 6 ≤ p.wpb
  block-wide = (caps p w.good).facts.wpb-least

  pub key-short : p.k ≤ 63
  key-short = (caps p w.good).facts.k-most

  pub key-in-row : p.k ≤ p.wpr
  key-in-row = (caps p w.good).facts.key

  pub blocks-few : p.n ≤ 262142
  blocks-few = (caps p w.good).facts.n-most

  pub records-room : (most : ℕ) → most ≡ D p → 1 + most * p.wpr ≤ p.wpb
  records-room most e = rw e (caps p w.good).records-fit

  pub entries-room : (most : ℕ) → most ≡ I p → 1 + most * (p.k + 1) ≤ p.wpb
  entries-room most e = rw e (caps p w.good).entries_fit

  -- a block of the file, and the place behind the last one
  pub start-inside : (b s : ℕ) → s ≡ start p b → 1 ≤ b → b ≤ p.n → s + p.wpb ≤ length f
  start-inside b s e l h = omega (arith, w.size, block_within p b (l, h))

  pub in-file-end : (b s : ℕ) → s ≡ start p b → b ≤ p.n + 1 → s ≤ length f
  unfolding start file_size
  in-file-end b s e k =
      let l : (b - 1) * p.wpb ≤ p.n * p.wpb = row-le (b - 1) p.n p.wpb (omega arith) in
      omega (arith, w.size)

  pub rest-inside : (b s : ℕ) → s ≡ start p b → b ≤ p.n + 1 → s + (length f - s) ≤ length f
  rest-inside b s e k = let h = in-file-end b s e k in omega arith

-- the words of a block, as they are lent
module _ (p : Description) (f : List ℕ) (b s : ℕ) (e : s ≡ start p b) where
  pub block_here : take (s + p.wpb - s) (drop s f) ≡ block_at p f b
  unfolding block_at part
  block_here =
      let n : s + p.wpb - s ≡ p.wpb = omega arith in
      λ j. take (n j) (drop (e j) f)

  pub block_words : Fit p f → 1 ≤ b → b ≤ p.n → length (take (s + p.wpb - s) (drop s f)) ≡ p.wpb
  block_words w l h = ap length block_here ∙ length-block p f w.size b (l, h)

-- the entries of the master
module _ (p : Description) (f : List ℕ) (n : ℕ) (w : Fit p f) (some : 1 ≤ n) (few : n ≤ p.control) where
  entries-in : (3 + n * (p.k + 1) ≤ master_size p) × (master_size p ≤ length f) × (master_size p ≤ 1048516)
  unfolding file_size
  entries-in =
      let c = caps p w.good in
      let l = row-le n p.control (p.k + 1) few in
      (omega arith, omega (arith, w.size), c.master-most)

  pub entries-inside : 3 + n * (p.k + 1) ≤ length f
  entries-inside = let h = entries-in in omega arith

  pub entries-span : Fits w64 (n * (p.k + 1))
  entries-span = let h = entries-in in omega arith

  pub entries-end : Fits w64 (3 + n * (p.k + 1))
  entries-end = let h = entries-in in omega arith

  module _ (m : ℕ) (e : m ≡ size_if p (master_size p)) where
    pub behind-most : 3 + n * (p.k + 1) ≤ m
    behind-most = omega (arith, entries-in, size-good p (master_size p) m e w.good)

    pub behind-inside : 3 + n * (p.k + 1) + (m - (3 + n * (p.k + 1))) ≤ length f
    behind-inside = omega (arith, entries-in, size-good p (master_size p) m e w.good)

-- a block that was marked is one of the file's
module _ (p : Description) (b m : ℕ) (ms ms' : List ℕ) (q : marked m b ms ≡ passed ms') (l : length ms ≡ p.n) where
  pub block-least : 1 ≤ b
  block-least = (marked-in m b ms ms' p.n q l).0

  pub block-most : b ≤ p.n
  block-most = (marked-in m b ms ms' p.n q l).1
