-- The words of a block: a count, rows and zeros, cut out of the file and put together again; and the words of an entry.
use Prim.Native.Nat.{ℕ, zero, suc, ◌+◌, ◌*◌, ◌-◌, ◌≤◌, ◌<◌}
use mathlib.Core.Path.{◌≡◌, refl, sym, ap, ◌∙◌}
use mathlib.Core.List.{List, ◌∷◌, ◌++◌, flatten}
use mathlib.Core.Bool.{true}
use native.Mathlib.Omega.{arith}
use native.Mathlib.Nat.{not-suc-le-zero, zero-mul, mul-le-mul_right}
use lib.ListN.{length, get_or, replicate}
use Rattle.words.specs.Words.{part, all_are, zeros}
use Rattle.words.proofs.Parts.{length_part, part_none, part-cons, part-add}
use Rattle.words.proofs.All.{all_are-true, all_are-replicate}
use Rattle.table.specs.Tables.{laid}
use Rattle.drum.specs.declared.Description.{Description}
use Rattle.drum.specs.Params.{start}
use Rattle.drum.specs.Blocks.{block_at}
use Rattle.layout.specs.Inspect.{key_held, named, last_row}
use Rattle.layout.specs.Tree.{bound_of}
use Rattle.layout.specs.Holds.{index_entries}
use Rattle.layout.proofs.Good.{row_more}
use Rattle.layout.proofs.Lists.{append-parts}
use Rattle.layout.proofs.Read.{RowsOk, rows_at, leaf_at, leaves_at, last-next, last_one}

-- a word and what comes after it
text-split : (f : List ℕ) (s u z : ℕ) → s + (1 + (u + z)) ≤ length f
    → part s (1 + (u + z)) f ≡ get_or f s 0 ∷ (part (s + 1) u f ++ part (s + (1 + u)) z f)
text-split f s u z h =
    let e : 1 + (u + z) ≡ suc (u + z) = omega arith in
    let a : suc s ≡ s + 1 = omega arith in
    let b : s + 1 + u ≡ s + (1 + u) = omega arith in
    rw (e, part-cons s (u + z) f (omega arith), a, part-add (s + 1) u z f, b)

pub zeros-are : (a n : ℕ) (f : List ℕ) → a + n ≤ length f → all_are 0 (part a n f) ≡ true → part a n f ≡ zeros n
zeros-are a n f h e = all_are-true 0 (part a n f) e ∙ ap (λ (m : ℕ). replicate m 0) (length_part a n f h)

-- rows side by side
pub rows-flat : (f : List ℕ) (stride n a : ℕ) → flatten (rows_at f stride a n) ≡ part a (n * stride) f
unfolding rows_at flatten
rows-flat f stride zero a = rw zero-mul (sym (part_none a f))
rows-flat f stride (suc n) a = rw (rows-flat f stride n (a + stride), row_more n stride) (sym (part-add a stride (n * stride) f))

-- the master's first three words
pub three-words : (f : List ℕ) (n : ℕ) → 3 ≤ length f → part 0 (3 + n) f ≡ get_or f 0 0 ∷ get_or f 1 0 ∷ get_or f 2 0 ∷ part 3 n f
three-words f n h =
    let e : 3 + n ≡ suc (suc (suc n)) = omega arith in
    rw (e, part-cons 0 (suc (suc n)) f (omega arith), part-cons 1 (suc n) f (omega arith), part-cons 2 n f (omega arith))

-- a block's words, put together
pub block-part : (p : Description) (f : List ℕ) (b : ℕ) → block_at p f b ≡ part (start p b) p.wpb f
unfolding block_at
block-part p f b = refl

pub block-text : (p : Description) (f : List ℕ) (most stride tag b n : ℕ) → start p b + p.wpb ≤ length f → 1 + most * stride ≤ p.wpb
    → RowsOk p f most stride tag (start p b) n → block_at p f b ≡ laid p.wpb (tag + n) (part (start p b + 1) (n * stride) f)
unfolding laid
block-text p f most stride tag b n h k w =
    let u = n * stride in
    let l : n * stride ≤ most * stride = mul-le-mul_right stride w.fits.1 in
    let z = p.wpb - (1 + u) in
    let e : p.wpb ≡ 1 + (u + z) = omega arith in
    let t : start p b + (1 + (u + z)) ≤ length f = omega arith in
    let g : length (part (start p b + 1) u f) ≡ u = length_part (start p b + 1) u f (omega arith) in
    let m : p.wpb - 1 - length (part (start p b + 1) u f) ≡ z = omega arith in
    let c : get_or f (start p b) 0 ≡ tag + n = omega (arith, w.count, w.fits) in
    block-part p f b
    ∙ ap (λ (v : ℕ). part (start p b) v f) e
    ∙ text-split f (start p b) u z t
    ∙ rw (m, c, zeros-are (start p b + (1 + u)) z f (omega arith) w.behind)

-- and taken apart
pub record Words (p : Description) (f : List ℕ) (b n : ℕ) (ws : List ℕ) : Type 0 where
  pub count : get_or f (start p b) 0 ≡ n
  pub rows : part (start p b + 1) (length ws) f ≡ ws
  pub behind : all_are 0 (part (start p b + (1 + length ws)) (p.wpb - (1 + length ws)) f) ≡ true

pub block_words : (p : Description) (f : List ℕ) (b n : ℕ) (ws : List ℕ) → start p b + p.wpb ≤ length f → 1 + length ws ≤ p.wpb
    → block_at p f b ≡ laid p.wpb n ws → Words p f b n ws
unfolding laid
block_words p f b n ws h k e =
    let s = start p b in
    let u = length ws in
    let z = p.wpb - (1 + u) in
    let q : p.wpb ≡ 1 + (u + z) = omega arith in
    let m : p.wpb - 1 - u ≡ z = omega arith in
    let t : get_or f s 0 ∷ (part (s + 1) u f ++ part (s + (1 + u)) z f) ≡ n ∷ (ws ++ zeros z) =
    sym (text-split f s u z (omega arith)) ∙ ap (λ (v : ℕ). part s v f) (sym q) ∙ sym (block-part p f b) ∙ e ∙ rw m in
    let t' : part (s + 1) u f ++ part (s + (1 + u)) z f ≡ ws ++ zeros z = cc in
    let (a, c) = append-parts (part (s + 1) u f) ws (part (s + (1 + u)) z f) (zeros z) (length_part (s + 1) u f (omega arith)) t' in
    record { count = cc; rows = a; behind = rw c (all_are-replicate z 0) }

-- an entry: a key, a block's number, and what comes after them
module _ (p : Description) where
  pub entry_more : (n : ℕ) → suc n * (p.k + 1) ≡ p.k + suc (n * (p.k + 1))
  entry_more n = rw (row_more n (p.k + 1)) (omega arith)

  pub entry-words : (f : List ℕ) (a u : ℕ) → a + p.k < length f
      → part a (p.k + suc u) f ≡ key_held p f a ++ (named p f a ∷ part (a + (p.k + 1)) u f)
  unfolding key_held
  entry-words f a u h =
      let e : suc (a + p.k) ≡ a + (p.k + 1) = omega arith in
      rw (part-add a p.k (suc u) f, part-cons (a + p.k) u f h, e)

  pub length-key : (f : List ℕ) (e : ℕ) → e + p.k ≤ length f → length (key_held p f e) ≡ p.k
  unfolding key_held
  length-key f e h = length_part e p.k f h

  pub entry-is : (f : List ℕ) (a : ℕ) (key : List ℕ) (b : ℕ) (ws : List ℕ) (n : ℕ) → a + suc n * (p.k + 1) ≤ length f → length key ≡ p.k
      → part a (suc n * (p.k + 1)) f ≡ key ++ (b ∷ ws) → (key_held p f a ≡ key) × (named p f a ≡ b) × (part (a + (p.k + 1)) (n * (p.k + 1)) f ≡ ws)
  entry-is f a key b ws n h l e =
      let m = entry_more n in
      let t : key_held p f a ++ (named p f a ∷ part (a + (p.k + 1)) (n * (p.k + 1)) f) ≡ key ++ (b ∷ ws) =
      sym (entry-words f a (n * (p.k + 1)) (omega arith)) ∙ ap (λ (x : ℕ). part a x f) (sym m) ∙ e in
      let more = named p f a ∷ part (a + (p.k + 1)) (n * (p.k + 1)) f in
      let (x, y) = append-parts (key_held p f a) key more (b ∷ ws) (length-key f a (omega arith) ∙ sym l) t in
      (x, cc, cc)

  -- the entries of an index block
  pub entries-flat : (f : List ℕ) (n a : ℕ) → a + n * (p.k + 1) ≤ length f → index_entries (leaves_at p f a n) ≡ part a (n * (p.k + 1)) f
  unfolding index_entries leaves_at leaf_at
  entries-flat f zero a h = rw zero-mul (sym (part_none a f))
  entries-flat f (suc n) a h =
      let m = entry_more n in
      rw (m, entries-flat f n (a + (p.k + 1)) (omega arith), entry-words f a (n * (p.k + 1)) (omega arith))

  pub last-bound : (f : List ℕ) (n a : ℕ) → 1 ≤ n → bound_of (leaves_at p f a n) ≡ key_held p f (last_row a (p.k + 1) n)
  unfolding bound_of leaves_at leaf_at
  last-bound f zero a h = absurd (not-suc-le-zero h)
  last-bound f (suc zero) a h = rw (last_one a (p.k + 1))
  last-bound f (suc (suc n)) a h = last-bound f (suc n) (a + (p.k + 1)) (omega arith) ∙ ap (key_held p f) (last-next a (p.k + 1) n)
