-- A row taken out of a table; an entry taken out of an index block's text: its count and its length on the way.
use mathlib.Core.Path.{◌≡◌, refl, sym, ap, ◌∙◌}
use mathlib.Core.Bool.{Bool, true, false, cond}
use mathlib.Core.List.{List}
use Prim.Native.Nat.{ℕ, ◌+◌, ◌-◌, ◌*◌, ◌≤◌, ◌<◌}
use native.Mathlib.Omega.{arith}
use mir.Syntax.{w64}
use mir.Val.{Fits}
use borrow.Author.Tests.{eq-eqb, ne_eqb}
use lib.Dec.{eqb}
use lib.ListN.{length}
use Rattle.words.specs.Words.{part, put}
use Rattle.words.proofs.Parts.{length_part, length-put, get_or-put-before}
use Rattle.table.specs.declared.Shape.{Shape}
use Rattle.table.specs.Tables.{count, place, key_at, removed, replaced}
use Rattle.table.proofs.Places.{row-le, row_lt}
use Rattle.table.proofs.Lengths.{length_removed}
use Rattle.drum.specs.declared.Description.{Description}
use Rattle.drum.specs.Params.{I, master_shape, index_shape, detail_shape}
use Rattle.drum.specs.Blocks.{Fitting, block_at, put_block}
use Rattle.drum.proofs.Good.{caps}
use Rattle.drum.proofs.Forms.{index-tag}
use Rattle.rules.specs.Dlete.{entry_gone}
use Rattle.dlete.specs.Fits.{HasEntry, EntryIn}
use Rattle.dlete.specs.Freed.{handed}

-- a row taken out of a table, the shape and the words known by equations
pub removed-from : (h g : Shape) (i : ℕ) (t u r : List ℕ) → h ≡ g → t ≡ u → r ≡ removed h i t → r ≡ removed g i u
removed-from h g i t u r eh et er = rw (er, eh, et)

-- a row that can be taken out
pub record Removable (h : Shape) (t : List ℕ) (i : ℕ) : Type 0 where
  pub within : place h (count h t) ≤ length t
  pub below : i < count h t
  pub most : h.tag + count h t ≤ 262143

-- the rows of each table begin behind its count
pub master-base : (p : Description) (h : Shape) → h ≡ master_shape p → 1 ≤ h.base
unfolding master_shape
master-base p h e = rw e (omega arith)

pub index-base : (p : Description) (h : Shape) → h ≡ index_shape p → 1 ≤ h.base
unfolding index_shape
index-base p h e = rw e (omega arith)

pub detail-base : (p : Description) (h : Shape) → h ≡ detail_shape p → 1 ≤ h.base
unfolding detail_shape
detail-base p h e = rw e (omega arith)

-- a key written over the one of the entry before
module _ (k j : ℕ) (t key : List ℕ) (l : length key ≡ k) (h : 1 + j * (k + 1) + k ≤ length t) where
  over-length : length (put t (1 + (j - 1) * (k + 1)) key) ≡ length t
  over-length =
      let r = row-le (j - 1) j (k + 1) (omega arith) in
      length-put t (1 + (j - 1) * (k + 1)) key (omega arith)

  over-count : (g : Shape) → count g (put t (1 + (j - 1) * (k + 1)) key) ≡ count g t
  unfolding count
  over-count g =
      let r = row-le (j - 1) j (k + 1) (omega arith) in
      ap (λ (x : ℕ). x - g.tag) (get_or-put-before t (1 + (j - 1) * (k + 1)) key 0 (omega arith) (omega arith))

module _ (p : Description) (t : List ℕ) (j : ℕ) (h : HasEntry p t j) where
  -- the entries lie in the text
  entries-within : 1 + count (index_shape p) t * (p.k + 1) ≤ p.wpb
  entries-within =
      let g = caps p h.good in
      let r = row-le (count (index_shape p) t) (I p) (p.k + 1) h.most in
      omega arith

  entry-within : 1 + j * (p.k + 1) + (p.k + 1) ≤ length t
  entry-within =
      let e = entries-within in
      let r = row_lt j (count (index_shape p) t) (p.k + 1) h.below in
      omega arith

  -- the text has a count and is not long; the entry's key lies in it, behind the key of the entry before
  pub entry-text : 1 ≤ length t
  entry-text =
      let e = entry-within in
      omega arith

  pub entry-text-most : length t ≤ 4096
  entry-text-most =
      let g = caps p h.good in
      let q = g.facts in
      omega arith

  pub key-end : 1 + j * (p.k + 1) + p.k ≤ length t
  key-end =
      let e = entry-within in
      omega arith

  pub key-before : 1 + (j - 1) * (p.k + 1) ≤ 1 + j * (p.k + 1)
  key-before =
      let r = row-le (j - 1) j (p.k + 1) (omega arith) in
      omega arith

  pub row-before-fits : Fits w64 ((j - 1) * (p.k + 1))
  row-before-fits =
      let a = key-before in
      let e = key-end in
      let m = entry-text-most in
      record { fits = omega arith }

  pub key-before-fits : Fits w64 (1 + (j - 1) * (p.k + 1))
  key-before-fits =
      let a = key-before in
      let e = key-end in
      let m = entry-text-most in
      record { fits = omega arith }

  length-handed : length (handed p j t) ≡ p.wpb
  unfolding handed replaced key_at index_shape
  length-handed = go (eqb (j + 1) (count (index_shape p) t))
    where
      go : (b : Bool) → length (cond b (put t (1 + (j - 1) * (p.k + 1)) (part (1 + j * (p.k + 1)) p.k t)) t) ≡ p.wpb
      go true = over-length p.k j t _ (length_part (1 + j * (p.k + 1)) p.k t key-end) key-end ∙ h.text-is
      go false = h.text-is

  count-handed : count (index_shape p) (handed p j t) ≡ count (index_shape p) t
  unfolding handed replaced key_at index_shape
  count-handed = go (eqb (j + 1) (count (index_shape p) t))
    where
      go : (b : Bool) → count (index_shape p) (cond b (put t (1 + (j - 1) * (p.k + 1)) (part (1 + j * (p.k + 1)) p.k t)) t) ≡ count (index_shape p) t
      go true = over-count p.k j t _ (length_part (1 + j * (p.k + 1)) p.k t key-end) key-end (index_shape p)
      go false = refl

  handed-removable : Removable (index_shape p) (handed p j t) j
  unfolding index_shape
  handed-removable =
      let g = caps p h.good in
      let n = count-handed in
      let e = entries-within in
      record { within = rw (count-handed, length-handed) e; below = rw n h.below; most = omega (arith, index-tag p h.good) }

module _ (p : Description) (t : List ℕ) (j : ℕ) where
  gone-is : entry_gone p j t ≡ removed (index_shape p) j (handed p j t)
  unfolding entry_gone handed
  gone-is = refl

  pub length-gone : HasEntry p t j → length (entry_gone p j t) ≡ p.wpb
  length-gone h =
      let r = handed-removable p t j h in
      ap length gone-is ∙ length_removed (index_shape p) j (handed p j t) r.below r.within ∙ length-handed p t j h

  -- an entry that is not the last hands nothing on; the last one's key is moved to the one before
  pub not_last : (n : ℕ) → n ≡ count (index_shape p) t → (j + 1 ≡ n → ⊥) → t ≡ handed p j t
  unfolding handed
  not_last n e ne = simp (← e, ne_eqb _ _ ne)

  pub last-handed : (r : List ℕ) (n : ℕ) → r ≡ put t (1 + (j - 1) * (p.k + 1)) (part (1 + j * (p.k + 1)) p.k t)
      → n ≡ count (index_shape p) t → j + 1 ≡ n → r ≡ handed p j t
  unfolding handed replaced key_at index_shape
  last-handed r n er e l = simp (← e, eq-eqb _ _ l) er

  -- then its row can be taken out, and is
  module _ (h : Shape) (u : List ℕ) (has : HasEntry p t j) (eu : u ≡ handed p j t) where
    pub handed-within : h ≡ index_shape p → place h (count h u) ≤ length u
    handed-within eh = rw (eh, eu) (handed-removable p t j has).within

    pub handed-below : h ≡ index_shape p → j < count h u
    handed-below eh = rw (eh, eu) (handed-removable p t j has).below

    pub handed-most : h ≡ index_shape p → h.tag + count h u ≤ 262143
    handed-most eh = rw (eh, eu) (handed-removable p t j has).most

  pub gone-by : (h : Shape) (u r : List ℕ) → r ≡ removed h j u → u ≡ handed p j t → h ≡ index_shape p → r ≡ entry_gone p j t
  gone-by h u r er eu eh = removed-from h (index_shape p) j u (handed p j t) r eh eu er ∙ sym gone-is

-- the index block by way of the buffer
module _ (p : Description) (f t : List ℕ) (b j : ℕ) (has : EntryIn p f b j) where
  pub entry-fits : length t ≡ p.wpb → Fitting p f t
  entry-fits n = record { good = has.entry.good; file-is = has.file-is; buffer-is = n }

  pub entry_read : t ≡ block_at p f b → HasEntry p t j
  entry_read e = rw e has.entry

pub entry-stored : (p : Description) (f g t u : List ℕ) (b j : ℕ) → t ≡ block_at p f b → u ≡ entry_gone p j t → g ≡ put_block p f b u
    → g ≡ put_block p f b (entry_gone p j (block_at p f b))
entry-stored p f g t u b j et eu eg = rw (eg, eu, et)
