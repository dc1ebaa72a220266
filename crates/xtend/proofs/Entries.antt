-- Tables of entries that are extended: the entry with the bound ONES, the last bound changed, lengths and counts.
use mathlib.Core.Path.{◌≡◌, refl, ap, ◌∙◌}
use mathlib.Core.List.{List, [], ◌∷◌, ◌++◌}
use Prim.Native.Nat.{ℕ, zero, suc, ◌+◌, ◌-◌, ◌≤◌, ◌<◌}
use native.Mathlib.Nat.{not-suc-le-zero}
use native.Mathlib.Omega.{arith}
use lib.ListN.{length, take, get_or, set, replicate, length-replicate, length-set}
use lib.Seq.{get_or-set_same}
use Rattle.words.specs.Words.{part, top_word}
use Rattle.words.specs.Keys.{ones}
use Rattle.words.proofs.Parts.{part-snoc, part-set-after, length_part}
use Rattle.table.specs.declared.Shape.{Shape}
use Rattle.table.specs.Tables.{count, place, inserted, replaced}
use Rattle.table.proofs.Places.{row_lt}
use Rattle.drum.specs.declared.Description.{Description}
use Rattle.drum.proofs.Good.{good-facts}
use Rattle.rules.specs.XtendDone.{ones_entry, bounded, extended}
use Rattle.rules.proofs.XtendKept.{bounded-length, bounded-count}
use Rattle.xtend.specs.Fits.{LastIn, LastRoomIn}

-- the first words of many that are one
take-replicate : (k m x : ℕ) → k ≤ m → take k (replicate m x) ≡ replicate k x
take-replicate zero m x h = refl
take-replicate (suc k) zero x h = absurd (not-suc-le-zero h)
take-replicate (suc k) (suc m) x h = ap (λ (l : List ℕ). x ∷ l) (take-replicate k m x (omega arith))

part-replicate : (k m x : ℕ) → k ≤ m → part 0 k (replicate m x) ≡ replicate k x
unfolding part
part-replicate k m x h = take-replicate k m x h

-- of 64 words that are all 262143 one is the block
pub ones-made : (k b : ℕ) (r : List ℕ) → r ≡ set (replicate 64 top_word) k b → k ≤ 63 → part 0 (k + 1) r ≡ ones k ++ (b ∷ [])
ones-made k b r er h =
    let l : List ℕ = replicate 64 top_word in
    let n : length l ≡ 64 = length-replicate 64 top_word in
    let s : length (set l k b) ≡ 64 = length-set l k b ∙ n in
    let e : part 0 k (set l k b) ≡ ones k = part-set-after l k b 0 k (omega arith) (omega arith) ∙ part-replicate k 64 top_word (omega arith) in
    let z : 0 + k ≡ k = omega arith in
    let g : get_or (set l k b) (0 + k) 0 ≡ b = ap (λ (i : ℕ). get_or (set l k b) i 0) z ∙ get_or-set_same l k b 0 (omega arith) in
    ap (part 0 (k + 1)) er ∙ part-snoc 0 k (set l k b) (omega arith) ∙ (λ j. e j ++ (g j ∷ []))

-- as many words of them as an entry has
pub entry-is : (p : Description) (h : Shape) (b : ℕ) (entry : List ℕ) → h.stride ≡ p.k + 1 → part 0 (p.k + 1) entry ≡ ones p.k ++ (b ∷ [])
    → part 0 h.stride entry ≡ ones_entry p b
unfolding ones_entry
entry-is p h b entry s e = ap (λ (i : ℕ). part 0 i entry) s ∙ e

-- the last bound is the key
module _ (p : Description) (h : Shape) (t key : List ℕ) (last : LastIn p h t key) where
  key-length : length (part 0 p.k key) ≡ p.k
  key-length =
      let k = last.key-is in
      length_part 0 p.k key (omega arith)

  -- the last row begins with a key
  pub last_within : (n : ℕ) → n ≡ count h t → place h (n - 1) + p.k ≤ length t
  last_within n e =
      let a = last.least in
      let b = last.within in
      let s = last.stride in
      let r = row_lt (count h t - 1) (count h t) h.stride (omega arith) in
      rw e (omega arith)

  pub length-bounded : length (bounded h (part 0 p.k key) t) ≡ length t
  length-bounded = bounded-length p h last.stride last.base t (part 0 p.k key) key-length last.least last.within

  pub count-bounded : count h (bounded h (part 0 p.k key) t) ≡ count h t
  count-bounded = bounded-count p h last.stride last.base t (part 0 p.k key) key-length last.least last.within

pub bounded-by : (h : Shape) (key t r : List ℕ) (n : ℕ) → r ≡ replaced h (n - 1) key t → n ≡ count h t → r ≡ bounded h key t
unfolding bounded
bounded-by h key t r n er en = rw (er, en)

-- and an entry more
module _ (p : Description) (h : Shape) (t key : List ℕ) (b : ℕ) (room : LastRoomIn p h t key b) where
  pub key-most : p.k ≤ 63
  key-most = (good-facts p room.good).k-most

  pub stride_most : h.stride ≤ 64
  stride_most =
      let m = key-most in
      let s = room.last.stride in
      omega arith

  -- the table once its last bound is the key
  module _ (u : List ℕ) (e : u ≡ bounded h (part 0 p.k key) t) where
    pub bounded-room : place h (count h u) + h.stride ≤ length u
    bounded-room = rw (e, count-bounded p h t key room.last, length-bounded p h t key room.last) room.room

    pub bounded-most : h.tag + count h u < 262143
    bounded-most = rw (e, count-bounded p h t key room.last) room.most

    pub bounded-place : (n : ℕ) → n ≡ count h t → n ≤ count h u
    bounded-place n en =
        let c : count h u ≡ count h t = ap (count h) e ∙ count-bounded p h t key room.last in
        omega arith

pub extended-by : (p : Description) (h : Shape) (key : List ℕ) (b n : ℕ) (entry t t₁ t₂ : List ℕ)
    → t₂ ≡ inserted h n (part 0 h.stride entry) t₁ → t₁ ≡ bounded h (part 0 p.k key) t → n ≡ count h t
    → part 0 (p.k + 1) entry ≡ ones p.k ++ (b ∷ []) → LastRoomIn p h t key b
    → t₂ ≡ extended p h (part 0 p.k key) b t
unfolding extended
extended-by p h key b n entry t t₁ t₂ e₂ e₁ en e room =
    let q : part 0 h.stride entry ≡ ones_entry p b = entry-is p h b entry room.last.stride e in
    rw (e₂, q, e₁, en)
