-- A table read as rows: base = the number of words in front, so master, index block and detail block are one case.
use mathlib.Core.Path.{◌≡◌, refl, sym, ap, ◌∙◌, subst}
use mathlib.Core.List.{List, [], ◌∷◌, ◌++◌, append_assoc}
use Prim.Native.Nat.{ℕ, suc, ◌+◌, ◌*◌, ◌≤◌, ◌<◌, ◌-◌}
use native.Mathlib.Nat.{suc-mul, zero-mul}
use native.Mathlib.Omega.{arith}
use lib.ListN.{length, take, drop, get_or, set, length-append}
use lib.Seq.{take_at, drop_at, get_or_at, split_at, length-take-le}
use Rattle.words.specs.Words.{part, put}
use Rattle.words.proofs.Parts.{take_part, get_d_part}
use Rattle.table.specs.declared.Shape.{Shape}
use Rattle.table.specs.Tables.{place, count, row, key_at, block_in}
use Rattle.table.specs.Rows.{cat, encode}
use Rattle.table.proofs.Lists.{All, all_left, all_right}

-- each row is n words long
abbrev pub Each : ℕ → List (List ℕ) → Type 0
Each n = All (λ r. length r ≡ n)

pub cat-append : (xs ys : List (List ℕ)) → cat (xs ++ ys) ≡ cat xs ++ cat ys
unfolding cat
cat-append [] ys = refl
cat-append (x ∷ xs) ys = rw (cat-append xs ys) (sym (append_assoc x (cat xs) (cat ys)))

pub cat-cons : (r : List ℕ) (rows : List (List ℕ)) → cat (r ∷ rows) ≡ r ++ cat rows
unfolding cat
cat-cons r rows = refl

pub length-cat : (n : ℕ) (xs : List (List ℕ)) → Each n xs → length (cat xs) ≡ length xs * n
unfolding cat
length-cat n [] h = sym (zero-mul n)
length-cat n (x ∷ xs) h = simp (length-append, suc-mul) (omega (arith, length-cat n xs h.1))

-- the words of the first rows, and of the others
module _ (s : ℕ) (bs cs : List (List ℕ)) (hb : Each s bs) where
  pub take-cat : take (length bs * s) (cat (bs ++ cs)) ≡ cat bs
  take-cat = rw (cat-append bs cs) (take_at (cat bs) (cat cs) (length bs * s) (length-cat s bs hb))

  pub drop-cat : drop (length bs * s) (cat (bs ++ cs)) ≡ cat cs
  drop-cat = rw (cat-append bs cs) (drop_at (cat bs) (cat cs) (length bs * s) (length-cat s bs hb))

-- a list of three pieces: its middle read, and written over
module _ (x y z : List ℕ) (a : ℕ) (ex : length x ≡ a) where
  pub part_at : (n : ℕ) → length y ≡ n → part a n (x ++ (y ++ z)) ≡ y
  unfolding part
  part_at n ey = rw (drop_at x (y ++ z) a ex) (take_at y z n ey)

  pub put-at : (s : List ℕ) → length y ≡ length s → put (x ++ (y ++ z)) a s ≡ x ++ (s ++ z)
  unfolding put
  put-at s e =
      let l : length (x ++ y) ≡ a + length s = simp length-append (omega arith) in
      let d : drop (a + length s) (x ++ (y ++ z)) ≡ z = rw (← append_assoc x y z) (drop_at (x ++ y) z (a + length s) l) in
      rw (d, take_at x (y ++ z) a ex) (append_assoc x s z)

-- the words before, the rows bs, and what follows them
pub encode-seam : (front : List ℕ) (bs cs : List (List ℕ)) (pad : List ℕ) → encode front (bs ++ cs) pad ≡ (front ++ cat bs) ++ (cat cs ++ pad)
unfolding encode
encode-seam front bs cs pad = simp (cat-append, append_assoc)

pub encode-row : (front : List ℕ) (bs : List (List ℕ)) (r : List ℕ) (cs : List (List ℕ)) (pad : List ℕ)
    → encode front (bs ++ (r ∷ cs)) pad ≡ (front ++ cat bs) ++ (r ++ (cat cs ++ pad))
unfolding cat
encode-row front bs r cs pad = encode-seam front bs (r ∷ cs) pad ∙ ap (λ (z : List ℕ). (front ++ cat bs) ++ z) (append_assoc r (cat cs) pad)

pub length-encode : (s : ℕ) (front : List ℕ) (rows : List (List ℕ)) (pad : List ℕ) → Each s rows
    → length (encode front rows pad) ≡ length front + length rows * s + length pad
unfolding encode
length-encode s front rows pad e = simp length-append (omega (arith, length-cat s rows e))

-- the count, less its tag
pub untag : (g n : ℕ) → g + n - g ≡ n
untag g n = omega arith

-- where there is no tag, as in the master and in the first form, the count is word 0
pub count-plain : (h : Shape) (t : List ℕ) → h.tag ≡ 0 → count h t ≡ get_or t 0 0
unfolding count
count-plain h t e = omega arith

pub count-encode : (h : Shape) (n : ℕ) (rest : List ℕ) (rows : List (List ℕ)) (pad : List ℕ) → count h (encode ((h.tag + n) ∷ rest) rows pad) ≡ n
unfolding encode count
count-encode h n rest rows pad = untag h.tag n

pub set-count : (n m : ℕ) (rest : List ℕ) (rows : List (List ℕ)) (pad : List ℕ) → set (encode (n ∷ rest) rows pad) 0 m ≡ encode (m ∷ rest) rows pad
unfolding encode
set-count n m rest rows pad = refl

module _ (h : Shape) (front : List ℕ) (eb : h.base ≡ length front) where
  -- where row `length bs` begins
  pub place-length : (bs : List (List ℕ)) → Each h.stride bs → length (front ++ cat bs) ≡ place h (length bs)
  place-length bs hb = simp length-append (omega (arith, length-cat h.stride bs hb))

  -- the row after the rows bs; its key; the word after its key
  module _ (bs : List (List ℕ)) (hb : Each h.stride bs) (r : List ℕ) (hr : length r ≡ h.stride) (cs : List (List ℕ)) (pad : List ℕ) where
    pub row-encode : row h (encode front (bs ++ (r ∷ cs)) pad) (length bs) ≡ r
    unfolding row
    row-encode = rw (encode-row front bs r cs pad) (part_at (front ++ cat bs) r (cat cs ++ pad) (place h (length bs)) (place-length bs hb) h.stride hr)

    pub key-encode : h.width ≤ h.stride → key_at h (encode front (bs ++ (r ∷ cs)) pad) (length bs) ≡ take h.width r
    unfolding key_at row
    key-encode kw = sym (take_part (place h (length bs)) h.width h.stride (encode front (bs ++ (r ∷ cs)) pad) kw) ∙ ap (take h.width) row-encode

    pub block-encode : h.width < h.stride → block_in h (encode front (bs ++ (r ∷ cs)) pad) (length bs) ≡ get_or r h.width 0
    unfolding block_in row
    block-encode kw = sym (get_d_part (place h (length bs)) h.stride h.width (encode front (bs ++ (r ∷ cs)) pad) kw) ∙ ap (λ (z : List ℕ). get_or z h.width 0) row-encode

  -- the same by number
  module _ (rows : List (List ℕ)) (e : Each h.stride rows) (pad : List ℕ) (i : ℕ) (hi : i < length rows) where
    pub row_at : row h (encode front rows pad) i ≡ get_or rows i []
    row_at =
        let s : rows ≡ take i rows ++ (get_or rows i [] ∷ drop (suc i) rows) = split_at rows i [] hi in
        let hs : Each h.stride (take i rows ++ (get_or rows i [] ∷ drop (suc i) rows)) = subst (Each h.stride) s e in
        let l : length (take i rows) ≡ i = length-take-le i rows (omega arith) in
        let q = row-encode (take i rows) (all_left _ (take i rows) _ hs) (get_or rows i []) (all_right _ (take i rows) _ hs).0 (drop (suc i) rows) pad in
        ap (λ (x : List (List ℕ)). row h (encode front x pad) i) s ∙ ap (row h (encode front (take i rows ++ (get_or rows i [] ∷ drop (suc i) rows)) pad)) (sym l) ∙ q

    pub key-at : h.width ≤ h.stride → key_at h (encode front rows pad) i ≡ take h.width (get_or rows i [])
    unfolding key_at row
    key-at kw = sym (take_part (place h i) h.width h.stride (encode front rows pad) kw) ∙ ap (take h.width) row_at

    pub block-at : h.width < h.stride → block_in h (encode front rows pad) i ≡ get_or (get_or rows i []) h.width 0
    unfolding block_in row
    block-at kw = sym (get_d_part (place h i) h.stride h.width (encode front rows pad) kw) ∙ ap (λ (z : List ℕ). get_or z h.width 0) row_at

-- an entry: its key and the block that it names
module _ (h : Shape) (front : List ℕ) (eb : h.base ≡ length front) (es : h.stride ≡ h.width + 1) (bs : List (List ℕ)) (hb : Each h.stride bs)
    (k : List ℕ) (ek : length k ≡ h.width) (b : ℕ) (cs : List (List ℕ)) (pad : List ℕ) where
  pub entry_length : length (k ++ (b ∷ [])) ≡ h.stride
  entry_length = simp length-append (omega arith)

  pub entry_key : key_at h (encode front (bs ++ ((k ++ (b ∷ [])) ∷ cs)) pad) (length bs) ≡ k
  entry_key = key-encode h front eb bs hb (k ++ (b ∷ [])) entry_length cs pad (omega arith) ∙ take_at k (b ∷ []) h.width ek

  pub entry-block : block_in h (encode front (bs ++ ((k ++ (b ∷ [])) ∷ cs)) pad) (length bs) ≡ b
  entry-block = block-encode h front eb bs hb (k ++ (b ∷ [])) entry_length cs pad (omega arith) ∙ get_or_at k b [] 0 h.width ek
