-- The words that CREATE writes, one after the other over zeros, are the words of a new file.
use mathlib.Core.Path.{◌≡◌, refl, sym, ap, ◌∙◌}
use mathlib.Core.Bool.{true}
use mathlib.Core.List.{List, [], ◌∷◌, ◌++◌, append_assoc}
use Prim.Native.Nat.{ℕ, ◌+◌, ◌*◌, ◌-◌, ◌≤◌, ◌<◌}
use native.Mathlib.Omega.{arith}
use lib.ListN.{length, take, drop, set, replicate, length-set, length-append, length-replicate, replicate-append-replicate}
use lib.Seq.{take_at, drop-append-add}
use borrow.Rule.Slice.PartMut.{put_mid, mid_of}
use Rattle.words.specs.Words.{part, put, top_word, zeros}
use Rattle.words.specs.Keys.{ones}
use Rattle.words.proofs.Parts.{length_part, mid-put, put-snoc, put_all, put-after, set-put, drop-zeros}
use Rattle.table.specs.Tables.{laid}
use Rattle.table.proofs.Places.{row_lt}
use Rattle.drum.specs.declared.Description.{Description}
use Rattle.drum.specs.Params.{good_params, master_size, file_size, start, tag_of, index_kind, detail_kind, index_shape, detail_shape}
use Rattle.drum.proofs.Good.{caps}
use Rattle.drum.proofs.Forms.{tag-most}
use Rattle.layout.specs.Create.{end_record, created, master_on, index_on, detail_on}

-- k words filled with ONES, and the block behind them
pub ones-laid : (t r : List ℕ) (at k : ℕ) → r ≡ replicate (length (mid_of at (at + k - at) t)) top_word → at + k ≤ length t → put_mid at (at + k - at) t r ≡ put t at (ones k)
unfolding part
ones-laid t r at k e h =
    let m : at + k - at ≡ k = omega arith in
    let l : length (part at k t) ≡ k = length_part at k t h in
    let p : r ≡ ones k = rw (m, l) at e in
    rw (m, p) (mid-put at k t (ones k) (length-replicate k top_word))

pub entry-turn : (t t₀ : List ℕ) (at k b : ℕ) → t ≡ put t₀ at (ones k) → at + k + 1 ≤ length t₀ → set t (at + k) b ≡ put t₀ at (ones k ++ (b ∷ []))
entry-turn t t₀ at k b e h =
    let n : length (ones k) ≡ k = length-replicate k top_word in
    let p : at + length (ones k) < length t₀ = omega arith in
    rw e (rw n at (put-snoc t₀ at (ones k) b p))

-- where the first two blocks lie
pub record Begins (p : Description) : Type 0 where
  pub first : start p 1 ≡ master_size p
  pub second : start p 2 ≡ master_size p + p.wpb
  pub master : 4 + p.k ≤ master_size p
  pub room : 2 + p.k ≤ p.wpb
  pub key : p.k ≤ p.wpr
  pub record-lt : p.wpr < p.wpb
  pub two : 2 ≤ p.n
  pub rest : p.n * p.wpb ≡ p.wpb + (p.wpb + (p.n - 2) * p.wpb)
  pub file : file_size p ≡ master_size p + p.n * p.wpb
  pub file-most : file_size p ≤ 1074782148

pub begins : (p : Description) → good_params p ≡ true → Begins p
unfolding start
begins p h =
    let c = caps p h in
    let e = row_lt 0 p.control (p.k + 1) c.facts.control-least in
    let n = c.facts.n-least in
    let m : p.n ≡ p.n - 2 + 2 = omega arith in
    record {
      first = omega arith;
      second = omega arith;
      master = omega arith;
      room = omega arith;
      key = c.facts.key;
      record-lt = c.wpr-lt;
      two = n;
      rest = (λ i. m i * p.wpb) ∙ omega arith;
      file = c.file-is;
      file-most = omega arith;
    }

-- a word and what follows it, written one after the other
word_on : (f s : List ℕ) (a x : ℕ) → a < length f → put (set f a x) (a + 1) s ≡ put f a (x ∷ s)
word_on f s a x h = rw (set-put f a x h) (put-after f a (x ∷ []) s (omega arith))

-- f is the words l, i of them, and m words 0: what is written at word a, behind a gap of g
module _ (f l : List ℕ) (i m g a m' : ℕ) (e : f ≡ l ++ zeros m) (n : length l ≡ i) (j : i + g ≡ a) where
  gap_length : length (l ++ zeros g) ≡ a
  gap_length = simp (length-append, length-replicate) (omega arith)

  put_on : (s : List ℕ) → g + length s + m' ≡ m → put f a s ≡ l ++ zeros g ++ s ++ zeros m'
  unfolding put
  put_on s h =
      let m₁ : m ≡ g + (length s + m') = omega arith in
      let m₂ : length s + m' - length s ≡ m' = omega arith in
      let x : List ℕ = l ++ zeros g in
      let y : List ℕ = zeros (length s + m') in
      let q : f ≡ x ++ y = e ∙ rw (m₁, ← replicate-append-replicate {A = ℕ} g (length s + m') 0, append_assoc) in
      let t : take a (x ++ y) ≡ x = take_at x y a gap_length in
      let d₁ : drop (a + length s) (x ++ y) ≡ drop (length s) y =
      ap (λ (z : ℕ). drop (z + length s) (x ++ y)) (sym gap_length) ∙ drop-append-add x y (length s) in
      let d₂ : drop (length s) y ≡ zeros m' = drop-zeros (length s) (length s + m') ∙ ap (λ (z : ℕ). replicate {A = ℕ} z 0) m₂ in
      rw (q, t, d₁, d₂)

  length-on : (s : List ℕ) (b : ℕ) → a + length s ≡ b → length (l ++ zeros g ++ s) ≡ b
  length-on s b h = length-append (l ++ zeros g) s ∙ ap (λ (z : ℕ). z + length s) gap_length ∙ h

join : (m n : ℕ) → zeros m ++ zeros n ≡ zeros (m + n)
join m n = replicate-append-replicate {A = ℕ} m n 0

ones-length : (k : ℕ) (s : List ℕ) → length (ones k ++ s) ≡ k + length s
ones-length k s = length-append (ones k) s ∙ ap (λ (z : ℕ). z + length s) (length-replicate k top_word)

-- the texts of the first two blocks
module _ (p : Description) (w : Begins p) where
  index-text : (c : ℕ) → laid p.wpb c (ones p.k ++ (2 ∷ [])) ≡ c ∷ (ones p.k ++ (2 ∷ zeros (p.wpb - 2 - p.k)))
  unfolding laid
  index-text c =
      let e : p.wpb - 1 - length (ones p.k ++ (2 ∷ [])) ≡ p.wpb - 2 - p.k = rw (ones-length p.k (2 ∷ [])) (omega arith) in
      rw (e, append_assoc)

  detail-text : (c : ℕ) → laid p.wpb c (end_record p) ++ zeros ((p.n - 2) * p.wpb)
      ≡ c ∷ (ones p.k ++ zeros (p.wpb - 1 - p.k + (p.n - 2) * p.wpb))
  unfolding laid end_record
  detail-text c =
      let z : List ℕ = zeros (p.wpr - p.k) in
      let l : length (ones p.k ++ z) ≡ p.wpr = ones-length p.k z ∙ ap (λ (x : ℕ). p.k + x) (length-replicate (p.wpr - p.k) 0) ∙ omega arith in
      let e : p.wpr - p.k + (p.wpb - 1 - p.wpr) ≡ p.wpb - 1 - p.k = omega arith in
      let x : List ℕ = ones p.k in
      let v : List ℕ = zeros (p.wpb - 1 - p.wpr) in
      let y : List ℕ = zeros ((p.n - 2) * p.wpb) in
      let j : z ++ (v ++ y) ≡ zeros (p.wpb - 1 - p.k + (p.n - 2) * p.wpb) =
      sym (append_assoc z v y)
      ∙ ap (λ (s : List ℕ). s ++ y) (join (p.wpr - p.k) (p.wpb - 1 - p.wpr))
      ∙ ap (λ (i : ℕ). zeros i ++ y) e
      ∙ join (p.wpb - 1 - p.k) ((p.n - 2) * p.wpb) in
      rw l (ap (λ (s : List ℕ). c ∷ s) (append_assoc (x ++ z) v y ∙ append_assoc x z (v ++ y) ∙ ap (λ (s : List ℕ). x ++ s) j))

regroup : (c d : ℕ) (x z₁ z₂ z₃ : List ℕ)
    → (1 ∷ 0 ∷ 3 ∷ (x ++ (1 ∷ []))) ++ z₁ ++ (c ∷ (x ++ (2 ∷ []))) ++ z₂ ++ (d ∷ x) ++ z₃
    ≡ (1 ∷ 0 ∷ 3 ∷ (x ++ (1 ∷ z₁))) ++ ((c ∷ (x ++ (2 ∷ z₂))) ++ (d ∷ (x ++ z₃)))
regroup c d x z₁ z₂ z₃ = simp append_assoc

-- what is written over zeros, in the order of the code: k words of key, m of the master, b of a block, r behind the second block
module _ (k m b r : ℕ) (hm : 4 + k ≤ m) (hb : 2 + k ≤ b) where
  abbrev master : List ℕ
  master = 1 ∷ 0 ∷ 3 ∷ (ones k ++ (1 ∷ []))

  master-on : (f f' : List ℕ) → f ≡ zeros (m + (b + (b + r))) → f' ≡ put (set (set f 0 1) 2 3) 3 (ones k ++ (1 ∷ []))
      → f' ≡ master ++ zeros (m - 4 - k + (b + (b + r)))
  master-on f f' e e' =
      let t : ℕ = m + (b + (b + r)) in
      let s : List ℕ = ones k ++ (1 ∷ []) in
      let n = ones-length k (1 ∷ []) in
      let n₁ : length f ≡ t = ap length e ∙ length-replicate t 0 in
      let a₁ : set f 0 1 ≡ (1 ∷ []) ++ zeros (t - 1) = set-put f 0 1 (omega arith) ∙ put_on f [] 0 t 0 0 (t - 1) e refl refl (1 ∷ []) (omega arith) in
      let n₂ : length (set f 0 1) ≡ t = length-set f 0 1 ∙ n₁ in
      e' ∙ word_on (set f 0 1) s 2 3 (omega arith) ∙ put_on (set f 0 1) (1 ∷ []) 1 (t - 1) 1 2 (m - 4 - k + (b + (b + r))) a₁ refl refl (3 ∷ s) (omega arith)

  -- a block's word 0, c, and rows s, behind l
  block_on : (c : ℕ) (f f' l s : List ℕ) (i g a m' : ℕ) → f ≡ l ++ zeros (g + (1 + length s) + m') → length l ≡ i → i + g ≡ a → f' ≡ put (set f a c) (a + 1) s
      → (f' ≡ l ++ zeros g ++ (c ∷ s) ++ zeros m') × (length (l ++ zeros g ++ (c ∷ s)) ≡ a + 1 + length s)
  block_on c f f' l s i g a m' e n j e' =
      let t : ℕ = g + (1 + length s) + m' in
      let n₁ : length f ≡ i + t = ap length e ∙ length-append l (zeros t) ∙ (λ z. n z + length-replicate {A = ℕ} t 0 z) in (
        e' ∙ word_on f s a c (omega arith) ∙ put_on f l i t g a m' e n j (c ∷ s) (omega arith),
        length-on f l i t g a m' e n j (c ∷ s) (a + 1 + length s) (omega arith),
      )

  all-on : (c d : ℕ) (f f₁ f₂ f₃ : List ℕ) → f ≡ zeros (m + (b + (b + r))) → f₁ ≡ put (set (set f 0 1) 2 3) 3 (ones k ++ (1 ∷ []))
      → f₂ ≡ put (set f₁ m c) (m + 1) (ones k ++ (2 ∷ []))
      → f₃ ≡ put (set f₂ (m + b) d) (m + b + 1) (ones k)
      → f₃ ≡ (1 ∷ 0 ∷ 3 ∷ (ones k ++ (1 ∷ zeros (m - 4 - k)))) ++ ((c ∷ (ones k ++ (2 ∷ zeros (b - 2 - k)))) ++ (d ∷ (ones k ++ zeros (b - 1 - k + r))))
  all-on c d f f₁ f₂ f₃ e e₁ e₂ e₃ =
      let g₁ : ℕ = m - 4 - k in
      let g₂ : ℕ = b - 2 - k in
      let n₀ = ones-length k (1 ∷ []) in
      let n₁ = ones-length k (2 ∷ []) in
      let nk : length (ones k) ≡ k = length-replicate k top_word in
      let t₁ : m - 4 - k + (b + (b + r)) ≡ g₁ + (1 + length (ones k ++ (2 ∷ []))) + (g₂ + (b + r)) = omega arith in
      let t₂ : g₂ + (b + r) ≡ g₂ + (1 + length (ones k)) + (b - 1 - k + r) = omega arith in
      let a₁ = master-on f f₁ e e₁ ∙ ap (λ (z : ℕ). master ++ zeros z) t₁ in
      let (a₂, h₂) = block_on c f₁ f₂ master (ones k ++ (2 ∷ [])) (4 + k) g₁ m (g₂ + (b + r)) a₁ (omega arith) (omega arith) e₂ in
      let l₂ : List ℕ = master ++ zeros g₁ ++ (c ∷ (ones k ++ (2 ∷ []))) in
      let e₂' = a₂ ∙ ap (λ (z : ℕ). l₂ ++ zeros z) t₂ in
      let (a₃, h₃) = block_on d f₂ f₃ l₂ (ones k) (m + 2 + k) g₂ (m + b) (b - 1 - k + r) e₂' (omega arith) (omega arith) e₃ in
      a₃ ∙ regroup c d (ones k) (zeros g₁) (zeros g₂) (zeros (b - 1 - k + r))

-- a word set keeps the length
pub sets-kept : (t t₁ u : List ℕ) (i x j y : ℕ) → length u ≡ length (set (set t₁ i x) j y) → length t₁ ≡ length t → length u ≡ length t
sets-kept t t₁ u i x j y e k = e ∙ length-set (set t₁ i x) j y ∙ length-set t₁ i x ∙ k

-- a block's word 0, and what follows it
pub laid-index : (t t₁ t₂ : List ℕ) (at n k : ℕ) → t₂ ≡ put t₁ (at + 1) (ones k ++ (2 ∷ [])) → t₁ ≡ set t at n → t₂ ≡ index_on at n k t
unfolding index_on
laid-index t t₁ t₂ at n k e₂ e₁ = e₂ ∙ ap (λ (l : List ℕ). put l (at + 1) (ones k ++ (2 ∷ []))) e₁

pub laid-detail : (t t₁ t₂ : List ℕ) (at n k : ℕ) → t₂ ≡ put t₁ (at + 1) (ones k) → t₁ ≡ set t at n → t₂ ≡ detail_on at n k t
unfolding detail_on
laid-detail t t₁ t₂ at n k e₂ e₁ = e₂ ∙ ap (λ (l : List ℕ). put l (at + 1) (ones k)) e₁

-- one part after the other, and the words of a new file
pub laid-master : (t t₁ t₂ : List ℕ) (k : ℕ) → t₂ ≡ put (set (set t₁ 0 1) 2 3) 3 (ones k ++ (1 ∷ [])) → t₁ ≡ put t 0 (zeros (length t))
    → t₂ ≡ master_on k (zeros (length t))
unfolding master_on
laid-master t t₁ t₂ k e₂ e₁ =
    let z : t₁ ≡ zeros (length t) = e₁ ∙ put_all t (zeros (length t)) (length-replicate (length t) 0) in
    e₂ ∙ ap (λ (l : List ℕ). put (set (set l 0 1) 2 3) 3 (ones k ++ (1 ∷ []))) z

pub laid-blocks : (p : Description) (t t₁ t₂ : List ℕ) (first second g h : ℕ) → t₂ ≡ detail_on second (h + 1) p.k t₁ → t₁ ≡ index_on first (g + 1) p.k t
    → g ≡ tag_of p index_kind → h ≡ tag_of p detail_kind
    → t₂ ≡ detail_on second (tag_of p detail_kind + 1) p.k (index_on first (tag_of p index_kind + 1) p.k t)
laid-blocks p t t₁ t₂ first second g h e₂ e₁ eg eh =
    e₂
    ∙ (λ i. detail_on second (eh i + 1) p.k (e₁ i))
    ∙ ap (λ (x : ℕ). detail_on second (tag_of p detail_kind + 1) p.k (index_on first (x + 1) p.k t)) eg

pub laid_out : (p : Description) (f f₁ f₂ : List ℕ) (first second : ℕ)
    → f₂ ≡ detail_on second (tag_of p detail_kind + 1) p.k (index_on first (tag_of p index_kind + 1) p.k f₁)
    → f₁ ≡ master_on p.k (zeros (length f)) → first ≡ start p 1 → second ≡ start p 2 → length f ≡ file_size p → good_params p ≡ true → f₂ ≡ created p
unfolding created master_on index_on detail_on index_shape detail_shape
laid_out p f f₁ f₂ first second e₂ e₁ q₁ q₂ size good =
    let w = begins p good in
    let r : ℕ = (p.n - 2) * p.wpb in
    let t : length f ≡ master_size p + (p.wpb + (p.wpb + r)) = omega arith in
    let e₃ = rw (q₁, q₂, w.first, w.second) at e₂ in
    rw (index-text p w (tag_of p index_kind + 1), detail-text p w (tag_of p detail_kind + 1))
    (all-on p.k (master_size p) p.wpb r w.master w.room (tag_of p index_kind + 1) (tag_of p detail_kind + 1)
    (zeros (length f)) f₁ _ f₂ (ap (λ (n : ℕ). zeros n) t) e₁ refl e₃)

-- a tag as the code has it
pub tag-at-most : (p : Description) (kind g : ℕ) → g ≡ tag_of p kind → g ≤ kind
tag-at-most p kind g e = rw e (tag-most p kind)

-- what is written lies in the file
module _ (p : Description) (good : good_params p ≡ true) where
  pub master-words : 4 + p.k ≤ file_size p
  master-words = let w = begins p good in omega arith

  pub index-words : start p 1 + (2 + p.k) ≤ file_size p
  index-words = let w = begins p good in omega arith

  pub detail-words : start p 2 + (1 + p.k) ≤ file_size p
  detail-words = let w = begins p good in omega arith

  pub two_blocks : 2 ≤ p.n
  two_blocks = (begins p good).two
