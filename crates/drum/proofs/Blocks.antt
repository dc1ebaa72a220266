-- Laws of blocks: where they lie, a block read after it was written, other blocks and the master unchanged; lengths of current texts.
use mathlib.Core.Path.{◌≡◌, sym, ap, ◌∙◌}
use mathlib.Core.Bool.{true}
use mathlib.Core.List.{List, [], ◌∷◌}
use Prim.Native.Nat.{ℕ, ◌+◌, ◌-◌, ◌≤◌, ◌<◌}
use native.Mathlib.Decide.{dec_lt, ℕ_discrete}
use native.Mathlib.Omega.{arith}
use borrow.Author.Tests.{eq-eqb, ne_eqb}
use borrow.Rule.Slice.PartMut.{put_mid}
use lib.ListN.{length, get_or, set, length-set, length-replicate}
use Rattle.words.specs.Words.{part, put}
use Rattle.words.proofs.Parts.{length_part, length-put, part-put-before, part-put-after, part-written, part-set-before, get_or-put-before, put-swap, put-over, put-part, set-put, mid-put}
use Rattle.table.specs.Tables.{laid}
use Rattle.table.proofs.Places.{row_lt, row_next}
use Rattle.drum.specs.declared.Description.{Description}
use Rattle.drum.specs.Params.{master_size, file_size, start, good_params}
use Rattle.drum.specs.Blocks.{block_at, put_block, free_text, Texts, text_of, Fitting, Block}
use Rattle.drum.proofs.Good.{caps}

-- a block lies in the file, behind the master; one after the other
pub block_within : (p : Description) (b : ℕ) → Block p b → (master_size p ≤ start p b) × (start p b + p.wpb ≤ file_size p)
unfolding start file_size
block_within p b h =
    let e = row_lt (b - 1) p.n p.wpb (omega arith) in
    (omega arith, omega arith)

pub block-before : (p : Description) (i j : ℕ) → 1 ≤ i → i < j → start p i + p.wpb ≤ start p j
unfolding start
block-before p i j l h =
    let e = row_lt (i - 1) (j - 1) p.wpb (omega arith) in
    omega arith

pub start-next : (p : Description) (b : ℕ) → 1 ≤ b → start p (b + 1) ≡ start p b + p.wpb
unfolding start
start-next p b l =
    let e : b + 1 - 1 ≡ b - 1 + 1 = omega arith in
    rw (e, row_next) (omega arith)

pub start-after : (p : Description) (b : ℕ) → master_size p ≤ start p b
unfolding start
start-after p b = omega arith

module _ (p : Description) (f : List ℕ) (hf : length f ≡ file_size p) where
  pub length-block : (b : ℕ) → Block p b → length (block_at p f b) ≡ p.wpb
  unfolding block_at
  length-block b h =
      let w = block_within p b h in
      length_part (start p b) p.wpb f (omega arith)

  -- writing what stands there
  pub block-still : (b : ℕ) → Block p b → put_block p f b (block_at p f b) ≡ f
  unfolding put_block block_at
  block-still b h =
      let w = block_within p b h in
      put-part f (start p b) p.wpb (omega arith)

  -- the blocks are not changed by a change of the master
  pub block-put : (a : ℕ) (s : List ℕ) (b : ℕ) → a + length s ≤ master_size p → Block p b → block_at p (put f a s) b ≡ block_at p f b
  unfolding block_at
  block-put a s b m h =
      let w = block_within p b h in
      part-put-after f a s (start p b) p.wpb (omega arith) (omega arith)

  module _ (b : ℕ) (h : Block p b) (t : List ℕ) (ht : length t ≡ p.wpb) where
    pub length-put_block : length (put_block p f b t) ≡ file_size p
    unfolding put_block
    length-put_block =
        let w = block_within p b h in
        length-put f (start p b) t (omega arith) ∙ hf

    pub block_same : block_at p (put_block p f b t) b ≡ t
    unfolding block_at put_block
    block_same =
        let w = block_within p b h in
        part-written f (start p b) p.wpb t ht (omega arith)

    pub block-other : (x : ℕ) → Block p x → (x ≡ b → ⊥) → block_at p (put_block p f b t) x ≡ block_at p f x
    unfolding block_at put_block
    block-other x hx ne = by (dec_lt x b)
      where
        by : Dec (x < b) → part (start p x) p.wpb (put f (start p b) t) ≡ part (start p x) p.wpb f
        by (yes l) =
            let w = block_within p b h in
            part-put-before f (start p b) t (start p x) p.wpb (block-before p x b hx.0 l) (omega arith)
        by (no l) =
            let w = block_within p x hx in
            let e = block-before p b x h.0 (omega arith) in
            part-put-after f (start p b) t (start p x) p.wpb (omega arith) (omega arith)

    -- the later of two writes of a block stands; writes of two blocks may change places
    pub block-over : (u : List ℕ) → length u ≡ p.wpb → put_block p (put_block p f b t) b u ≡ put_block p f b u
    unfolding put_block
    block-over u hu =
        let w = block_within p b h in
        put-over f (start p b) t u (omega arith) (omega arith)

    pub block-swap : (x : ℕ) → Block p x → (u : List ℕ) → length u ≡ p.wpb → (b ≡ x → ⊥) → put_block p (put_block p f b t) x u ≡ put_block p (put_block p f x u) b t
    unfolding put_block
    block-swap x hx u hu ne = by (dec_lt b x)
      where
        by : Dec (b < x) → put (put f (start p b) t) (start p x) u ≡ put (put f (start p x) u) (start p b) t
        by (yes l) =
            let w = block_within p x hx in
            let e = block-before p b x h.0 l in
            put-swap f (start p b) t (start p x) u (omega arith) (omega arith)
        by (no l) =
            let w = block_within p b h in
            let e = block-before p x b hx.0 (omega arith) in
            sym (put-swap f (start p x) u (start p b) t (omega arith) (omega arith))

    -- the master is not changed by a block written
    pub master-word : (i : ℕ) → i < master_size p → get_or (put_block p f b t) i 0 ≡ get_or f i 0
    unfolding put_block
    master-word i m =
        let w = block_within p b h in
        get_or-put-before f (start p b) t i (omega arith) (omega arith)

    pub master-part : (a n : ℕ) → a + n ≤ master_size p → part a n (put_block p f b t) ≡ part a n f
    unfolding put_block
    master-part a n m =
        let w = block_within p b h in
        part-put-before f (start p b) t a n (omega arith) (omega arith)

    -- a change of the master may come before or after
    pub master-put : (a : ℕ) (s : List ℕ) → a + length s ≤ master_size p → put_block p (put f a s) b t ≡ put (put_block p f b t) a s
    unfolding put_block
    master-put a s m =
        let w = block_within p b h in
        put-swap f a s (start p b) t (omega arith) (omega arith)

    pub master-set : (i x : ℕ) → i < master_size p → put_block p (set f i x) b t ≡ set (put_block p f b t) i x
    master-set i x m =
        let w = block_within p b h in
        let l = length-put_block in
        rw (set-put f i x (omega arith), set-put (put_block p f b t) i x (omega arith)) (master-put i (x ∷ []) (omega arith))

pub block-set : (p : Description) (f : List ℕ) (i x b : ℕ) → i < master_size p → block_at p (set f i x) b ≡ block_at p f b
unfolding block_at
block-set p f i x b m =
    let w = start-after p b in
    part-set-before f i x (start p b) p.wpb (omega arith)

-- a block lent as `&mut file[a..e]` and back
pub lent-block : (p : Description) (f t : List ℕ) (b a k : ℕ) → a ≡ start p b → k ≡ p.wpb → length t ≡ p.wpb → put_mid a k f t ≡ put_block p f b t
unfolding put_block
lent-block p f t b a k e g h = mid-put a k f t (h ∙ sym g) ∙ ap (λ (x : ℕ). put f x t) e

-- "Current text of a block: the buffer if it is the current block, else the file."
pub text-current : (v : Texts) (b : ℕ) → b ≡ v.current → text_of v b ≡ v.buffer
unfolding text_of
text-current v b e = rw (eq-eqb b v.current e)

pub text-other : (v : Texts) (b : ℕ) → (b ≡ v.current → ⊥) → text_of v b ≡ block_at v.desc v.file b
unfolding text_of
text-other v b n = rw (ne_eqb b v.current n)

pub length-text_of : (v : Texts) (b : ℕ) → Fitting v.desc v.file v.buffer → Block v.desc b → length (text_of v b) ≡ v.desc.wpb
length-text_of v b g h = by (ℕ_discrete b v.current)
  where
    by : Dec (b ≡ v.current) → length (text_of v b) ≡ v.desc.wpb
    by (yes e) = ap length (text-current v b e) ∙ g.buffer-is
    by (no n) = ap length (text-other v b n) ∙ length-block v.desc v.file g.file-is b h

pub length-free_text : (p : Description) (link : ℕ) → good_params p ≡ true → length (free_text p link) ≡ p.wpb
unfolding free_text laid
length-free_text p link h =
    let g = caps p h in
    simp (length-set, length-replicate) (omega arith)
