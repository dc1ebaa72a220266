-- What a well-formed file is, and that a change at one spot of the tree keeps it so.
use Prim.Native.Nat.{ℕ, zero, suc, ◌+◌, ◌*◌, ◌-◌, ◌≤◌}
use mathlib.Core.Bool.{Bool, true, false, ◌&&◌}
use mathlib.Core.Path.{◌≡◌, refl, ◌∙◌}
use mathlib.Core.List.{List, [], ◌∷◌, ◌++◌, map}
use native.Mathlib.Omega.{arith}
use lib.Dec.{leb}
use lib.ListN.{length}
use Rattle.drum.specs.declared.Description.{Description}
use Rattle.drum.specs.Blocks.{free_text}
use Rattle.drum.specs.Params.{D, I, master_size}
use Rattle.words.specs.Keys.{ones, val}
use Rattle.words.specs.Words.{zeros, all_words}
use Rattle.demands.proofs.Lists.{All, all_append, all_left, all_right}
use Rattle.demands.proofs.Rows.{tab}
use Rattle.demands.proofs.Cells.{Cell, bit, weigh-append, SameCells, cell_times, Agree, wrotes, rewrite-agree, rewrite-times}
use Rattle.layout.specs.Tree.{Leaf, Section}
use Rattle.demands.proofs.Trees.{leaves_in, leaves_in-append, reach, Ranged, ranged-swap, reach-swap, cells_of, cells-append}

-- the blocks not in use: the chain, and the lowest number never used with how many there are from it on
pub record Free : Type 0 where
  pub chain : List ℕ
  pub lowest : ℕ
  pub spare : ℕ

abbrev pub head_or : List ℕ → ℕ → ℕ
head_or [] d = d
head_or (c ∷ cs) d = c

abbrev pub last_bound : List ℕ → List Leaf → List ℕ
last_bound d [] = d
last_bound d (l ∷ ls) = last_bound l.bound ls

-- 1 for the number of a block of the file, else 0
unfoldable pub inside : ℕ → ℕ → ℕ
inside n b = bit (leb 1 b && leb b n)

pub inside-le : (n b : ℕ) → inside n b ≤ 1
unfolding inside
inside-le n b = go (leb 1 b && leb b n)
  where
    go : (t : Bool) → bit t ≤ 1
    go true = omega arith
    go false = omega arith

-- "none is above 262143"
abbrev pub Wide : List ℕ → Type 0
Wide ws = all_words ws ≡ true

module _ (p : Description) where
  abbrev pub chain_cells : List ℕ → List Cell
  chain_cells [] = []
  chain_cells (c ∷ cs) = (c, free_text p (head_or cs 0)) ∷ chain_cells cs

  abbrev pub fresh_cells : ℕ → ℕ → List Cell
  fresh_cells f zero = []
  fresh_cells f (suc n) = (f, zeros p.wpb) ∷ fresh_cells (f + 1) n

  unfoldable pub free_cells : Free → List Cell
  free_cells f = chain_cells f.chain ++ fresh_cells f.lowest f.spare

  unfoldable pub master_entry : Section → List ℕ
  master_entry s = last_bound [] s.leaves ++ (s.block ∷ [])

  -- the master's words: of the entries, and of words 1 and 2
  unfoldable pub master_words : List (List ℕ) → ℕ → ℕ → List ℕ
  master_words rows head lowest = tab (head ∷ lowest ∷ []) rows (master_size p - (3 + length rows * (p.k + 1))) []

  unfoldable pub master_for : List Section → Free → List ℕ
  master_for ss f = master_words (map master_entry ss) (head_or f.chain 0) f.lowest

  abbrev pub RowOk : List ℕ → Type 0
  RowOk r = (length r ≡ p.wpr) × Wide r

  pub record LeafFits (l : Leaf) : Type 0 where
    pub some : 1 ≤ length l.records
    pub room : length l.records ≤ D p
    pub rows : All RowOk l.records
    pub bound : length l.bound ≡ p.k
    pub wide : Wide l.bound

  pub record SectionOk (s : Section) : Type 0 where
    pub some : 1 ≤ length s.leaves
    pub room : length s.leaves ≤ I p
    pub leaves : All LeafFits s.leaves

  pub record HoldsCells (master : List ℕ) (text : ℕ → List ℕ) (ss : List Section) (f : Free) : Type 0 where
    pub master-is : master ≡ master_for ss f
    pub agree : Agree text (cells_of p ss ++ free_cells f)
    pub once : (b : ℕ) → cell_times b (cells_of p ss ++ free_cells f) ≡ inside p.n b
    pub ranged : Ranged p.k 0 (leaves_in ss)
    pub top : reach p.k 0 (leaves_in ss) ≡ suc (val (ones p.k))
    pub sized : All SectionOk ss
    pub sections : length ss ≤ p.control
    pub numbers : f.lowest + f.spare ≡ suc p.n

  -- ---- some sections give way to others: `old` and `ws` are the cells that are written, before and after, and `keep` the others of the place

  module _ (bs ms cs : List Section) (f : Free) (master : List ℕ) (text : ℕ → List ℕ) (h : HoldsCells master text (bs ++ (ms ++ cs)) f) where
    pub region : (ms' : List Section) (f' : Free) (old keep ws : List Cell)
        → SameCells (cells_of p ms ++ free_cells f) (old ++ keep) → SameCells (cells_of p ms' ++ free_cells f') (ws ++ keep)
        → ((b : ℕ) → cell_times b ws ≡ cell_times b old)
        → Ranged p.k (reach p.k 0 (leaves_in bs)) (leaves_in ms')
        → reach p.k (reach p.k 0 (leaves_in bs)) (leaves_in ms') ≡ reach p.k (reach p.k 0 (leaves_in bs)) (leaves_in ms)
        → All SectionOk ms' → length (bs ++ (ms' ++ cs)) ≤ p.control → f'.lowest + f'.spare ≡ f.lowest + f.spare
        → HoldsCells (master_for (bs ++ (ms' ++ cs)) f') (wrotes text ws) (bs ++ (ms' ++ cs)) f'
    region ms' f' old keep ws was will moved g e ok sec num =
        let W : Description = p in
        let others : List Cell = cells_of W bs ++ cells_of W cs in
        let now : SameCells (cells_of W (bs ++ (ms ++ cs)) ++ free_cells f) (old ++ (keep ++ others))
        = λ w. simp (cells-append, weigh-append) (omega (arith, weigh-append w (cells_of W ms) (free_cells f), weigh-append w old keep, was w)) in
        let then : SameCells (cells_of W (bs ++ (ms' ++ cs)) ++ free_cells f') (ws ++ (keep ++ others))
        = λ w. simp (cells-append, weigh-append) (omega (arith, weigh-append w (cells_of W ms') (free_cells f'), weigh-append w ws keep, will w)) in
        let split : leaves_in (bs ++ (ms ++ cs)) ≡ leaves_in bs ++ (leaves_in ms ++ leaves_in cs) = simp leaves_in-append in
        let split' : leaves_in (bs ++ (ms' ++ cs)) ≡ leaves_in bs ++ (leaves_in ms' ++ leaves_in cs) = simp leaves_in-append in
        record {
          master-is = refl;
          agree = rewrite-agree text _ _ old (keep ++ others) ws now then moved (λ b. omega (arith, h.once b, inside-le p.n b)) h.agree;
          once = λ b. rewrite-times text _ _ old (keep ++ others) ws now then moved b ∙ h.once b;
          ranged = rw split' (ranged-swap p.k 0 (leaves_in bs) (leaves_in ms) (leaves_in ms') (leaves_in cs) (rw split at h.ranged) g e);
          top = rw split' (reach-swap p.k 0 (leaves_in bs) (leaves_in ms) (leaves_in ms') (leaves_in cs) e ∙ rw split at h.top);
          sized =
              all_append SectionOk bs _ (all_left SectionOk bs _ h.sized)
              (all_append SectionOk ms' _ ok (all_right SectionOk ms _ (all_right SectionOk bs _ h.sized)));
          sections = sec;
          numbers = num ∙ h.numbers;
        }
