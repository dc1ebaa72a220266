-- The blocks of a file: read after write, the master apart from them, and what a list of transfers writes.
use Prim.Native.Nat.{ℕ, ◌*◌, ◌-◌, ◌≤◌}
use mathlib.Core.Path.{◌≡◌, refl, sym, ap, ◌∙◌}
use mathlib.Core.List.{List, [], ◌∷◌, ◌++◌}
use native.Mathlib.Omega.{arith}
use native.Mathlib.Decide.{ℕ_discrete}
use lib.ListN.{length, take, drop, length-drop}
use lib.Seq.{take_at, drop_at, drop-drop}
use Rattle.words.specs.Words.{part}
use Rattle.drum.specs.declared.Description.{Description}
use Rattle.drum.specs.Params.{master_size, file_size, start}
use Rattle.drum.specs.Blocks.{block_at, put_block, Transfer, Read, Write, written}
use Rattle.drum.proofs.Blocks.{length-block, length-put_block, block_same, block-other, master-part}
use Rattle.demands.proofs.Lists.{All}
use Rattle.demands.proofs.Cells.{Cell, is-not, weigh, cell_times, wrote, wrote-same, wrote-other, wrotes}

-- the words of the master, and the file with other ones
unfoldable pub master_of : Description → List ℕ → List ℕ
master_of p f = take (master_size p) f

unfoldable pub behind : Description → List ℕ → List ℕ
behind p f = drop (master_size p) f

module _ (p : Description) (f : List ℕ) (sized : length f ≡ file_size p) (b : ℕ) (low : 1 ≤ b) (high : b ≤ p.n) where
  pub block-length : length (block_at p f b) ≡ p.wpb
  block-length = length-block p f sized b (low, high)

  module _ (t : List ℕ) (ht : length t ≡ p.wpb) where
    pub put-length : length (put_block p f b t) ≡ file_size p
    put-length = length-put_block p f sized b (low, high) t ht

    pub put-block : (c : ℕ) → 1 ≤ c → c ≤ p.n → block_at p (put_block p f b t) c ≡ wrote (block_at p f) b t c
    put-block c hc hn = go (ℕ_discrete c b)
      where
        go : Dec (c ≡ b) → block_at p (put_block p f b t) c ≡ wrote (block_at p f) b t c
        go (yes e) = rw (e, wrote-same (block_at p f) b t) (block_same p f sized b (low, high) t ht)
        go (no n) = rw (wrote-other (block_at p f) b t c n) (block-other p f sized b (low, high) t ht c (hc, hn) n)

    pub put-master : master_of p (put_block p f b t) ≡ master_of p f
    unfolding master_of part
    put-master = master-part p f sized b (low, high) t ht 0 (master_size p) (omega arith)

-- blocks do not depend on the master's words
pub behind-block : (p : Description) (f g : List ℕ) → length f ≡ file_size p → length g ≡ file_size p → behind p f ≡ behind p g → (c : ℕ)
    → block_at p f c ≡ block_at p g c
unfolding behind block_at start part
behind-block p f g lf lg e c =
    ap (take p.wpb) (sym (drop-drop ((c - 1) * p.wpb) (master_size p) f) ∙ ap (drop ((c - 1) * p.wpb)) e ∙ drop-drop ((c - 1) * p.wpb) (master_size p) g)

pub behind-length : (p : Description) (f : List ℕ) → length f ≡ file_size p → length (behind p f) ≡ file_size p - master_size p
unfolding behind
behind-length p f e = length-drop (master_size p) f ∙ ap (λ (n : ℕ). n - master_size p) e

pub master-first : (p : Description) → master_size p ≤ file_size p
unfolding file_size
master-first p = omega arith

-- the file whose master is m: its parts
module _ (p : Description) (m rest : List ℕ) (hm : length m ≡ master_size p) where
  pub master-put : master_of p (m ++ rest) ≡ m
  unfolding master_of
  master-put = take_at m rest (master_size p) hm

  pub behind-put : behind p (m ++ rest) ≡ rest
  unfolding behind
  behind-put = drop_at m rest (master_size p) hm

-- ---- what a list of transfers writes

-- the cells that a list of transfers writes
unfoldable pub cells_written : List Transfer → List Cell
cells_written [] = []
cells_written (Read b ∷ ms) = cells_written ms
cells_written (Write b t ∷ ms) = (b, t) ∷ cells_written ms

pub cells-written-append : (xs ys : List Transfer) → cells_written (xs ++ ys) ≡ cells_written xs ++ cells_written ys
unfolding cells_written
cells-written-append [] ys = refl
cells-written-append (Read b ∷ xs) ys = cells-written-append xs ys
cells-written-append (Write b t ∷ xs) ys = ap (λ (l : List Cell). (b, t) ∷ l) (cells-written-append xs ys)

abbrev pub Fits : Description → Cell → Type 0
Fits p c = (1 ≤ c.0) × (c.0 ≤ p.n) × (length c.1 ≡ p.wpb)

pub wrotes-ext : (ws : List Cell) (t₁ t₂ : ℕ → List ℕ) (c : ℕ) → (cell_times c ws ≡ 0 → t₁ c ≡ t₂ c) → wrotes t₁ ws c ≡ wrotes t₂ ws c
unfolding cell_times weigh
wrotes-ext [] t₁ t₂ c h = h refl
wrotes-ext (w ∷ ws) t₁ t₂ c h = wrotes-ext ws (wrote t₁ w.0 w.1) (wrote t₂ w.0 w.1) c (λ z. go z (ℕ_discrete c w.0))
  where
    go : cell_times c ws ≡ 0 → Dec (c ≡ w.0) → wrote t₁ w.0 w.1 c ≡ wrote t₂ w.0 w.1 c
    go z (yes e) = rw (e, wrote-same t₁ w.0 w.1, wrote-same t₂ w.0 w.1)
    go z (no n) = rw (wrote-other t₁ w.0 w.1 c n, wrote-other t₂ w.0 w.1 c n) (h (omega (arith, z, is-not w.0 c (λ e. n (sym e)))))

pub wrotes-append : (text : ℕ → List ℕ) (xs ys : List Cell) (c : ℕ) → wrotes text (xs ++ ys) c ≡ wrotes (wrotes text xs) ys c
wrotes-append text [] ys c = refl
wrotes-append text (x ∷ xs) ys c = wrotes-append (wrote text x.0 x.1) xs ys c

module _ (p : Description) where
  pub written-length : (ms : List Transfer) (file : List ℕ) → length file ≡ file_size p → All (Fits p) (cells_written ms)
      → length (written p ms file) ≡ file_size p
  unfolding written cells_written
  written-length [] file e h = e
  written-length (Read b ∷ ms) file e h = written-length ms file e h
  written-length (Write b t ∷ ms) file e h = written-length ms (put_block p file b t) (put-length p file e b h.0.0 h.0.1 t h.0.2) h.1

  pub written-master : (ms : List Transfer) (file : List ℕ) → length file ≡ file_size p → All (Fits p) (cells_written ms)
      → master_of p (written p ms file) ≡ master_of p file
  unfolding written cells_written
  written-master [] file e h = refl
  written-master (Read b ∷ ms) file e h = written-master ms file e h
  written-master (Write b t ∷ ms) file e h =
      written-master ms (put_block p file b t) (put-length p file e b h.0.0 h.0.1 t h.0.2) h.1
      ∙ put-master p file e b h.0.0 h.0.1 t h.0.2

  pub written-text : (ms : List Transfer) (file : List ℕ) → length file ≡ file_size p → All (Fits p) (cells_written ms) → (c : ℕ) → 1 ≤ c → c ≤ p.n
      → block_at p (written p ms file) c ≡ wrotes (block_at p file) (cells_written ms) c
  unfolding written cells_written
  written-text [] file e h c l u = refl
  written-text (Read b ∷ ms) file e h c l u = written-text ms file e h c l u
  written-text (Write b t ∷ ms) file e h c l u =
      written-text ms (put_block p file b t) (put-length p file e b h.0.0 h.0.1 t h.0.2) h.1 c l u
      ∙ wrotes-ext (cells_written ms) (block_at p (put_block p file b t)) (wrote (block_at p file) b t) c
      (λ z. put-block p file e b h.0.0 h.0.1 t h.0.2 c l u)
