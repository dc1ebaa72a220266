-- A full block divided: what its calls ask and leave.
use mathlib.Core.Path.{◌≡◌, ap, ◌∙◌}
use mathlib.Core.List.{List, [], ◌∷◌, ◌++◌}
use Prim.Native.Nat.{ℕ, ◌+◌, ◌-◌, ◌*◌, ◌≤◌, ◌<◌}
use native.Mathlib.Omega.{arith}
use mir.Syntax.{w64}
use mir.Val.{Fits}
use lib.ListN.{length}
use Rattle.words.specs.Words.{part}
use Rattle.words.proofs.Parts.{length_part}
use Rattle.table.specs.declared.Shape.{Shape}
use Rattle.table.specs.Tables.{place}
use Rattle.table.specs.Splits.{low_count, renamed}
use Rattle.table.proofs.Places.{row_lt}
use Rattle.table.proofs.Lengths.{low-least, low-most}
use Rattle.drum.specs.declared.Description.{Description}
use Rattle.drum.specs.Blocks.{Fitting, block_at, put_block}
use Rattle.drum.proofs.Good.{caps}
use Rattle.split.specs.declared.Cut.{Cut}
use Rattle.split.specs.Halves.{FullTable, staying, leaving, halved, low_entry}
use Rattle.split.specs.Cuts.{Shares, Divides, DividesIn}
use Rattle.split.proofs.Halves.{full-most, halved-by, low-entry-by}

-- the lower half of the rows and one more
pub rows-most : (x : Cut) (f b row entry : List ℕ) → Divides x f b row entry → x.rows ≤ 4096
rows-most x f b row entry h = full-most x.desc x.shape x.rows x.place h.fitting.good x.full

pub shares-low : (x : Cut) (low : ℕ) (f b row entry : List ℕ) → low ≡ low_count x.rows → Divides x f b row entry → Shares x low f b row
shares-low x low f b row entry e h =
    let two = x.full.rows-least in
    record {
      fitting = h.fitting;
      new-least = h.new-least;
      new-most = h.new-most;
      low-least = rw e (low-least x.rows);
      low-most = rw e (low-most x.rows (omega arith));
      row-long = h.row-long;
    }

pub old-small : (x : Cut) (f b row entry : List ℕ) → Divides x f b row entry → x.old ≤ 262143
old-small x f b row entry h =
    let g = caps x.desc h.fitting.good in
    let q = g.facts in
    let m = h.old-most in
    omega arith

-- file and buffer keep their lengths
pub still-fits : (p : Description) (f g b t : List ℕ) → length g ≡ length f → length t ≡ length b → Fitting p f b → Fitting p g t
still-fits p f g b t ef eb h = record { good = h.good; file-is = ef ∙ h.file-is; buffer-is = eb ∙ h.buffer-is }

module _ (p : Description) (h : Shape) (n i low : ℕ) (f b : List ℕ) (full : FullTable p h n i) (fit : Fitting p f b) (e : low ≡ low_count n) where
  -- the last row that stays lies in the block
  last_end : h.base + (low - 1) * h.stride + h.stride ≤ p.wpb
  last_end =
      let two = full.rows-least in
      let o = full.base-one in
      let w = full.rows_fit in
      omega (arith, row_lt (low - 1) n h.stride (omega arith))

  pub last_fits : Fits w64 ((low - 1) * h.stride)
  last_fits =
      let l = last_end in
      let g = caps p fit.good in
      let q = g.facts in
      omega arith

  pub last-place-fits : Fits w64 (h.base + (low - 1) * h.stride)
  last-place-fits =
      let l = last_end in
      let g = caps p fit.good in
      let q = g.facts in
      omega arith

  pub last-key-end : (t : List ℕ) → h.width ≤ h.stride → length t ≡ length b → h.base + (low - 1) * h.stride + h.width ≤ length t
  last-key-end t w k =
      let l = last_end in
      let q = fit.buffer-is in
      omega arith

  -- the halves, and the entry
  module _ (row b₁ : List ℕ) (eb : b₁ ≡ staying p.wpb h n low i (part 0 h.stride row) b) (k : h.stride ≤ length row) where
    pub halved-told : (old new : ℕ) (f₁ f₂ : List ℕ) → f₂ ≡ put_block p f₁ old b₁
        → f₁ ≡ put_block p f new (leaving p.wpb h n low i (part 0 h.stride row) b)
        → 1 ≤ old → old ≤ p.n → 1 ≤ new → new ≤ p.n → (old ≡ new → ⊥) → f₂ ≡ halved p h n i (part 0 h.stride row) b old new f
    halved-told old new f₁ f₂ e₂ e₁ a c d g ne =
        let r = part 0 h.stride row in
        let hr = length_part 0 h.stride row (omega arith) in
        halved-by p h n i full b r fit.buffer-is hr low e b₁ eb f f₁ f₂ old new fit.file-is (a, c) (d, g) ne e₁ e₂

    pub entry-told : (old : ℕ) (s : List ℕ) → s ≡ part (h.base + (low - 1) * h.stride) h.width b₁ ++ (old ∷ [])
        → s ≡ low_entry p h n i (part 0 h.stride row) b old
    entry-told old s q =
        let r = part 0 h.stride row in
        let hr = length_part 0 h.stride row (omega arith) in
        low-entry-by p h n i full b r fit.buffer-is hr low e b₁ eb s old q

-- an entry of a full block, which is then divided
pub cut-entry-end : (x : Cut) (b : ℕ) (f t row entry : List ℕ) → DividesIn x b f t row entry → place x.shape x.place + x.shape.width < length t
cut-entry-end x b f t row entry h =
    let full = x.full in
    let fit = h.divides.fitting in
    let r = row_lt x.place x.rows x.shape.stride h.below in
    let o = full.base-one in
    let w = full.rows_fit in
    let q = fit.buffer-is in
    let k = h.named in
    omega arith

pub divides-still : (x : Cut) (b : ℕ) (f t t₁ t₂ row entry : List ℕ) → length t₂ ≡ length t₁ → length t₁ ≡ length t → DividesIn x b f t row entry
    → Divides x f t₂ row entry
divides-still x b f t t₁ t₂ row entry e₂ e₁ h =
    let d = h.divides in
    record {
      fitting = still-fits x.desc f f t t₂ (omega arith) (e₂ ∙ e₁) d.fitting;
      old-least = d.old-least;
      old-most = d.old-most;
      new-least = d.new-least;
      new-most = d.new-most;
      apart = d.apart;
      key-within = d.key-within;
      row-long = d.row-long;
      entry-long = d.entry-long;
    }

module _ (p : Description) (h : Shape) (n i b old : ℕ) (f t₁ t₂ r : List ℕ) (e₂ : t₂ ≡ renamed h i b t₁) (e₁ : t₁ ≡ block_at p f old) where
  renamed-is : t₂ ≡ renamed h i b (block_at p f old)
  renamed-is = e₂ ∙ ap (renamed h i b) e₁

  pub halved-in : (new : ℕ) (g : List ℕ) → g ≡ halved p h n i r t₂ old new f → g ≡ halved p h n i r (renamed h i b (block_at p f old)) old new f
  halved-in new g q = q ∙ ap (λ (t : List ℕ). halved p h n i r t old new f) renamed-is

  pub entry_in : (s : List ℕ) → s ≡ low_entry p h n i r t₂ old → s ≡ low_entry p h n i r (renamed h i b (block_at p f old)) old
  entry_in s q = q ∙ ap (λ (t : List ℕ). low_entry p h n i r t old) renamed-is
