-- Rows shared between two blocks, one after the other from the top down: what has moved, one row more, and the two texts at the end.
use mathlib.Core.Path.{◌≡◌, sym, ap, ◌∙◌}
use mathlib.Core.List.{List, []}
use Prim.Native.Nat.{ℕ, ◌+◌, ◌-◌, ◌*◌, ◌≤◌, ◌<◌}
use native.Mathlib.Decide.{ℕ_discrete}
use native.Mathlib.Omega.{arith}
use lib.ListN.{length, take, drop, length-take, length-drop}
use lib.Seq.{take-take, drop-drop}
use Rattle.words.specs.Words.{part, put}
use Rattle.words.proofs.Parts.{part-all, part-part}
use Rattle.table.specs.Tables.{replaced, laid}
use Rattle.table.proofs.Places.{row-le, row_lt, row_next}
use Rattle.table.proofs.Lengths.{length-laid}
use Rattle.drum.specs.Blocks.{block_at, put_block}
use Rattle.drum.specs.Inside.{HasBlock}
use Rattle.drum.proofs.Blocks.{length-block, block-still}
use Rattle.drum.proofs.Lent.{held, changed-twice}
use Rattle.split.specs.declared.Cut.{Cut}
use Rattle.split.specs.Cuts.{Shares, HasRow, all_rows, more_row, lower, upper}
use Rattle.split.proofs.Laid.{laying, laying-none, length-laying, laying-below, laying-all, laying-row, laying-laid}
use Rattle.split.proofs.Taken.{wide, all_words_lem, words-before, behind-start, row-length, taken-itself, taken-behind}
use Rattle.split.proofs.Halves.{full-most, rows-off}

-- the words of the rows that stay, and of those that leave
abbrev pub stay : Cut → ℕ → List ℕ → List ℕ → List ℕ
stay x low row t = take (low * wide x) (all_rows x row t)

abbrev pub leave : Cut → ℕ → List ℕ → List ℕ → List ℕ
leave x low row t = drop (low * wide x) (all_rows x row t)

-- the file with these words in the new block
abbrev pub with_new : Cut → List ℕ → List ℕ → List ℕ
with_new x f u = put_block x.desc f x.new u

-- the rows from row j on are where they go: those from row `low` on in the new block, the others in the buffer
pub record Moved (x : Cut) (low : ℕ) (row f₀ t₀ : List ℕ) (j : ℕ) (f t : List ℕ) : Type 0 where
  pub most : j ≤ x.rows + 1
  pub shares : Shares x low f₀ t₀ row
  pub file-is : f ≡ with_new x f₀ (laying (block_at x.desc f₀ x.new) ((j - low) * wide x) (leave x low row t₀))
  pub text-is : t ≡ laying t₀ (j * wide x) (stay x low row t₀)
  pub file-kept : length f ≡ length f₀
  pub text-kept : length t ≡ length t₀

-- lengths and products that every step needs
record Spans (x : Cut) (low : ℕ) (row f t : List ℕ) : Type 0 where
  base-one : x.shape.base ≡ 1
  room : 1 + x.rows * wide x ≤ length t
  text-words : length t ≡ x.desc.wpb
  block_words : length (block_at x.desc f x.new) ≡ x.desc.wpb
  one-stays : wide x ≤ low * wide x
  low_rows : low * wide x ≤ x.rows * wide x
  staying : length (stay x low row t) ≡ low * wide x
  leaving : length (leave x low row t) ≡ x.rows * wide x + wide x - low * wide x

-- another file as long shares as well
shares-still : (x : Cut) (low : ℕ) (row f g t : List ℕ) → length g ≡ length f → Shares x low f t row → Shares x low g t row
shares-still x low row f g t e sh =
    record {
      fitting = record { good = sh.fitting.good; file-is = e ∙ sh.fitting.file-is; buffer-is = sh.fitting.buffer-is };
      new-least = sh.new-least;
      new-most = sh.new-most;
      low-least = sh.low-least;
      low-most = sh.low-most;
      row-long = sh.row-long;
    }

module _ (x : Cut) (low : ℕ) (row f t : List ℕ) (sh : Shares x low f t row) where
  pub rows-most : x.rows ≤ 4096
  rows-most = full-most x.desc x.shape x.rows x.place sh.fitting.good x.full

  pub tag-few : x.shape.tag ≤ 8192
  tag-few = x.full.tag-most

  pub new-held : HasBlock x.desc f x.new
  new-held = held x.desc f t x.new sh.fitting sh.new-least sh.new-most

  spans : Spans x low row f t
  spans =
      let e = sh.fitting.buffer-is in
      let fit = x.full.rows_fit in
      let h : HasRow x 0 t row = record { good = sh.fitting.good; text-is = e; row-long = sh.row-long; row-most = omega arith } in
      let l = all_words_lem x 0 t row h in
      let m = row-le low x.rows (wide x) sh.low-most in
      record {
        base-one = x.full.base-one;
        room = omega arith;
        text-words = e;
        block_words = length-block x.desc f sh.fitting.file-is x.new (sh.new-least, sh.new-most);
        one-stays = omega (arith, row_lt 0 low (wide x) sh.low-least);
        low_rows = m;
        staying = simp length-take (omega arith);
        leaving = simp length-drop (omega arith);
      }

-- row j of the words that leave, and of those that stay
module _ (x : Cut) (low : ℕ) (row t : List ℕ) (j : ℕ) where
  upper-row : low ≤ j → part ((j - low) * wide x) (wide x) (leave x low row t) ≡ more_row x j row t
  unfolding part
  upper-row l =
      let e : low * wide x + (j - low) * wide x ≡ j * wide x = omega (arith, rows-off j low (wide x) l, row-le low j (wide x) l) in
      ap (take (wide x)) (drop-drop ((j - low) * wide x) (low * wide x) (all_rows x row t) ∙ ap (λ (z : ℕ). drop z (all_rows x row t)) e)

  lower-row : j < low → part (j * wide x) (wide x) (stay x low row t) ≡ more_row x j row t
  unfolding part
  lower-row l =
      let z : 0 + j * wide x ≡ j * wide x = omega arith in
      part-part 0 (low * wide x) (j * wide x) (wide x) (all_rows x row t) (row_lt j low (wide x) l) ∙ ap (λ (y : ℕ). take (wide x) (drop y (all_rows x row t))) z

-- at row j, the one before it is next
module _ (x : Cut) (low : ℕ) (row f₀ t₀ : List ℕ) (j : ℕ) (f t : List ℕ) (m : Moved x low row f₀ t₀ j f t) where
  z : Spans x low row f₀ t₀
  z = spans x low row f₀ t₀ m.shares

  pub moved-held : HasBlock x.desc f x.new
  moved-held =
      let h = new-held x low row f₀ t₀ m.shares in
      record { good = h.good; file-is = m.file-kept ∙ h.file-is; least = h.least; most = h.most }

  next_row_lem : (u : List ℕ) → length u ≡ x.desc.wpb → HasRow x (j - 1) u row
  next_row_lem u e =
      let k = m.most in
      record { good = m.shares.fitting.good; text-is = e; row-long = m.shares.row-long; row-most = omega arith }

  pub moved_row : HasRow x (j - 1) t row
  moved_row = next_row_lem t (m.text-kept ∙ z.text-words)

  first-row : HasRow x (j - 1) t₀ row
  first-row = next_row_lem t₀ z.text-words

  pub moved-long : (src : List ℕ) → src ≡ more_row x (j - 1) row t → wide x ≤ length src
  moved-long src e = let l = ap length e ∙ row-length x (j - 1) t row moved_row in omega arith

  pub moved-place : low ≤ j - 1 → x.shape.base + (j - 1 - low) * wide x + wide x ≤ x.desc.wpb
  moved-place l =
      let k = m.most in
      let one = m.shares.low-least in
      omega (arith, z, row_lt (j - 1 - low) x.rows (wide x) (omega arith))

  pub moved-low : 1 + low * wide x ≤ length t
  moved-low = let k = m.text-kept in omega (arith, z)

  -- it goes to the new block
  pub moved-sent : (g src : List ℕ)
      → g ≡ with_new x f
      (replaced (record { base = x.shape.base; stride = wide x; width = wide x; tag = x.shape.tag }) (j - 1 - low) (part 0 (wide x) src)
      (block_at x.desc f x.new))
      → src ≡ more_row x (j - 1) row t → low ≤ j - 1 → length g ≡ length f → Moved x low row f₀ t₀ (j - 1) g t
  unfolding replaced
  moved-sent g src eg es l kept =
      let s : ℕ = wide x in
      let up : List ℕ = leave x low row t₀ in
      let old : List ℕ = block_at x.desc f₀ x.new in
      let q = z in
      let k = m.most in
      let lo = m.shares.low-least in
      let o = rows-off j low s (omega arith) in
      let o₁ = row-le j (x.rows + 1) s k in
      let o₂ = row_next x.rows s in
      let o₃ = row-le low (j - 1) s l in
      let o₄ = row-le (j - 1) j s (omega arith) in
      let o₅ = row-le (j - 1 - low) (j - low) s (omega arith) in
      let same : t ≡ t₀ = m.text-is ∙ laying-none t₀ (stay x low row t₀) (j * s) (omega arith) in
      let row_is : part 0 s src ≡ part ((j - 1 - low) * s) s up = part-all s src (ap length es ∙ row-length x (j - 1) t row moved_row) ∙ es
      ∙ ap (more_row x (j - 1) row) same ∙ sym (upper-row x low row t₀ (j - 1) l) in
      record {
        most = omega arith;
        shares = m.shares;
        file-is =
            changed-twice x.desc f₀ f g x.new (laying old ((j - low) * s) up) (laying old ((j - 1 - low) * s) up) (new-held x low row f₀ t₀ m.shares)
            (length-laying old up ((j - low) * s) (omega arith) (omega arith) ∙ q.block_words)
            (length-laying old up ((j - 1 - low) * s) (omega arith) (omega arith) ∙ q.block_words)
            m.file-is (λ (u : List ℕ). put u (x.shape.base + (j - 1 - low) * s) (part 0 s src)) eg
            (laying-row old up (part 0 s src) x.shape.base s (j - low) (j - 1 - low) q.base-one (omega arith) row_is (omega arith) (omega arith));
        text-is = same ∙ sym (laying-none t₀ (stay x low row t₀) ((j - 1) * s) (omega arith));
        file-kept = kept ∙ m.file-kept;
        text-kept = m.text-kept;
      }

  -- it stays: it is as it was, since no row below has been written over
  still : x.place < j - 1 → j ≤ low → more_row x (j - 1) row t ≡ more_row x (j - 1) row t₀
  still l b =
      let s : ℕ = wide x in
      let a : ℕ = x.shape.base + (j - 1) * s - s in
      let q = z in
      let o₁ = row-le j low s b in
      let o₂ = row-le (j - 1) j s (omega arith) in
      let o₃ = behind-start x (j - 1) t row moved_row l in
      sym (taken-behind x (j - 1) t row moved_row l) ∙ ap (part a s) m.text-is
      ∙ laying-below t₀ (stay x low row t₀) (j * s) (omega arith) (omega arith) a s (omega arith) ∙ taken-behind x (j - 1) t₀ row first-row l

  raised-row : x.place ≤ j - 1 → j ≤ low → more_row x (j - 1) row t ≡ more_row x (j - 1) row t₀
  raised-row a b = by (ℕ_discrete (j - 1) x.place)
    where
      by : Dec (j - 1 ≡ x.place) → more_row x (j - 1) row t ≡ more_row x (j - 1) row t₀
      by (yes e) = sym (taken-itself x (j - 1) t row moved_row a (omega arith)) ∙ taken-itself x (j - 1) t₀ row first-row a (omega arith)
      by (no ne) = still (omega arith) b

  pub moved-raised : (u : List ℕ) → u ≡ replaced x.shape (j - 1) (more_row x (j - 1) row t) t → x.place ≤ j - 1 → j - 1 < low → 1 ≤ j → length u ≡ length t
      → Moved x low row f₀ t₀ (j - 1) f u
  unfolding replaced
  moved-raised u eu a l one kept =
      let s : ℕ = wide x in
      let q = z in
      let k = m.most in
      let o = row-le j low s (omega arith) in
      let none : j - low ≡ j - 1 - low = omega arith in
      let row_is : more_row x (j - 1) row t ≡ part ((j - 1) * s) s (stay x low row t₀) = raised-row a (omega arith) ∙ sym (lower-row x low row t₀ (j - 1) l) in
      record {
        most = omega arith;
        shares = m.shares;
        file-is = m.file-is ∙ ap (λ (y : ℕ). with_new x f₀ (laying (block_at x.desc f₀ x.new) (y * s) (leave x low row t₀))) none;
        text-is = eu ∙ ap (λ (y : List ℕ). put y (x.shape.base + (j - 1) * s) (more_row x (j - 1) row t)) m.text-is
            ∙ laying-row t₀ (stay x low row t₀) (more_row x (j - 1) row t) x.shape.base s j (j - 1) q.base-one (omega arith) row_is
            (omega arith) (omega arith);
        file-kept = m.file-kept;
        text-kept = kept ∙ m.text-kept;
      }

  -- all have moved: the text that stays
  pub moved-text : (u : List ℕ) → u ≡ laid (length t) (x.shape.tag + low) (part 1 (low * wide x) t) → j ≤ low → j ≤ x.place
      → u ≡ lower x low (part 0 (wide x) row) t₀
  unfolding part
  moved-text u e l k =
      let s : ℕ = wide x in
      let q = z in
      let o₁ = row-le j low s l in
      let o₂ = row-le j x.place s k in
      let below : take (j * s) (stay x low row t₀) ≡ part 1 (j * s) t₀ = take-take (j * s) (low * s) (all_rows x row t₀) o₁
      ∙ words-before x (j - 1) t₀ row first-row 0 (j * s) (omega arith) in
      e ∙ ap (λ (w : ℕ). laid w (x.shape.tag + low) (part 1 (low * s) t)) (m.text-kept ∙ q.text-words)
      ∙ ap (laid x.desc.wpb (x.shape.tag + low))
      (ap (part 1 (low * s)) m.text-is ∙ ap (λ (n : ℕ). part 1 n (laying t₀ (j * s) (stay x low row t₀))) (sym q.staying)
      ∙ laying-all t₀ (stay x low row t₀) (j * s) (omega arith) (omega arith) below)

  -- and the text that leaves
  pub moved-file : (f₁ : List ℕ) → f₀ ≡ with_new x f₁ (laid x.desc.wpb (x.shape.tag + (x.rows + 1 - low)) []) → length f₁ ≡ length f₀
      → j ≤ low
      → f ≡ with_new x f₁ (upper x low (part 0 (wide x) row) t₀)
  moved-file f₁ e k l =
      let w : ℕ = x.desc.wpb in
      let c : ℕ = x.shape.tag + (x.rows + 1 - low) in
      let up : List ℕ = leave x low row t₀ in
      let q = z in
      let fits : 1 + length up ≤ w = omega arith in
      let none : j - low ≡ 0 = omega arith in
      let zero : (j - low) * wide x ≡ 0 = ap (λ (y : ℕ). y * wide x) none ∙ omega arith in
      changed-twice x.desc f₁ f₀ f x.new (laid w c []) (laid w c up) (new-held x low row f₁ t₀ (shares-still x low row f₀ f₁ t₀ k m.shares))
      (length-laid w c [] (omega arith)) (length-laid w c up fits) e (λ (u : List ℕ). laying u ((j - low) * wide x) up) m.file-is
      (ap (λ (y : ℕ). laying (laid w c []) y up) zero ∙ laying-laid w c up fits)

-- no row has moved yet
pub moved-start : (x : Cut) (low : ℕ) (row f t g : List ℕ) → Shares x low f t row → length g ≡ length f
    → Moved x low row g t (x.rows + 1) g t
moved-start x low row f t g from e =
    let s : ℕ = wide x in
    let new = shares-still x low row f g t e from in
    let q = spans x low row g t new in
    let n = row_next x.rows s in
    let m = from.low-most in
    let o = rows-off (x.rows + 1) low s (omega arith) in
    record {
      most = omega arith;
      shares = new;
      file-is =
          sym
          (ap (with_new x g) (laying-none (block_at x.desc g x.new) (leave x low row t) ((x.rows + 1 - low) * s) (omega arith))
          ∙ block-still x.desc g new.fitting.file-is x.new (from.new-least, from.new-most));
      text-is = sym (laying-none t (stay x low row t) ((x.rows + 1) * s) (omega arith));
      file-kept = omega arith;
      text-kept = omega arith;
    }
