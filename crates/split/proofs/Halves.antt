-- The two halves of a split in their blocks, and the entry of the one that stays, by the calls that leave them.
use mathlib.Core.Path.{◌≡◌, sym, ap, ◌∙◌}
use mathlib.Core.Bool.{true}
use mathlib.Core.List.{List, [], ◌∷◌, ◌++◌}
use Prim.Native.Nat.{ℕ, ◌+◌, ◌-◌, ◌*◌, ◌≤◌}
use native.Mathlib.Nat.{mul-le-mul_left, add-mul}
use native.Mathlib.Omega.{arith}
use lib.ListN.{length}
use Rattle.words.specs.Words.{part}
use Rattle.table.specs.declared.Shape.{Shape}
use Rattle.table.specs.Tables.{place, key_at}
use Rattle.table.specs.Splits.{low_count, low_text, high_text, low_bound}
use Rattle.table.proofs.Lengths.{length-low, length_high}
use Rattle.drum.specs.declared.Description.{Description}
use Rattle.drum.specs.Params.{file_size, good_params}
use Rattle.drum.specs.Blocks.{Block, put_block}
use Rattle.drum.proofs.Good.{caps}
use Rattle.drum.proofs.Blocks.{block-swap}
use Rattle.split.specs.Halves.{FullTable, staying, leaving, halved, low_entry}

-- a full block has few rows
pub full-most : (p : Description) (h : Shape) (n i : ℕ) → good_params p ≡ true → FullTable p h n i → n ≤ 4096
full-most p h n i g x =
    let q = caps p g in
    let m = mul-le-mul_left n x.stride-least in
    let f = x.rows_fit in
    omega arith

-- rows taken off
pub rows-off : (a b s : ℕ) → b ≤ a → (a - b) * s ≡ a * s - b * s
rows-off a b s h =
    let e : a ≡ b + (a - b) = omega arith in
    let d : a * s ≡ b * s + (a - b) * s = ap (λ (x : ℕ). x * s) e ∙ add-mul b (a - b) s in
    omega arith

-- the halves in their blocks, and the entry, by the calls that leave them
module _ (p : Description) (h : Shape) (n i : ℕ) (x : FullTable p h n i) (t r : List ℕ) (ht : length t ≡ p.wpb) (hr : length r ≡ h.stride) (low : ℕ)
    (el : low ≡ low_count n)
    (b₁ : List ℕ) (eb : b₁ ≡ staying p.wpb h n low i r t) where
  pub kept_low : b₁ ≡ low_text p.wpb h n i r t
  unfolding low_text
  kept_low = eb ∙ ap (λ (c : ℕ). staying p.wpb h n c i r t) el

  pub halved-by : (f f₁ f₂ : List ℕ) (old new : ℕ) → length f ≡ file_size p → Block p old → Block p new → (old ≡ new → ⊥)
      → f₁ ≡ put_block p f new (leaving p.wpb h n low i r t) → f₂ ≡ put_block p f₁ old b₁ → f₂ ≡ halved p h n i r t old new f
  unfolding low_text high_text
  halved-by f f₁ f₂ old new hf ho hn ne e₁ e₂ =
      let two = x.rows-least in
      let ll = length-low p.wpb h n i r t (omega arith) hr x.rows_fit in
      let lh = length_high p.wpb h n i r t (omega arith) hr x.rows_fit in
      e₂
      ∙ ap (put_block p f₁ old) kept_low
      ∙ ap (λ (y : List ℕ). put_block p y old (low_text p.wpb h n i r t)) (e₁ ∙ ap (λ (c : ℕ). put_block p f new (leaving p.wpb h n c i r t)) el)
      ∙ sym (block-swap p f hf old ho (low_text p.wpb h n i r t) ll new hn (high_text p.wpb h n i r t) lh ne)

  pub low-entry-by : (e : List ℕ) (old : ℕ) → e ≡ part (place h (low - 1)) h.width b₁ ++ (old ∷ []) → e ≡ low_entry p h n i r t old
  unfolding low_bound key_at
  low-entry-by e old q =
      q ∙ ap (λ (c : ℕ). part (place h (c - 1)) h.width b₁ ++ (old ∷ [])) el
      ∙ ap (λ (y : List ℕ). part (place h (low_count n - 1)) h.width y ++ (old ∷ [])) kept_low
