-- What the code of a split asks and leaves, beside the definitions of a split: a number of rows that stay is not yet chosen.
use Rattle.std.specs.Prelude.{ℕ, ◌+◌, ◌-◌, ◌*◌, ◌≤◌, ◌≡◌, List, [], ◌∷◌, ◌++◌, take, drop}
use Rattle.table.specs.declared.Shape.{Shape}
use Rattle.table.specs.Tables.{laid}
use Rattle.table.specs.Splits.{one_more, low_text, high_text, low_bound}
use Rattle.drum.specs.declared.Description.{Description}
use Rattle.drum.specs.Blocks.{put_block}

-- a block full of n rows of this shape, and a place for one more
pub record FullTable (p : Description) (h : Shape) (n i : ℕ) : Type 0 where
  pub base-one : h.base ≡ 1
  pub stride-least : 1 ≤ h.stride
  pub rows-least : 2 ≤ n
  pub rows_fit : 1 + n * h.stride ≤ p.wpb
  pub tag-most : h.tag ≤ 8192
  pub place-most : i ≤ n

-- the two texts of w words when the lower `low` rows stay
abbrev pub staying : ℕ → Shape → ℕ → ℕ → ℕ → List ℕ → List ℕ → List ℕ
staying w h n low i r t = laid w (h.tag + low) (take (low * h.stride) (one_more h n i r t))

-- the words of the upper half [C12]
abbrev pub leaving : ℕ → Shape → ℕ → ℕ → ℕ → List ℕ → List ℕ → List ℕ
leaving w h n low i r t = laid w (h.tag + (n + 1 - low)) (drop (low * h.stride) (one_more h n i r t))

-- the file with the two halves written, and the entry of the old block
abbrev pub halved : Description → Shape → ℕ → ℕ → List ℕ → List ℕ → ℕ → ℕ → List ℕ → List ℕ
halved p h n i r t old new f = put_block p (put_block p f old (low_text p.wpb h n i r t)) new (high_text p.wpb h n i r t)

-- the entry of the half that stays [C13]
abbrev pub low_entry : Description → Shape → ℕ → ℕ → List ℕ → List ℕ → ℕ → List ℕ
low_entry p h n i r t old = low_bound h n (low_text p.wpb h n i r t) ++ (old ∷ [])
