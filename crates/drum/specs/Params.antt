-- Document 01, "Parameters": the capacities and sizes that belong to a file description p, and which descriptions are good.
use Rattle.std.specs.Prelude.{ℕ, ◌+◌, ◌*◌, ◌-◌, ◌/◌, ◌%◌, Bool, true, cond, ◌&&◌, List, [], ◌∷◌, leb, eqb}
use Rattle.table.specs.declared.Shape.{Shape}
use Rattle.drum.specs.declared.Description.{Description}

-- "D = (WPB−1)/WPR", rounded down: records that a detail block holds [P4]
unfoldable pub D : Description → ℕ
D p = (p.wpb - 1) / p.wpr

-- "I = (WPB−1)/(K+1)", rounded down: entries that an index block holds [P5]
unfoldable pub I : Description → ℕ
I p = (p.wpb - 1) / (p.k + 1)

-- "FD = D−SPACE, FI = I−SPACE" [P9]
unfoldable pub FD : Description → ℕ
FD p = D p - p.space

-- "FI = I−SPACE" [P9]
unfoldable pub FI : Description → ℕ
FI p = I p - p.space

-- "the master, 3+CONTROL·(K+1) words made even" [P10]
unfoldable pub master_size : Description → ℕ
master_size p = let w = 3 + p.control * (p.k + 1) in w + w % 2

-- "The file is exactly the master .. then N blocks" [P10]
unfoldable pub file_size : Description → ℕ
file_size p = master_size p + p.n * p.wpb

-- "block b starts (b−1)·WPB words after the master" [P11]
unfoldable pub start : Description → ℕ → ℕ
start p b = master_size p + (b - 1) * p.wpb

-- each of the tests holds
unfoldable pub every : List Bool → Bool
every [] = true
every (t ∷ ts) = t && every ts

-- "Parameters", the most sections that CONTROL may allow [P7]
abbrev pub most_sections : ℕ
most_sections = 16383

-- the table of ranges, a line each, with "D .. and I .., each at least 2" and the two block forms [P1, P2, P3, P4, P5, P6, P7, P8, K1]
unfoldable pub good_params : Description → Bool
good_params p =
    every
    (eqb (p.wpb % 2) 0 ∷ leb 6 p.wpb ∷ leb p.wpb 4096
    ∷ leb 1 p.k ∷ leb p.k 63
    ∷ leb p.k p.wpr
    ∷ leb 2 (D p) ∷ leb 2 (I p)
    ∷ leb p.space (D p - 2) ∷ leb p.space (I p - 2)
    ∷ leb 1 p.control ∷ leb p.control most_sections
    ∷ leb 2 p.n ∷ leb p.n 262142
    ∷ leb 1 p.form ∷ leb p.form 2
    ∷ [])

-- a size of good parameters: "With parameters out of range no size is taken" [O7]
unfoldable pub size_if : Description → ℕ → ℕ
size_if p n = cond (good_params p) n 0

-- 020007 for file and buffer: "The file is exactly ..", "Buffer: exactly WPB words" [P10, P12, N1]
unfoldable pub sized : Description → ℕ → ℕ → Bool
sized p file buffer = every (good_params p ∷ eqb file (file_size p) ∷ eqb buffer p.wpb ∷ [])

-- "a second block form, chosen in the parameters": FORM is 2 there, 1 in the first [K1]
abbrev pub second : Description → Bool
second p = eqb p.form 2

-- what word 0 of a block has besides its count: in the second form the number of its kind, nothing in the first [K2]
unfoldable pub tag_of : Description → ℕ → ℕ
tag_of p kind = cond (second p) kind 0

-- the second form: "word 0 is 4096 plus the count for an index block" [K2]
abbrev pub index_kind : ℕ
index_kind = 4096

-- "8192 plus the count for a detail block" [K2]
abbrev pub detail_kind : ℕ
detail_kind = 8192

-- "12288 for a free one" [K2]
abbrev pub free_kind : ℕ
free_kind = 12288

-- "Layout": "Master: .. Then entries: key and index block", from word 3 on; in both forms word 0 is "sections in use" [L4]
unfoldable pub master_shape : Description → Shape
master_shape p = record { base = 3; stride = p.k + 1; width = p.k; tag = 0 }

-- "Index block: word 0 count, then entries: key and detail block" [L5]
unfoldable pub index_shape : Description → Shape
index_shape p = record { base = 1; stride = p.k + 1; width = p.k; tag = tag_of p index_kind }

-- "Detail block: word 0 count, then records" [L6, P3]
unfoldable pub detail_shape : Description → Shape
detail_shape p = record { base = 1; stride = p.wpr; width = p.k; tag = tag_of p detail_kind }
