-- A full table split in two, and an entry that becomes two in the table above. Document 01, NSERT: detail block and index block,
-- index block and master, alike.
use Rattle.std.specs.Prelude.{ℕ, ◌+◌, ◌*◌, ◌-◌, ◌/◌, List, ◌++◌, set, take, drop}
use Rattle.words.specs.Words.{part}
use Rattle.table.specs.declared.Shape.{Shape}
use Rattle.table.specs.Tables.{place, key_at, inserted, laid}

-- "of D+1 records the lower (D+2)/2, rounded down, stay"; "likewise, the lower (I+2)/2 of I+1": of n rows and one more [C12, C15]
abbrev pub low_count : ℕ → ℕ
low_count n = (n + 2) / 2

-- the words of n rows of t with row r put in at place i
unfoldable pub one_more : Shape → ℕ → ℕ → List ℕ → List ℕ → List ℕ
one_more h n i r t =
    let ws = part h.base (n * h.stride) t in
    take (i * h.stride) ws ++ r ++ drop (i * h.stride) ws

-- the two texts of w words: what stays, and "the rest go to a new block" [C12, C15]
unfoldable pub low_text : ℕ → Shape → ℕ → ℕ → List ℕ → List ℕ → List ℕ
low_text w h n i r t = laid w (h.tag + low_count n) (take (low_count n * h.stride) (one_more h n i r t))

-- the upper of the two texts [C12, C15]
unfoldable pub high_text : ℕ → Shape → ℕ → ℕ → List ℕ → List ℕ → List ℕ
high_text w h n i r t = laid w (h.tag + (n + 1 - low_count n)) (drop (low_count n * h.stride) (one_more h n i r t))

-- "the old block's bound becomes its highest key": the key of the last row that stays [C13]
unfoldable pub low_bound : Shape → ℕ → List ℕ → List ℕ
low_bound h n low = key_at h low (low_count n - 1)

-- entry i names another block: "a new block, which keeps the old bound" [C13]
unfoldable pub renamed : Shape → ℕ → ℕ → List ℕ → List ℕ
renamed h i b t = set t (place h i + h.width) b

-- entry i becomes two: r, for the old block under its new bound, and after it the new block b under the old bound [C13, C15]
unfoldable pub entered : Shape → ℕ → List ℕ → ℕ → List ℕ → List ℕ
entered h i r b t = inserted h i r (renamed h i b t)
