-- Document 01, "Layout", last line: the words of a new file.
use Rattle.std.specs.Prelude.{ℕ, ◌+◌, ◌*◌, ◌-◌, List, [], ◌∷◌, ◌++◌, set}
use Rattle.words.specs.Words.{put, zeros}
use Rattle.words.specs.Keys.{ones}
use Rattle.table.specs.Tables.{laid}
use Rattle.drum.specs.declared.Description.{Description}
use Rattle.drum.specs.Params.{master_size, index_shape, detail_shape}

-- "The last record of the file is the end record: key ONES, data 0." [L14]
unfoldable pub end_record : Description → List ℕ
end_record p = ones p.k ++ zeros (p.wpr - p.k)

-- "CREATE writes master 1, 0, 3, ONES, 1; block 1: 1, ONES, 2; block 2: 1 and the end record; 0 elsewhere.", the counts with their kinds [L17, K2]
unfoldable pub created : Description → List ℕ
created p =
    (1 ∷ 0 ∷ 3 ∷ (ones p.k ++ (1 ∷ zeros (master_size p - 4 - p.k))))
    ++ (laid p.wpb ((index_shape p).tag + 1) (ones p.k ++ (2 ∷ []))
    ++ (laid p.wpb ((detail_shape p).tag + 1) (end_record p)
    ++ zeros ((p.n - 2) * p.wpb)))

-- over words 0, the master's words that are not 0: one section, the lowest block never used, the section's entry [L1, L3, L4]
unfoldable pub master_on : ℕ → List ℕ → List ℕ
master_on k t = put (set (set t 0 1) 2 3) 3 (ones k ++ (1 ∷ []))

-- over words 0, the index block's at word a: its word 0, n, and one entry [L5]
unfoldable pub index_on : ℕ → ℕ → ℕ → List ℕ → List ℕ
index_on a n k t = put (set t a n) (a + 1) (ones k ++ (2 ∷ []))

-- over words 0, the detail block's at word a: its word 0, n, and the end record's key [L6, L14]
unfoldable pub detail_on : ℕ → ℕ → ℕ → List ℕ → List ℕ
detail_on a n k t = put (set t a n) (a + 1) (ones k)
