-- Document 02, "Salvage": what the walk through a broken copy meets, a function of the copy's words alone. "Our copies of the files that the old routine broke
-- mark block kinds as request 5's second form does."
use Rattle.std.specs.Prelude.{ℕ, zero, suc, ◌+◌, ◌*◌, ◌-◌, cond, List, [], ◌∷◌, ◌++◌, eqb, get_or}
use Rattle.numbers.specs.Checked.{between}
use Rattle.words.specs.Words.{part, all_words}
use Rattle.drum.specs.declared.Description.{Description}
use Rattle.drum.specs.Params.{D, detail_kind}
use Rattle.drum.specs.Blocks.{block_at}
use Rattle.layout.specs.Holds.{ascending, keys_of}

-- "one line per block passed over, with its reason", which is "the first test missed": 1 not "marked detail", 2 no "good count", 3 a "record word above 262143",
-- 4 keys not "strictly ascending"; 0 where none is missed [Z2]
abbrev pub not_marked : ℕ
not_marked = 1

-- the second test missed [Z2]
abbrev pub bad_count : ℕ
bad_count = 2

-- the third test missed [Z2]
abbrev pub bad_word : ℕ
bad_word = 3

-- the fourth test missed [Z2]
abbrev pub bad_order : ℕ
bad_order = 4

-- the count that a text marked detail says: "8192 plus the count for a detail block" [K2, Z2]
abbrev pub count_in : List ℕ → ℕ
count_in t = get_or t 0 0 - detail_kind

-- n rows of `stride` words each, from word a on
unfoldable pub rows_from : ℕ → ℕ → ℕ → List ℕ → List (List ℕ)
rows_from stride a zero t = []
rows_from stride a (suc n) t = part a stride t ∷ rows_from stride (a + stride) n t

-- the records of such a text: "word 0 count, then records" [L6, Z2]
abbrev pub records_in : Description → List ℕ → List (List ℕ)
records_in p t = rows_from p.wpr 1 (count_in t) t

-- "tested in this order, is marked detail (word 0 in 8192..12287), has a good count, no record word above 262143 and strictly ascending keys": the first test
-- missed, 0 where there is none. A good count is 1..D; a record word stands in a record that is counted [Z2]
unfoldable pub missed : Description → List ℕ → ℕ
missed p t =
    cond (between 8192 12287 (get_or t 0 0))
    (cond (between 1 (D p) (count_in t))
    (cond (all_words (part 1 (count_in t * p.wpr) t)) (cond (ascending (keys_of p (records_in p t))) 0 bad_order) bad_word)
    bad_count)
    not_marked

-- what the walk meets: a block that "is passed over", with its reason; or a record that is taken, with "block, place", its places counted from 1 [Z1, Z5]
pub data Met : Type 0 where
  over : ℕ → ℕ → Met
  found : ℕ → ℕ → List ℕ → Met

-- the records of block b, the first of them at place i [Z5]
unfoldable pub places : ℕ → ℕ → List (List ℕ) → List Met
places b i [] = []
places b i (r ∷ rs) = found b i r ∷ places b (i + 1) rs

-- "take records from each that ..; any other is passed over": of block b, with the text t [Z2]
unfoldable pub met_in : Description → ℕ → List ℕ → List Met
met_in p b t = cond (eqb (missed p t) 0) (places b 1 (records_in p t)) (over b (missed p t) ∷ [])

-- n blocks from block b on, "in number order" [Z1]
unfoldable pub met_from : Description → List ℕ → ℕ → ℕ → List Met
met_from p copy b zero = []
met_from p copy b (suc n) = met_in p b (block_at p copy b) ++ met_from p copy (b + 1) n

-- "Walk all blocks in number order": 1..N, whatever the master and the index blocks say [Z1]
abbrev pub met : Description → List ℕ → List Met
met p copy = met_from p copy 1 p.n
