-- Document 01, "Layout", as OPEN tests it: one walk through the file that marks each block it comes to and ends at the first fault.
-- All places are places in the file's words f. `low` is where the key stands that the next keys must be above, 0 where there is none
-- (word 0 is no key's place). The marks are all that the walk carries.
use Rattle.std.specs.Prelude.{ℕ, zero, suc, ◌+◌, ◌*◌, ◌-◌, List, Bool, true, false, not, ◌&&◌, ◌||◌, eqb, length, get_or, take, drop, set}
use Rattle.numbers.specs.Numbers.{bad_file}
use Rattle.numbers.specs.Checked.{Checked, passed, refused, ◌>>=◌, ◌>>◌, require, within}
use Rattle.words.specs.Words.{part, zeros, all_are, none_is, all_words}
use Rattle.words.specs.Keys.{key_lt, key_le, same_key, is_ones}
use Rattle.drum.specs.declared.Description.{Description}
use Rattle.table.specs.declared.Shape.{Shape}
use Rattle.drum.specs.Params.{D, I, master_size, start, index_shape, detail_shape}
use Rattle.drum.specs.Blocks.{sections, chain_head, lowest_unused, block_at, link_place, link_in, is_free}

-- the key at place a
unfoldable pub key_held : Description → List ℕ → ℕ → List ℕ
key_held p f a = part a p.k f

-- the block that the entry at place e names: "entries: key and .. block"
abbrev pub named : Description → List ℕ → ℕ → ℕ
named p f e = get_or f (e + p.k) 0

-- the last of n rows from place a on
abbrev pub last_row : ℕ → ℕ → ℕ → ℕ
last_row a stride n = a + (n - 1) * stride

-- the key at place a is above the one at `low`, if there is one
unfoldable pub above : Description → List ℕ → ℕ → ℕ → Bool
above p f low a = eqb low 0 || key_lt (key_held p f low) (key_held p f a)

-- "all are strictly ascending": the keys of the n rows from place a on, the first above the one at `low` [L13]
unfoldable pub ascends : Description → List ℕ → ℕ → ℕ → ℕ → ℕ → Bool
ascends p f stride low a zero = true
ascends p f stride low a (suc n) = above p f low a && ascends p f stride a (a + stride) n

-- "The last record of the file is the end record: key ONES, data 0": under the bound ONES, which only the last bound can be, the last record is that [L14]
unfoldable pub end_ok : Description → List ℕ → ℕ → ℕ → Bool
end_ok p f e r = not (is_ones (key_held p f e)) || (is_ones (key_held p f r) && all_are 0 (part (r + p.k) (p.wpr - p.k) f))

-- "its block's keys are at most that [bound], and above the bound before it": the n records from place a on, under the entry at e [L10]
unfoldable pub records_ok : Description → List ℕ → ℕ → ℕ → ℕ → ℕ → Bool
records_ok p f low e a n =
    let r = last_row a p.wpr n in
    ascends p f p.wpr low a n && (key_le (key_held p f r) (key_held p f e) && end_ok p f e r)

-- "word 0 count", "No block in use is empty", "All other words are 0": the count of the rows in the block that starts at s, a table of this shape. "A wrong
-- kind is one more bad number": it is a count out of range [L8, L15, K2, K4]
unfoldable pub rows_in : Description → List ℕ → ℕ → Shape → ℕ → Checked ℕ
rows_in p f most h s = do
  n ← within 1 most (get_or f s 0 - h.tag)
  require (all_are 0 (part (s + (1 + n * h.stride)) (p.wpb - (1 + n * h.stride)) f)) bad_file
  passed n

-- the marks with m for block b, which had none: "reached once from the master, or on the chain once .. and only one of these" [L16, S6]
unfoldable pub marked : ℕ → ℕ → List ℕ → Checked (List ℕ)
marked m b marks = do
  within 1 (length marks) b
  require (eqb (get_or marks (b - 1) 0) 0) bad_file
  passed (set marks (b - 1) m)

-- the n entries from place e on, one by one: each is above the one before, and its place is the next one's `low` [L13]
unfoldable pub through : (ℕ → ℕ → List ℕ → Checked (List ℕ)) → ℕ → ℕ → ℕ → ℕ → List ℕ → Checked (List ℕ)
through step stride low e zero marks = passed marks
through step stride low e (suc n) marks = do
  ms ← step low e marks
  through step stride e (e + stride) n ms

-- the detail block under the entry at place e [L6]
unfoldable pub detail_held : Description → List ℕ → ℕ → ℕ → List ℕ → Checked (List ℕ)
detail_held p f low e marks = do
  ms ← marked 1 (named p f e) marks
  let s = start p (named p f e)
  n ← rows_in p f (D p) (detail_shape p) s
  require (records_ok p f low e (s + 1) n) bad_file
  passed ms

-- the index block under the master's entry at place e: "An index block's last bound equals its master entry's." [L5, L11]
unfoldable pub index_held : Description → List ℕ → ℕ → ℕ → List ℕ → Checked (List ℕ)
index_held p f low e marks = do
  ms ← marked 1 (named p f e) marks
  let s = start p (named p f e)
  n ← rows_in p f (I p) (index_shape p) s
  require (same_key (key_held p f (last_row (s + 1) (p.k + 1) n)) (key_held p f e)) bad_file
  through (detail_held p f) (p.k + 1) low (s + 1) n ms

-- the chain from block b on: "Free block: word 0 the next free block or 0. All other words are 0", in the second form with its kind. It has at most `fuel`
-- blocks [L7, L8, K2, K3, K4]
unfoldable pub chain_held : Description → List ℕ → ℕ → ℕ → List ℕ → Checked (List ℕ)
chain_held p f zero b marks = elim (eqb b 0) [ true ↦ passed marks | false ↦ refused bad_file ]
chain_held p f (suc fuel) b marks = elim (eqb b 0) [
  | true ↦ passed marks
  | false ↦ do
    ms ← marked 2 b marks
    require (is_free p (block_at p f b)) bad_file
    require (all_are 0 (drop (link_place p + 1) (block_at p f b))) bad_file
    chain_held p f fuel (link_in p (block_at p f b)) ms
]

-- "Every block 1..N is reached .., or on the chain .., or at or above word 2, and only one of these"; those never used are 0 [L16, L8]
unfoldable pub rest_ok : Description → List ℕ → ℕ → List ℕ → Bool
rest_ok p f lowest marks =
    none_is 0 (take (lowest - 1) marks) && (all_are 0 (drop (lowest - 1) marks) && all_are 0 (drop (start p lowest) f))

-- the master's words behind its n entries are 0, and "The last bound is ONES." [L4, L8, L12]
unfoldable pub master_ok : Description → List ℕ → ℕ → Bool
master_ok p f n =
    let behind = 3 + n * (p.k + 1) in
    all_are 0 (part behind (master_size p - behind) f) && is_ones (key_held p f (last_row 3 (p.k + 1) n))

-- the walk itself, once the master's three numbers are in range
unfoldable pub walked : Description → List ℕ → Checked (List ℕ)
walked p f = do
  require (master_ok p f (sections f)) bad_file
  ms ← through (index_held p f) (p.k + 1) 0 3 (sections f) (zeros p.n)
  marks ← chain_held p f p.n (chain_head f) ms
  require (rest_ok p f (lowest_unused f) marks) bad_file
  passed marks

-- the marks of a file that is as under Layout: 1 reached, 2 chained, 0 never used [N5, S6, L9]
unfoldable pub layout_marks : Description → List ℕ → Checked (List ℕ)
layout_marks p f = do
  require (all_words f) bad_file  -- "none is above 262143"
  n ← within 1 p.control (sections f)
  lowest ← within 1 (suc p.n) (lowest_unused f)
  walked p f
