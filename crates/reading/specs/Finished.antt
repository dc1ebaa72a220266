-- Document 02, "The reading set": which files it opens. The words are those of a file that is as under Layout.
use Rattle.std.specs.Prelude.{ℕ, zero, suc, ◌+◌, Bool, true, ◌&&◌, ◌||◌, List, eqb}
use Rattle.table.specs.Tables.{count}
use Rattle.drum.specs.declared.Description.{Description}
use Rattle.drum.specs.Params.{FD, start, index_shape, detail_shape}
use Rattle.numbers.specs.Numbers.{bad_file}
use Rattle.numbers.specs.Checked.{Checked, passed, ◌>>=◌, ◌>>◌, require}
use Rattle.drum.specs.Blocks.{chain_head, block_at}
use Rattle.layout.specs.Inspect.{named, layout_marks}

-- "every detail block but the last holds exactly FD records": block b, behind which so many come [V2]
unfoldable pub holds_fd : Description → List ℕ → ℕ → ℕ → Bool
holds_fd p f b behind = eqb behind 0 || eqb (count (detail_shape p) (block_at p f b)) (FD p)

-- "block numbers follow key order": the entry at place e, behind which so many come, names block b [V2, V3]
unfoldable pub entry_ok : Description → List ℕ → ℕ → ℕ → ℕ → Bool
entry_ok p f e b behind = eqb (named p f e) b && holds_fd p f b behind

-- "details 2 upwards": the n entries from place e on name block b, the next one, and so on [V3]
unfoldable pub in_order : Description → List ℕ → ℕ → ℕ → ℕ → Bool
in_order p f e b zero = true
in_order p f e b (suc n) = entry_ok p f e b n && in_order p f (e + (p.k + 1)) (b + 1) n

-- "index 1, details 2 upwards, no free chain": the master's first entry names block 1, and the entries of block 1 name 2, 3, .. [V2, V3]
unfoldable pub finished : Description → List ℕ → Bool
finished p f =
    eqb (chain_head f) 0 && (eqb (named p f 3) 1 && in_order p f (start p 1 + 1) 2 (count (index_shape p) (block_at p f 1)))

-- "opening answers 070003 for any other file": the marks of a file that is as under Layout and finished [V5, S6]
unfoldable pub finished_marks : Description → List ℕ → Checked (List ℕ)
finished_marks p f = do
  marks ← layout_marks p f
  require (finished p f) bad_file
  passed marks
