-- What the turning functions may rely on once the sizes are right and the file was found to be as under Layout; and what each makes of words and marks.
use Rattle.std.specs.Prelude.{ℕ, ◌+◌, ◌-◌, ◌≤◌, ◌<◌, ◌≡◌, true, cond, Result, Ok, Err, List, ◌++◌, eqb, length, get_or, set, take, drop}
use Rattle.numbers.specs.declared.Refusal.{Refusal}
use Rattle.words.specs.Words.{all_words}
use Rattle.table.specs.Tables.{block_in}
use Rattle.drum.specs.declared.Description.{Description}
use Rattle.drum.specs.Params.{good_params, master_size, file_size, tag_of, master_shape}
use Rattle.drum.specs.Blocks.{sections, block_at, Block}
use Rattle.drum.specs.Inside.{HasBlock}
use Rattle.layout.specs.Turned.{other_form, index_marked, index_unmarked, turned_blocks}

-- good parameters, a file of their length without a word too large whose master names blocks of it, and marks of it that come back once each index block was
-- marked
pub record TurnFits (p : Description) (f marks : List ℕ) : Type 0 where
  pub good : good_params p ≡ true
  pub file-is : length f ≡ file_size p
  pub marks-are : length marks ≡ p.n
  pub words : all_words f ≡ true
  pub few : sections f ≤ p.control
  pub named : (i : ℕ) → i < sections f → Block p (block_in (master_shape p) f i)
  pub back : index_unmarked (index_marked p f (sections f) marks) ≡ marks

-- a file that has block b, no word of which is too large
pub record Turnable (p : Description) (f : List ℕ) (b : ℕ) : Type 0 where
  pub has : HasBlock p f b
  pub words : all_words (block_at p f b) ≡ true

-- the text t of a block of this kind with its count in the other form [K2, K5]
abbrev pub recounted : Description → ℕ → List ℕ → List ℕ
recounted p kind t = set t 0 (tag_of (other_form p) kind + (get_or t 0 0 - tag_of p kind))

-- the file with the blocks of these marks, from block 1 on, turned [K5]
unfoldable pub blocks_turned : Description → List ℕ → List ℕ → List ℕ
blocks_turned p marks f = take (master_size p) f ++ turned_blocks p marks (drop (master_size p) f)

-- OPEN's mark of a block that is marked for turning: "1 for a block reached from the master" is an index block's too [S6]
abbrev pub open_mark : ℕ → ℕ
open_mark m = cond (eqb m 3) 1 m

-- the parameters that the session has after the call: those of the other form, or its own where the call is refused [K6]
abbrev pub described : Description → Result Description Refusal → Description
described p (Ok q) = q
described p (Err r) = p
