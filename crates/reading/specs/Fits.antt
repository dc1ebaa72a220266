-- What the code that looks whether a file is finished may rely on, once the file was found to be as under Layout.
use Rattle.std.specs.Prelude.{ℕ, zero, suc, ◌+◌, ◌≤◌, ◌≡◌, true, List, length}
use Rattle.table.specs.Tables.{count}
use Rattle.drum.specs.declared.Description.{Description}
use Rattle.drum.specs.Params.{I, good_params, file_size, start, index_shape}
use Rattle.drum.specs.Blocks.{Block, block_at}
use Rattle.layout.specs.Inspect.{named}

-- the n entries from place e on name blocks of the file
unfoldable pub NamesBlocks : Description → List ℕ → ℕ → ℕ → Type 0
NamesBlocks p f e zero = Unit {0}
NamesBlocks p f e (suc n) = Block p (named p f e) × NamesBlocks p f (e + (p.k + 1)) n

-- good parameters and the file's length; and where the master's first entry names block 1, the entries of that name blocks, and are I or fewer
pub record Inspected (p : Description) (f : List ℕ) : Type 0 where
  pub good : good_params p ≡ true
  pub size : length f ≡ file_size p
  pub few : named p f 3 ≡ 1 → count (index_shape p) (block_at p f 1) ≤ I p
  pub names : named p f 3 ≡ 1 → NamesBlocks p f (start p 1 + 1) (count (index_shape p) (block_at p f 1))
