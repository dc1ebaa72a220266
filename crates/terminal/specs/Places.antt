-- Document 01, "One session, printed": what "reads .. from standard input" and "prints" ask of the lent bytes and words between two lines.
use Rattle.std.specs.Prelude.{ℕ, ◌≤◌, ◌≡◌, true, List, length}
use Rattle.drum.specs.declared.Description.{Description}
use Rattle.drum.specs.Params.{good_params, file_size}
use Rattle.terminal.specs.declared.input.Place.{Place}

-- "reads", "prints": the place stands within the 65,536 bytes of the input, and what is to be written leaves room for the text of another line
pub record Ready (p : Place) : Type 0 where
  pub behind : p.at ≤ p.end
  pub within : p.end ≤ 65536
  pub room : p.filled ≤ 16384

-- parameters with which calls are played: they are good, and a file "above 8192 words" is none of theirs
pub record Playable (p : Description) : Type 0 where
  pub good : good_params p ≡ true
  pub small : file_size p ≤ 8192

-- words for the largest file, block and record of such parameters
pub record Roomy (file buffer work : List ℕ) : Type 0 where
  pub file-room : 8192 ≤ length file
  pub block_room : 4096 ≤ length buffer
  pub record-room : 2048 ≤ length work
