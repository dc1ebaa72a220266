-- What the copying function may rely on once the sizes are right and the file was found to be as under Layout.
use Rattle.std.specs.Prelude.{ℕ, ◌≤◌, ◌≡◌, true, List, length}
use Rattle.drum.specs.declared.Description.{Description}
use Rattle.drum.specs.Params.{good_params, file_size}
use Rattle.drum.specs.Blocks.{sections}
use Rattle.layout.specs.Copied.{under_control}

-- both descriptions good, both files of their lengths, and the sections in use within both CONTROLs
pub record CopyFits (p : Description) (c : ℕ) (f second : List ℕ) : Type 0 where
  pub good : good_params p ≡ true
  pub file-is : length f ≡ file_size p
  pub again : good_params (under_control c p) ≡ true
  pub second_is : length second ≡ file_size (under_control c p)
  pub few : sections f ≤ p.control
  pub room : sections f ≤ c
