-- The refusals that come before a call's own steps, in document 01's order, over what the code tests.
use Rattle.std.specs.Prelude.{ℕ, Bool, not, ◌&&◌, List, eqb, length}
use Rattle.numbers.specs.Numbers.{wrong_size, is_closed, wrong_key}
use Rattle.numbers.specs.Checked.{Checked, ◌>>◌, require}
use Rattle.words.specs.Words.{part, all_words}
use Rattle.words.specs.Keys.{is_ones}
use Rattle.drum.specs.declared.Description.{Description}
use Rattle.drum.specs.Params.{sized}

-- 020007, 020005: of a call on an open session that is lent a workspace
unfoldable pub plain_checks : Description → Bool → ℕ → ℕ → ℕ → Checked Bool
plain_checks p opened file buffer work = do
  require (sized p file buffer) wrong_size
  require (eqb work p.wpr) wrong_size
  require opened is_closed

-- and 030001: of a keyed call, which reads so many words of its workspace
unfoldable pub keyed_checks : Description → Bool → ℕ → ℕ → List ℕ → ℕ → Checked Bool
keyed_checks p opened file buffer work reads = do
  plain_checks p opened file buffer (length work)
  require (all_words (part 0 reads work) && not (is_ones (part 0 p.k work))) wrong_key
