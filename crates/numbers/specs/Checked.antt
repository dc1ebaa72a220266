-- How refusals are written. Document 01, "Numbers returned": "Checked in this order; the first that applies is given". A call is a
-- chain of steps, one a line; the first that refuses gives the number.
use Rattle.std.specs.Prelude.{ℕ, Bool, true, false, ◌&&◌, leb}
use Rattle.numbers.specs.Numbers.{bad_file}

infixl 20 ◌>>=◌ ◌>>◌
-- a step's answer: refused with a number, or passed with a value [N5]
pub data Checked (A : Type 0) : Type 0 where
  refused : ℕ → Checked A
  passed : A → Checked A

-- `x ← step` and then the rest: the rest is done only where the step passes
abbrev pub ◌>>=◌ : {A B : Type 0} → Checked A → (A → Checked B) → Checked B
refused n >>= rest = refused n
passed a >>= rest = rest a

-- a step, and then the rest, where the step's value is not wanted
abbrev pub ◌>>◌ : {A B : Type 0} → Checked A → Checked B → Checked B
refused n >> rest = refused n
passed a >> rest = rest

-- passed where the test holds, else refused with the number
abbrev pub require : Bool → ℕ → Checked Bool
require true n = passed true
require false n = refused n

-- x is one of lo..hi
abbrev pub between : ℕ → ℕ → ℕ → Bool
between lo hi x = leb lo x && leb x hi

-- the number x if it is one of lo..hi, else it is a bad number [B1, B2]
abbrev pub within : ℕ → ℕ → ℕ → Checked ℕ
within lo hi x = require (between lo hi x) bad_file >> passed x

-- the number x if it is one of 0..hi, else it is a bad number [B2]
abbrev pub up_to : ℕ → ℕ → Checked ℕ
up_to hi x = require (leb x hi) bad_file >> passed x
