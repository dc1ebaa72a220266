-- The form of the promises: what a function gives back, with the bytes and numbers it leaves, beside what Reading.antt says.
use Rattle.std.specs.Prelude.{ℕ, suc, Bool, true, false, cond, List, [], ◌∷◌}
use Rattle.lines.specs.declared.Reading.{Reading}
use Rattle.lines.specs.declared.Taken.{Taken}
use Rattle.lines.specs.Lines.{is_line_feed}
use Rattle.lines.specs.Reading.{Read, rested, step}

-- what the code keeps, with the slices lent for name and numbers
abbrev pub read : Reading → List ℕ → List ℕ → Read
read r name numbers = record { reading = r; name = name; numbers = numbers }

-- how far a part of the input is read: what is kept, the place behind it, and whether a line ended there
pub record Took : Type 0 where
  pub kept : Read
  pub at : ℕ
  pub ended : Bool

-- the bytes l, the first of which stands at place `at`, are read up to and with the first line feed
unfoldable pub to_line_feed : Read → ℕ → List ℕ → Took
to_line_feed s at [] = record { kept = s; at = at; ended = false }
to_line_feed s at (b ∷ l) =
    cond (is_line_feed b) (record { kept = rested s; at = suc at; ended = true }) (to_line_feed (step s b) (suc at) l)

-- what `take` gives back, with the bytes and numbers it leaves
abbrev pub took : Taken → List ℕ → List ℕ → Took
took r name numbers = record { kept = read r.reading name numbers; at = r.at; ended = r.ended }
