-- What is read of a line leaves its place ready.
use Prim.Native.Nat.{ℕ, ◌≤◌}
use native.Mathlib.Omega.{arith}
use mathlib.Core.Path.{◌≡◌, sym, subst}
use mathlib.Core.List.{List}
use lib.ListN.{length, take, drop, length-take}
use Rattle.lines.specs.declared.Taken.{Taken}
use Rattle.lines.specs.Reading.{Read}
use Rattle.lines.specs.Promise.{took, to_line_feed}
use Rattle.lines.proofs.Kept.{taken-within}
use Rattle.terminal.specs.declared.input.Place.{Place}
use Rattle.terminal.specs.Places.{Ready}

-- bytes taken off those that are here end where these end
pub taken-ready : (p : Place) (t : Taken) (input name numbers : List ℕ) (s : Read)
    → took t name numbers ≡ to_line_feed s p.at (drop p.at (take p.end input)) → Ready p → 65536 ≤ length input
    → Ready (record { at = t.at; end = p.end; filled = p.filled; line = p.line })
taken-ready p t input name numbers s e r h =
    let b = r.behind in
    let w = r.within in
    let n : length (take p.end input) ≡ p.end = simp length-take (omega arith) in
    let x = taken-within t name numbers s p.at (take p.end input) (omega arith) e in
    record { behind = omega arith; within = r.within; room = r.room }
