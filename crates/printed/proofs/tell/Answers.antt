-- `printed::tell` meets its contract: the workspace is shown, or no word of it.
use mathlib.Core.Path.{◌≡◌, sym, ◌∙◌}
use mathlib.Core.Bool.{true, false}
use native.Mathlib.Omega.{arith}
use Rattle.rules.specs.Run.{shows}
use Rattle.printed.specs.Promise.{told_line}
use Rattle.printed.proofs.tell.Goals as goal
use Rattle.printed.proofs.tell.Goals.{then-shows, else-shows}

pub returns : goal.returns
unfolding told_line
returns c =
    elim c.if-shows.branch [
      | then-shows w ↦
          let e : shows c.args.call c.args.number ≡ true = sym c.shows.ensures ∙ w.if-shows.true in
          rw e (rw w.shown-is at c.put_result.ensures)
      | else-shows w ↦
          let e : shows c.args.call c.args.number ≡ false = sym c.shows.ensures ∙ w.if-shows.false in
          let p = rw w.shown-is at c.put_result.ensures in
          rw e (p.0, p.1, omega (arith, p.2))
    ]
