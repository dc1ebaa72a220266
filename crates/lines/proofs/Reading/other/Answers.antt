-- `Reading::other` meets its contract.
use mathlib.Core.Path.{◌∙◌}
use Rattle.lines.proofs.Steps.{another-few, another-many}
use Rattle.lines.proofs.Reading.other.Goals as goal
use Rattle.lines.proofs.Reading.other.Goals.{then-self-lt2, else-self-lt2}

pub returns : goal.returns
returns c =
    let s = c.args.self in
    c.resting.ensures
    ∙ elim c.if-self-lt2.branch [
      | then-self-lt2 w ↦ rw w.others-is (another-few s.spelled s.others s.numbers w.if-self-lt2.true)
      | else-self-lt2 w ↦ rw w.others-is (another-many s.spelled s.others s.numbers w.if-self-lt2.false)
    ]
