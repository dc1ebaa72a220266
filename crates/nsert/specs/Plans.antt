-- What a plan of NSERT comes to.
use Rattle.std.specs.Prelude.{ℕ, Bool, List, Result, Ok, Err}
use Rattle.numbers.specs.declared.Refusal.{Refusal}
use Rattle.numbers.specs.Checked.{Checked, refused}
use Rattle.numbers.specs.Refused.{number_of}
use Rattle.drum.specs.Blocks.{Texts}
use Rattle.rules.specs.declared.Insert.{Insert}
use Rattle.rules.specs.State.{Effect}
use Rattle.rules.specs.NsertDone.{insert_done}

-- its deed is done, or what refused it is answered
abbrev pub plan_done : Texts → Bool → List ℕ → Result Insert Refusal → Checked Effect
plan_done v flag work (Ok d) = insert_done v flag work d
plan_done v flag work (Err r) = refused (number_of r)
