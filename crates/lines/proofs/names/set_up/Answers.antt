-- `names::set_up` meets its contract: six numbers read, each step handing the description on.
use mathlib.Core.Path.{ap}
use Rattle.drum.specs.declared.Description.{Description}
use Rattle.drum.proofs.Setup.{set-up}
use Rattle.lines.proofs.Turns.{described-by}
use Rattle.lines.proofs.names.set_up.Goals as goal

-- the description after the last step, and before it the steps and the words read
pub returns : goal.returns
returns c =
    let steps =
    set-up c.new.result _ _ _ _ _ _ _ _ _ _ _ _ c.with_n.ensures c.with_control.ensures c.with_space.ensures
    c.with_k.ensures c.with_wpr.ensures c.with_wpb.ensures in
    described-by _ _ _ _ _ _ _ _ _ steps (ap (λ (d : Description). d.form) c.new.ensures) c.word_at.ensures c.word_at-2.ensures c.word_at-3.ensures c.word_at-4.ensures
    c.word_at-5.ensures c.word_at-6.ensures
