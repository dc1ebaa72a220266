-- `register::sought` meets its contract: SEEK missed, found another state, or the right one.
use mathlib.Core.Path.{sym, ◌∙◌}
use Rattle.register.specs.Names.{word_of}
use Rattle.register.proofs.Moving.{sought-missed, sought-other, sought-right}
use Rattle.register.proofs.moves.sought.Goals as goal

pub returns-then-found-ne-DONE : goal.returns-then-found-ne-DONE
returns-then-found-ne-DONE c = search sought-missed

pub returns-then-word_at-from : goal.returns-then-word_at-from
returns-then-word_at-from c =
    sought-other c.args.session _ _ _ _ _ _ (word_of c.args.from) c.word_at.result c.seek-found.result c.stopped.result c.stopped.ensures c.seek-found.ensures
    c.if-found-ne-DONE.false
    c.word_at.ensures
    (λ h. c.if-word_at-from.true (h ∙ sym c.from.ensures))

pub returns : goal.returns
returns c =
    sought-right c.args.session _ _ _ _ _ _ (word_of c.args.from) c.seek-found.result c.seek-found.ensures c.word_at.result c.if-found-ne-DONE.false
    c.word_at.ensures
    (c.if-word_at-from.false ∙ c.from.ensures)
