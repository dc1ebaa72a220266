-- `register::romanised` meets its contract: SEEK and the state, the new record, UPDAT.
use mathlib.Core.Path.{ap, ◌∙◌}
use native.Mathlib.Omega.{arith}
use lib.ListN.{set}
use Rattle.register.proofs.Moving.{found-few, move-missed, romanised-done}
use Rattle.register.proofs.moves.romanised.Goals as goal

pub returns-then-found-ne-DONE : goal.returns-then-found-ne-DONE
returns-then-found-ne-DONE c = search move-missed

pub stored-requires : goal.stored-requires
stored-requires c = search found-few

pub returns : goal.returns
returns c =
    let written = c.put_word.ensures ∙ ap (set c.copy_words.new.dst c.args.session.desc.k) c.from.ensures in
    romanised-done c.args.session _ _ _ _ _ _ _ _ _ _ _ _ c.sought-found.result c.stored.result c.stored.ensures written c.copy_words.ensures
    c.sought-found.ensures
    c.if-found-ne-DONE.false
    c.requires
    (let b = c.sought-found.auto in omega arith)
