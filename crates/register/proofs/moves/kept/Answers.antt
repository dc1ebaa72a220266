-- `register::kept` meets its contract: SEEK and the state, the record's own spelling, UPDAT.
use mathlib.Core.Path.{ap, ◌∙◌}
use native.Mathlib.Omega.{arith}
use lib.ListN.{set}
use Rattle.std.proofs.lemmas.Bool.{not_from_true}
use Rattle.register.proofs.Moving.{found-few, move-missed, kept-bad, kept-done}
use Rattle.register.proofs.moves.kept.Goals as goal

pub returns-then-found-ne-DONE : goal.returns-then-found-ne-DONE
returns-then-found-ne-DONE c = search move-missed

pub returns-then-not-all_words : goal.returns-then-not-all_words
returns-then-not-all_words c =
    search (kept-bad, c.stopped.ensures, c.sought-found.ensures, c.if-found-ne-DONE.false, c.all_words.ensures, c.if-not-all_words.true)

pub stored-requires : goal.stored-requires
stored-requires c = search found-few

pub returns : goal.returns
returns c =
    let written = c.put_word.ensures ∙ ap (set c.sought-found.new.work c.args.session.desc.k) c.from.ensures in
    kept-done c.args.session _ _ _ _ _ _ _ _ _ _ _ _ c.sought-found.result c.stored.result c.stored.ensures written c.sought-found.ensures
    c.if-found-ne-DONE.false
    c.all_words.ensures
    (not_from_true _ c.if-not-all_words.false)
    c.requires
    (let b = c.sought-found.auto in omega arith)
