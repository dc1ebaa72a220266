-- `capi::turning::nasturakh_turn` meets its contract: the words are no session's or have no place for the form, or the turning call's promise is told in
-- words.
use Rattle.capi.proofs.TurnTold.{turn-none, turn-formless, turn-most, turn-free, turn-called}
use borrow.Author.Rules.{rules}
use Rattle.capi.proofs.turning.nasturakh_turn.Goals as goal

pub returns-in_default : goal.returns-in_default
returns-in_default c = search (turn-none, c.in_default.ensures.no)

pub returns-then-session-ne-FORM_WORDS : goal.returns-then-session-ne-FORM_WORDS
returns-then-session-ne-FORM_WORDS c = search (turn-formless, c.in-Some.ensures.yes)

pub put_form-requires : goal.put_form-requires
put_form-requires c = (search rules, search (turn-most, c.in-Some.ensures.yes, c.in-Some.ensures.same))

pub packed-requires : goal.packed-requires
packed-requires c = search turn-free

pub returns : goal.returns
returns c = search (turn-called, c.in-Some.ensures.yes, c.in-Some.ensures.same)
