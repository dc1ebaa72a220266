-- Two words stored, one after the other.
use Rattle.rules.specs.Free.{with_free}
use Rattle.acts.proofs.set_free.Goals as goal

pub returns : goal.returns
unfolding with_free
returns c = rw c.put_word.ensures
