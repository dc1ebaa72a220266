-- `Watch::words_with` meets its contract.
use Rattle.faults.proofs.Cases.{words_inside, words_more, words-full}
use Rattle.faults.proofs.watch.Watch.words_with.Goals as goal

pub returns-then-self : goal.returns-then-self
returns-then-self c = search words_inside

pub returns-then-self-lt4294967295 : goal.returns-then-self-lt4294967295
returns-then-self-lt4294967295 c = search words_more

pub returns : goal.returns
returns c = search words-full
