-- `calls::stage_words` meets its contract: the words are copied, or there is no room for one of three reasons.
use mathlib.Core.Path.{sym}
use native.Mathlib.Omega.{arith}
use Rattle.calls.proofs.Performed.{staged-copied, staged-long, staged-narrow}
use Rattle.calls.proofs.stage_words.Goals as goal
use Rattle.calls.proofs.stage_words.Goals.{else-n-work-via-then-n-work+then-n-words+else-at-words, else-n-work-via-then-n-work+else-n-words, else-n-work-via-else-n-work}

pub returns-then-at-words : goal.returns-then-at-words
returns-then-at-words c = staged-copied _ _ _ _ _ c.copy_words.ensures (omega arith) (omega arith)

pub returns : goal.returns
returns c =
    sym (elim c.else-n-work.branch [
      | else-n-work-via-then-n-work+then-n-words+else-at-words w ↦ staged-long _ _ _ _ (omega arith)
      | else-n-work-via-then-n-work+else-n-words w ↦ staged-long _ _ _ _ (omega arith)
      | else-n-work-via-else-n-work w ↦ staged-narrow _ _ _ _ (omega arith)
    ])
