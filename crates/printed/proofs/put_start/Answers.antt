-- `printed::put_start` meets its contract: two of the four kinds print their line, and two print nothing.
use mathlib.Core.Logic.{inl, inr}
use mathlib.Core.Path.{sym}
use native.Mathlib.Omega.{arith}
use Rattle.words.proofs.Parts.{put-none}
use Rattle.texts.specs.Texts.{bytes}
use Rattle.texts.specs.Results.{bad_line, too_large}
use Rattle.printed.specs.Output.{start_text}
use Rattle.printed.proofs.put_start.Goals as goal

pub returns-in-BadLine : goal.returns-in-BadLine
unfolding start_text bad_line bytes
returns-in-BadLine c = rw c.in-BadLine.is (c.put_bytes.ensures.0, c.put_bytes.ensures.1, omega (arith, c.put_bytes.ensures.1))

pub returns-in-TooLarge : goal.returns-in-TooLarge
unfolding start_text too_large bytes
returns-in-TooLarge c = rw c.in-TooLarge.is (c.put_bytes-in-TooLarge.ensures.0, c.put_bytes-in-TooLarge.ensures.1, omega (arith, c.put_bytes-in-TooLarge.ensures.1))

pub returns-in-OutOfRange : goal.returns-in-OutOfRange
unfolding start_text
returns-in-OutOfRange c =
    elim c.in-OutOfRange.is [ inl e ↦ rw e (sym (put-none _ _), omega arith, omega arith) | inr e ↦ rw e.1 (sym (put-none _ _), omega arith, omega arith) ]
