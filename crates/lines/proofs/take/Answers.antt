-- `lines::take` meets its contract: what is to be read from here on comes to what the whole comes to.
use Prim.Native.Nat.{◌+◌}
use mathlib.Core.Bool.{true}
use mathlib.Core.Path.{◌≡◌, sym, ◌∙◌}
use native.Mathlib.Omega.{arith}
use lib.ListN.{length, drop}
use borrow.Author.Rules.{rules}
use Rattle.lines.specs.Promise.{to_line_feed}
use Rattle.lines.proofs.Turns.{line-out, line-over, line-more}
use Rattle.lines.proofs.take.Goals as goal

pub returns-then-bytes-i-eq10 : goal.returns-then-bytes-i-eq10
returns-then-bytes-i-eq10 c =
    let l = c.loop-i in
    sym (l.invariant.2 ∙ line-over _ l.i c.args.bytes.now (omega arith) c.if-bytes-i-eq10.true ∙ λ j. record { kept = sym (c.rest.ensures l.name) j; at = l.i + 1; ended = true })

pub loop-i-preserved : goal.loop-i-preserved
loop-i-preserved c =
    let l = c.loop-i in
    (search rules, search rules, l.invariant.2 ∙ line-more _ l.i c.args.bytes.now (omega arith) c.if-bytes-i-eq10.false ∙ λ j. to_line_feed (sym c.push-reading.ensures j) (l.i + 1) (drop (l.i + 1) c.args.bytes.now))

pub returns : goal.returns
returns c =
    let e : c.loop-i.i ≡ length c.args.bytes.now = omega arith in
    sym (c.loop-i.invariant.2 ∙ rw e (line-out _ (length c.args.bytes.now) c.args.bytes.now (omega arith)))
