-- `printed::call_line` meets its contract: the call that the line is decides.
use mathlib.Core.Path.{ap}
use Rattle.std.proofs.Common.{true}
use native.Mathlib.Omega.{arith}
use Rattle.searchfile.specs.Promise.{CountedOpen, given}
use Rattle.lines.specs.Reading.{parsed_as}
use Rattle.printed.specs.Output.{played}
use Rattle.printed.proofs.Laws.{line-played, line-shown}
use Rattle.printed.proofs.call_line.Goals as goal

pub tell-end-requires : goal.tell-end-requires
tell-end-requires c =
    let p = c.requires.5 in
    omega arith

pub returns-in-None : goal.returns-in-None
unfolding parsed_as played
returns-in-None c =
    let a = c.args in
    let st = given a.s a.file.now a.buffer.now a.work.now in
    let w = c.bad_line.ensures in record {
      out_value = rw (← c.in-None.ensures) (λ j. record { over = true; after = st; out = w.0 j; at = w.1 j });
      desc_value = tt;
      at_bound = omega (arith, w.2);
    }

pub returns-in-Some : goal.returns-in-Some
returns-in-Some c =
    let a = c.args in
    let st = given a.s a.file.now a.buffer.now a.work.now in
    let p = c.requires in
    let done = ap (λ (z : CountedOpen). z.outcome) c.perform-answer.ensures in
    let line = line-played a.numbers.now st p.0 p.1 p.2 p.3 a.marks.now p.4 a.r a.name.now _ c.in-Some.ensures _ done in
    record {
      out_value = line-shown a.out.now _ _ a.at _ _ _ c.tell-end.ensures.0 c.tell-end.ensures.1 line.0;
      desc_value = line.1;
      at_bound = omega (arith, c.tell-end.ensures.2);
    }
