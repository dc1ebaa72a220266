-- `Reading::letter` meets its contract.
use Rattle.lines.proofs.Steps.{spells-others, spells-numbers, spells-full, spells-room, letter-full, letter-room}
use Rattle.lines.proofs.Reading.letter.Goals as goal
use Rattle.lines.proofs.Reading.letter.Goals.{else-self-eq0-via-then-self-eq0+then-self-eq0-2+else-self-name, else-self-eq0-via-then-self-eq0+else-self-eq0-2, else-self-eq0-via-else-self-eq0}

pub returns-then-self-name : goal.returns-then-self-name
returns-then-self-name c =
    let s = c.args in
    let room = spells-room s.self s.name.now c.if-self-eq0.true c.if-self-eq0-2.true c.if-self-name.true in
    λ numbers. letter-room s.self c.with_byte-next.result _ s.name.now numbers c.with_byte-next.ensures room

pub returns : goal.returns
returns c =
    let s = c.args in
    λ numbers. letter-full s.self _ _ s.name.now numbers c.with_byte-next.ensures (elim c.else-self-eq0.branch [
      | else-self-eq0-via-then-self-eq0+then-self-eq0-2+else-self-name w ↦ spells-full s.self s.name.now w.if-self-name.false
      | else-self-eq0-via-then-self-eq0+else-self-eq0-2 w ↦ spells-numbers s.self s.name.now w.if-self-eq0-2.false
      | else-self-eq0-via-else-self-eq0 w ↦ spells-others s.self s.name.now w.if-self-eq0.false
    ])
