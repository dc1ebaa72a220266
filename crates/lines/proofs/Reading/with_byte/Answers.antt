-- `Reading::with_byte` meets its contract.
use Rattle.lines.proofs.Steps.{word-with}
use Rattle.lines.proofs.Reading.with_byte.Goals as goal

pub returns : goal.returns
returns c = word-with c.args.self c.args.b _ _ _ c.value_with-value.ensures c.is_some.ensures c.unwrap_or.ensures
