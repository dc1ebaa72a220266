-- `figures::put_is` meets its contract.
use native.Mathlib.Omega.{arith}
use Rattle.texts.specs.Texts.{bytes}
use Rattle.faults.specs.Sentences.{is_text}
use Rattle.faults.proofs.Told.{is-put, is-end}
use Rattle.faults.proofs.figures.put_is.Goals as goal

pub returns-in-Wpb : goal.returns-in-Wpb
unfolding is_text bytes
returns-in-Wpb c = (search is-put, search is-end, omega arith)

pub returns-in-Wpr : goal.returns-in-Wpr
unfolding is_text bytes
returns-in-Wpr c = (search is-put, search is-end, omega arith)

pub returns-in-K : goal.returns-in-K
unfolding is_text bytes
returns-in-K c = (search is-put, search is-end, omega arith)

pub returns-in-Space : goal.returns-in-Space
unfolding is_text bytes
returns-in-Space c = (search is-put, search is-end, omega arith)

pub returns-in-Control : goal.returns-in-Control
unfolding is_text bytes
returns-in-Control c = (search is-put, search is-end, omega arith)

pub returns-in-N : goal.returns-in-N
unfolding is_text bytes
returns-in-N c = (search is-put, search is-end, omega arith)
