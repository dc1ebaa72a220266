-- `calls::perform` meets its contract: each arm is what its method promises of the workspace made for it. The methods ask
-- nothing, so every other need is a search.
use Rattle.calls.proofs.Performed.{refused-performed, create-performed, open-performed, close-performed}
use Rattle.calls.proofs.Performed.{seek-performed, adv-performed, nsert-performed, dlete-performed, updat-performed, xtend-performed}
use Rattle.calls.proofs.perform.Goals as goal

pub returns-then-not-stage : goal.returns-then-not-stage
returns-then-not-stage c = search refused-performed

pub returns-in-Create : goal.returns-in-Create
returns-in-Create c = search create-performed

pub returns-in-Open : goal.returns-in-Open
returns-in-Open c = search open-performed

pub returns-in-Close : goal.returns-in-Close
returns-in-Close c = search close-performed

pub returns-in-Seek : goal.returns-in-Seek
returns-in-Seek c = search seek-performed

pub returns-in-Adv : goal.returns-in-Adv
returns-in-Adv c = search adv-performed

pub returns-in-Nsert : goal.returns-in-Nsert
returns-in-Nsert c = search nsert-performed

pub returns-in-Dlete : goal.returns-in-Dlete
returns-in-Dlete c = search dlete-performed

pub returns-in-Updat : goal.returns-in-Updat
returns-in-Updat c = search updat-performed

pub returns-in-Xtend : goal.returns-in-Xtend
returns-in-Xtend c = search xtend-performed
