-- `restorer::read::read_number` meets its contract: the number of what the search answers.
use mathlib.Core.Path.{◌∙◌}
use Rattle.restorer.proofs.ReadCalls.{number_none, number_refused}
use Rattle.restorer.proofs.read.read_number.Goals as goal

pub returns-in-Ok : goal.returns-in-Ok
returns-in-Ok c = number_none _ _ _ _ _ _ c.in-Ok.ensures

pub returns-in-Err : goal.returns-in-Err
returns-in-Err c = c.from.ensures ∙ number_refused _ _ _ _ _ _ c.in-Err.ensures
