-- `refresh::refresh` meets its contract.
use Rattle.refresh.proofs.Putting.{refreshed_as}
use Rattle.refresh.proofs.refresh.Goals as goal

pub returns : goal.returns
returns c =
    refreshed_as c.requires.0 c.gather.ensures c.put_expiries.ensures
