-- `collector::collect::is_over` meets its contract: the definition's tests, of what the readers answer.
use Rattle.model.specs.Collect.{is_over}
use Rattle.collector.proofs.collect.is_over.Goals as goal

pub returns : goal.returns
unfolding is_over
returns c = rw (c.is_held.ensures, c.count.ensures, c.expiry.ensures)
