-- `heads::checking::added`: both branches.
use borrow.Author.Tests.{le-leb, lt-leb}
use Rattle.calls.specs.Bound.{added_to}
use Rattle.heads.proofs.checking.added.Goals as goal

pub returns-then-most-room : goal.returns-then-most-room
unfolding added_to
returns-then-most-room c = rw (le-leb c.args.most c.args.room c.if-most-room.true)

pub returns : goal.returns
unfolding added_to
returns c = rw (lt-leb c.args.most c.args.room c.if-most-room.false)
