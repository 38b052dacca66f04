-- `heads::checking::room_of`: both branches.
use native.Mathlib.Omega.{arith}
use borrow.Author.Tests.{le-leb, lt-leb}
use Rattle.calls.specs.Promises.{room_of}
use Rattle.heads.proofs.checking.room_of.Goals as goal

pub returns-then-n-le-MOST_ROOM : goal.returns-then-n-le-MOST_ROOM
unfolding room_of
returns-then-n-le-MOST_ROOM c = (rw (le-leb c.args.n 4294967295 c.if-n-le-MOST_ROOM.true), omega arith, omega arith)

pub returns : goal.returns
unfolding room_of
returns c = (rw (lt-leb c.args.n 4294967295 c.if-n-le-MOST_ROOM.false), omega arith, omega arith)
