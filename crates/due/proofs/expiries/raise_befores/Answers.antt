use Rattle.book.specs.Layout.{told}
use Rattle.due.proofs.ExpiryLaws.{raising_start, raising_record, raising_records}
use native.Mathlib.Omega.{arith}
use Rattle.due.proofs.expiries.raise_befores.Goals as goal

pub loop-q-init : goal.loop-q-init
loop-q-init c = raising_start

pub record_at-change-requires : goal.record_at-change-requires
record_at-change-requires c =
    record { holds = c.requires.holds; q_in_bounds = omega arith }

pub loop-q-preserved : goal.loop-q-preserved
loop-q-preserved c =
    raising_record c.args.until (told c.args.book).records c.loop-q.q c.args.end (omega arith) (omega arith)
    c.raise.ensures (omega (arith, c.record_at-change.ensures)) c.loop-q.invariant

pub returns : goal.returns
returns c =
    raising_records c.args.until (told c.args.book).records c.loop-q.q c.args.end (omega arith) c.loop-q.invariant
