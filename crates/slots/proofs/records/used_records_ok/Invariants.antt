-- `slots::records::used_records_ok` meets its contract: what is gathered and what is left decide as the whole does.
use mathlib.Core.Path.{◌≡◌}
use mathlib.Core.Bool.{true, ◌&&◌}
use lib.ListN.{drop}
use Rattle.words.specs.Numbers.{num}
use Rattle.book.specs.Layout.{u_offset, book_of}
use Rattle.book.specs.Form.{pairs_ok}
use Rattle.slots.specs.Records.{records_left}
use Rattle.slots.proofs.records.used_records_ok.Given as goal

abbrev pub invariant-loop-q : goal.invariant-loop-q
invariant-loop-q l =
    (pairs_ok l.next (drop l.q (book_of l.b).slots) (num l.b u_offset) ≡ true)
    × (records_left l.b 0 0 ≡ (l.good && records_left l.b l.q l.next))
