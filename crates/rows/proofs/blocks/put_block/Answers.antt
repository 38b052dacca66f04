-- `put_block`: three numbers and the fingerprint, one after the other.
use mathlib.Core.Path.{ap}
use Rattle.words.specs.Lists.{bit}
use Rattle.book.specs.Book.{entry_at}
use Rattle.book.specs.Layout.{book_of}
use Rattle.rows.proofs.Rows.{row-stored}
use Rattle.rows.proofs.blocks.put_block.Goals as goal

pub returns : goal.returns
returns c =
    let p = c.args.p.0 in
    row-stored {out = c.args.out.now} {at = c.args.at}
    (entry_at (book_of c.args.book.now).entries p) (c.requires.holds.sized.prints p c.requires.p_bound.0)
    (ap bit c.is_held-held.ensures) c.count-count.ensures c.expiry-expiry.ensures
    c.print_of-print.ensures c.put_three.ensures c.put_bytes.ensures
