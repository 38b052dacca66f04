-- `entries::entry::set_expiry`: what the store left, by `is-expiry`.
use Rattle.book.proofs.Write.{is-expiry}
use Rattle.entries.proofs.entry.set_expiry.Goals as goal

pub returns : goal.returns
returns c =
    let at = c.entry_offset-at in
    is-expiry c.requires.holds c.args.p.0 at.result c.requires.p_bound at.ensures c.args.day c.put_u16.ensures
