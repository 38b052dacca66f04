-- `entries::entry::is_held`: the byte at its offset, by `held_at`.
use Rattle.book.proofs.Read.{held_at}
use Rattle.entries.proofs.entry.is_held.Goals as goal

pub returns : goal.returns
returns c =
    let at = c.entry_offset-at in
    held_at c.args.book.now c.args.p.0 at.result c.requires.holds c.requires.p_bound at.ensures
