-- `entries::entry::expiry`: the number at its offset, by `expiry-at`.
use mathlib.Core.Path.{◌∙◌}
use Rattle.book.proofs.Read.{expiry-at}
use Rattle.entries.proofs.entry.expiry.Goals as goal

pub returns : goal.returns
returns c =
    let at = c.entry_offset-at in
    c.u16_at.ensures ∙ expiry-at c.args.book.now c.args.p.0 at.result c.requires.holds c.requires.p_bound at.ensures
