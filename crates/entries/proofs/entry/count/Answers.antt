-- `entries::entry::count`: the number at its offset, by `count_at`.
use mathlib.Core.Path.{◌∙◌}
use Rattle.book.proofs.Read.{count_at}
use Rattle.entries.proofs.entry.count.Goals as goal

pub returns : goal.returns
returns c =
    let at = c.entry_offset-at in
    c.u16_at.ensures ∙ count_at c.args.book.now c.args.p.0 at.result c.requires.holds c.requires.p_bound at.ensures
