-- `entries::entry::set_count`: what the store left, by `is-count`.
use native.Mathlib.Omega.{arith}
use Rattle.words.proofs.Filling.{put_as}
use Rattle.book.proofs.Write.{is-count}
use Rattle.entries.proofs.entry.set_count.Goals as goal

pub returns : goal.returns
returns c =
    let at = c.entry_offset-at in
    is-count c.requires.holds c.args.p.0 at.result c.requires.p_bound at.ensures c.args.c
    (put_as c.args.book.now at.result c.args.c c.put_u16.ensures (omega arith))
