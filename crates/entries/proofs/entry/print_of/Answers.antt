-- `entries::entry::print_of`: the part at its offset, by `print-at`.
use mathlib.Core.Path.{◌∙◌, ap}
use Prim.Native.Nat.{ℕ, ◌+◌}
use lib.ListN.{take, drop}
use native.Mathlib.Nat.{add-sub_cancel_left}
use Rattle.words.specs.Blocks.{print_size}
use Rattle.book.proofs.Read.{print-at}
use Rattle.entries.proofs.entry.print_of.Goals as goal

pub returns : goal.returns
returns c =
    let at = c.entry_offset-at in
    let from = at.result + 5 in
    ap (λ (k : ℕ). take k (drop from c.args.book.now)) (add-sub_cancel_left from print_size)
    ∙ print-at c.args.book.now c.args.p.0 at.result c.requires.holds c.requires.p_bound at.ensures
