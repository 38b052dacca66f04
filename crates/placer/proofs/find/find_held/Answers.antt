-- The lookup of the part that is fingerprint i.
use Prim.Native.Nat.{ℕ, ◌*◌}
use mathlib.Core.Path.{ap, ◌∙◌}
use mathlib.Core.List.{List}
use lib.ListN.{length}
use Rattle.words.specs.Blocks.{print_size}
use Rattle.words.proofs.Lending.{lent}
use Rattle.words.proofs.Parts.{length_part}
use Rattle.book.specs.Layout.{book_of}
use Rattle.model.specs.Backup.{find_held}
use Rattle.finder.specs.Answers.{found_of}
use Rattle.placer.proofs.find.find_held.Goals as goal

pub find-requires : goal.find-requires
find-requires c =
    let prints = c.args.prints.now in
    let from = c.args.i * print_size in
    let size = length_part prints from print_size c.requires.print_size_in_bounds in
    record { holds = c.requires.holds; indexed = c.requires.indexed; print_len = ap length (lent prints from print_size) ∙ size }

pub returns : goal.returns
returns c =
    let a = c.args in
    c.find.ensures
    ∙ ap (λ (f : List ℕ). found_of (find_held (book_of a.book.now).entries f))
    (lent a.prints.now (a.i * print_size) print_size)
