-- The four sizes as the code has them, in a layout.
use Rattle.std.specs.Prelude.{ℕ}
use Rattle.book.specs.Book.{Sizes}
use Rattle.fields.specs.declared.sizes.Sizes as code

abbrev pub in_layout : ℕ → code.Sizes → Sizes
in_layout g z = record { layout = g; n = z.n; l = z.l; s = z.s; j = z.j }
