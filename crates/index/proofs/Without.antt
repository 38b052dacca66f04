-- The entries where a block is still free: what an insertion starts from.
use Prim.Native.Nat.{ℕ}
use mathlib.Core.List.{List}
use lib.ListN.{set}
use Rattle.book.specs.Book.{Entry, free_entry}

-- the entries where block p is still free
abbrev pub without : ℕ → List Entry → List Entry
without p es = set es p free_entry
