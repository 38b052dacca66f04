-- Fingerprints, blocks and entries by a tag, for the closed cases.
use Prim.Native.Nat.{ℕ}
use mathlib.Core.Bool.{true}
use mathlib.Core.List.{List}
use lib.ListN.{replicate}
use Rattle.words.specs.Blocks.{block_size, print_size}
use Rattle.book.specs.Book.{Entry}

-- sixteen bytes of a tag, over a block of it
abbrev pub print : ℕ → List ℕ
print a = replicate print_size a

abbrev pub block : ℕ → List ℕ
block a = replicate block_size a

-- a held block with this count, expiry and tag
abbrev pub hold : ℕ → ℕ → ℕ → Entry
hold c d a = record { count = c; held = true; expiry = d; print = print a }
