-- What form gives a pass over the book: bounds of the records that it reads.
use Prim.Native.Nat.{ℕ, ◌<◌}
use mathlib.Core.Path.{◌≡◌}
use mathlib.Core.Logic.{◌⊎◌}
use mathlib.Core.List.{List}
use native.Mathlib.Omega.{arith}
use lib.ListN.{length}
use Rattle.words.specs.Blocks.{unmapped}
use Rattle.book.specs.Book.{Book, rec_at}
use Rattle.book.specs.Layout.{book_of}
use Rattle.book.specs.FormFacts.{FormFacts}
use Rattle.book.proofs.Conditions.{rec_in}
use Rattle.journal.specs.Struct.{RecordIs}
use Rattle.journal.specs.declared.record.Record.{Record}

-- a record as the code has it, read from the book
pub record ReadIn (x : Book) (r : Record) : Type 0 where
  pub lbn : r.lbn.0 < x.sizes.l
  pub in_row : r.lbn.0 < 1024
  pub before : (r.before.0 < x.sizes.n) ⊎ (r.before.0 ≡ unmapped)

pub read_in : {b : List ℕ} → FormFacts b → (q : ℕ) → q < length (book_of b).records → {r : Record}
    → RecordIs (rec_at (book_of b).records q) r
    → ReadIn (book_of b) r
read_in {b} f q h {r} i =
    let w = rec_in (book_of b) f.parts q h in
    record {
      lbn = rw i.lbn w.lbn;
      in_row = rw i.lbn (omega (arith, w.lbn, f.holds.l));
      before = rw i.before w.before;
    }
