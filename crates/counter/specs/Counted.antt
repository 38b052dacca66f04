-- What counting a book leaves, for all inputs: its number, and the four answers of a book in form.
use Rattle.std.specs.Prelude.{ℕ, ◌≡◌, List, eqb}
use Rattle.words.specs.Choice.{when◌then◌else◌}
use Rattle.words.specs.Lent.{Lent}
use Rattle.book.specs.Layout.{told}
use Rattle.book.specs.Form.{form_number}
use Rattle.book.specs.Book.{Book}
use Rattle.counter.specs.declared.count.Counted.{Counted}
use Rattle.counter.specs.Sums

-- the four numbers of a book
abbrev pub counted_up : Book → Counted
counted_up x = record {
  blocks = Sums.blocks x;
  held = Sums.held x.entries;
  waiting = Sums.waiting x.entries;
  references = Sums.references x.entries;
}

-- ---- the same for C

-- an answer is written only where nothing refuses
abbrev pub answered : List ℕ → ℕ → ℕ → ℕ
answered b new old = when eqb (form_number b) 0 then new else old

-- what an answer is after the call
abbrev pub answer : Lent (List ℕ) → ℕ → Lent ℕ → ℕ
answer book new old = answered book.entry.now new old.entry.now

-- r is what the call returns
pub record CountedUp (book : Lent (List ℕ)) (blocks held waiting references : Lent ℕ) (r : ℕ) : Type 0 where
  pub number : r ≡ form_number book.entry.now
  pub blocks_after : blocks.exit.now ≡ answer book (Sums.blocks (told book.entry)) blocks
  pub held_after : held.exit.now ≡ answer book (Sums.held (told book.entry).entries) held
  pub waiting_after : waiting.exit.now ≡ answer book (Sums.waiting (told book.entry).entries) waiting
  pub references_after : references.exit.now ≡ answer book (Sums.references (told book.entry).entries) references
