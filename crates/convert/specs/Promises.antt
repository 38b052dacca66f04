-- What each converter leaves, for all inputs, by `model`'s definitions.
use Rattle.std.specs.Prelude.{ℕ, List, length}
use Rattle.words.specs.Lent.{Lent}
use Rattle.words.specs.Outcome.{Outcome, accepted, unless}
use Rattle.book.specs.Form.{form_as}
use Rattle.book.specs.Layout.{book_size, sizes_of}
use Rattle.book.specs.Next.{sizes_in}
use Rattle.model.specs.Convert.{room_number, to_two, to_one, to_three}
use Rattle.model.specs.Written.{Written}

-- numbers 1, 2 and 4, and how long the book is in layout `to` when none of them refuses
unfoldable pub size_or_number : ℕ → ℕ → List ℕ → ℕ → Outcome ℕ
size_or_number from to b room =
    unless (form_as from b) (unless (room_number to b room) (accepted (book_size (sizes_in to (sizes_of b)))))

-- book, output; r is what the call returns
abbrev pub WrittenInTwo : Lent (List ℕ) → Lent (List ℕ) → ℕ → Type 0
WrittenInTwo b out r = Written (to_two b.entry.now (length out.entry.now)) out.entry.now r out.exit.now

abbrev pub WrittenInOne : Lent (List ℕ) → Lent (List ℕ) → ℕ → Type 0
WrittenInOne b out r = Written (to_one b.entry.now (length out.entry.now)) out.entry.now r out.exit.now

abbrev pub WrittenInThree : Lent (List ℕ) → Lent (List ℕ) → ℕ → Type 0
WrittenInThree b out r = Written (to_three b.entry.now (length out.entry.now)) out.entry.now r out.exit.now
