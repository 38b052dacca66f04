-- The converters: a book of one layout, written in another (document 02, K3 and K4).
use Rattle.std.specs.Prelude.{ℕ, Bool, List, leb, ltb}
use Rattle.words.specs.Choice.{when◌then◌else◌}
use Rattle.words.specs.Lists.{all}
use Rattle.words.specs.Outcome.{Outcome, accepted, unless}
use Rattle.words.specs.Sections.{tab}
use Rattle.book.specs.Book.{Entry, Book, entry_at}
use Rattle.book.specs.Layout.{book_size, bytes, book_of, sizes_of}
use Rattle.book.specs.Form.{form_as}
use Rattle.book.specs.Next.{sizes_in, with_layout, with_entries, expiry_as}
use Rattle.model.specs.Audit.{until_in}
use Rattle.model.specs.Journal.{journal}

-- "4, which for the converter means an output shorter than the book to write"
unfoldable pub room_number : ℕ → List ℕ → ℕ → ℕ
room_number to b room = when ltb room (book_size (sizes_in to (sizes_of b))) then 4 else 0

-- From layout `from` to layout `to`, with what it asks of the book and what it makes of it; then the book's bytes and the output's length.
-- 1 and 2 are those of layout `from`
unfoldable pub converted : ℕ → ℕ → (Book → ℕ) → (Book → Book) → List ℕ → ℕ → Outcome (List ℕ)
converted from to number f b room =
    unless (form_as from b)
    (unless (room_number to b room)
    (unless (number (book_of b)) (accepted (bytes (with_layout to (f (book_of b)))))))

-- "back again it goes only if no count is above 255"
abbrev pub is_narrow : Entry → Bool
is_narrow e = leb e.count 255

-- 22: "going back, a count is above 255"
unfoldable pub narrow_number : Book → ℕ
narrow_number x = when all is_narrow x.entries then 0 else 22

-- "A converter takes a layout 1 book and writes a layout 2 book with every field equal"
unfoldable pub to_two : List ℕ → ℕ → Outcome (List ℕ)
to_two b room = converted 1 2 (λ x. 0) (λ x. x) b room

unfoldable pub to_one : List ℕ → ℕ → Outcome (List ℕ)
to_one b room = converted 2 1 narrow_number (λ x. x) b room

-- "the converter from 2 works every expiry out afresh from the journal" (document 02, K4): by audit's rule
unfoldable pub refreshed_entry : Book → ℕ → Entry
refreshed_entry x p = expiry_as (until_in x p (journal x)) (entry_at x.entries p)

unfoldable pub refreshed : Book → Book
refreshed x = with_entries (tab x.sizes.n (refreshed_entry x)) x

unfoldable pub to_three : List ℕ → ℕ → Outcome (List ℕ)
to_three b room = converted 2 3 (λ x. 0) refreshed b room
