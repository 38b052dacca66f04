-- What a read's checks answer, step by step: document 01's number, or what the code goes on with.
use Rattle.std.specs.Prelude.{ℕ, List, leb, eqb}
use Rattle.words.specs.Blocks.{unmapped}
use Rattle.words.specs.Choice.{when◌then◌else◌}
use Rattle.words.specs.Outcome.{Outcome, accepted, unless}
use Rattle.book.specs.Book.{Book}
use Rattle.book.specs.Layout.{book_of}
use Rattle.book.specs.Form.{form_number}
use Rattle.model.specs.OnBytes.{pool_number}
use Rattle.model.specs.Read.{image, read_number}
use Rattle.model.specs.JournalAt.{image_from}

-- 17: "The LBN is L or more"; 18: "The LBN is unmapped in it", where p is what the image has there
unfoldable pub mapped_number : Book → ℕ → ℕ → ℕ
mapped_number x lbn p =
    when leb x.sizes.l lbn then 17 else
    when eqb p unmapped then 18 else
    0

-- ---- the search

-- in the volume's backups from slot `at` on, else the current map
unfoldable pub sought_from : Book → ℕ → ℕ → ℕ → Outcome ℕ
sought_from x v at lbn = unless (mapped_number x lbn (image_from x v at lbn)) (accepted (image_from x v at lbn))

-- from number 5 on
unfoldable pub sought_in : Book → ℕ → ℕ → ℕ → Outcome ℕ
sought_in x v k lbn = unless (read_number x v k lbn) (accepted (image x v k lbn))

-- all of it
unfoldable pub sought_bytes : List ℕ → List ℕ → ℕ → ℕ → ℕ → Outcome ℕ
sought_bytes b pool v k lbn = unless (form_number b) (unless (pool_number b pool) (sought_in (book_of b) v k lbn))
