-- What the passes over map and journal leave in an image: a number for each LBN, of which the volume's first L count.
use Rattle.std.specs.Prelude.{ℕ, ◌<◌, ◌≡◌, List, length, get_or}
use Rattle.book.specs.Book.{Rec, Book}
use Rattle.model.specs.JournalAt.{first_before, image_from}

-- a number for each LBN that a volume can have
abbrev pub image_size : ℕ
image_size = 1024

-- what the volume had before its backups in the slots from `at` on
pub record Imaged (x : Book) (v at : ℕ) (a : List ℕ) : Type 0 where
  pub long : length a ≡ image_size
  pub cells : (l : ℕ) → l < x.sizes.l → get_or a l 0 ≡ image_from x v at l

-- records taken back
pub record Undone (x : Book) (rs : List Rec) (a a' : List ℕ) : Type 0 where
  pub long : length a' ≡ length a
  pub cells : (l : ℕ) → l < x.sizes.l → get_or a' l 0 ≡ first_before l rs (get_or a l 0)
