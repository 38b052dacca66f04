-- A volume's slots one after the other.
use Rattle.std.specs.Prelude.{ℕ, ◌≤◌, ◌<◌, ◌≡◌, length}
use Rattle.book.specs.Book.{Book, slot_at}
use Rattle.model.specs.JournalAt.{own_from}

-- slot r is the volume's first from q on; where there is none, r is past the used slots
pub record NextIs (x : Book) (v q r : ℕ) : Type 0 where
  pub above : q ≤ r
  pub later : own_from x v q ≡ own_from x v r
  pub own : r < length x.slots → (slot_at x.slots r).volume ≡ v
