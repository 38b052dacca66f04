-- The journal, taken slot by slot.
use Rattle.std.specs.Prelude.{ℕ, ◌*◌, ◌≤◌, ◌≡◌, Bool, ◌&&◌, List, length, get_or}
use Rattle.words.specs.Lists.{all}
use Rattle.book.specs.Book.{Book}
use Rattle.model.specs.Audit.{until_in}
use Rattle.model.specs.Journal.{Backup, journal}
use Rattle.model.specs.JournalAt.{taken_sound}
use Rattle.due.specs.Expiries.{Raised, until_each}
use Rattle.due.specs.Lasts.{due_in}
use Rattle.replay.specs.Records.{Notes}
use Rattle.replay.specs.Table.{row_size, cells_after, cells_before, table_after, table_befores}

-- what a slot's backup leaves, and its tests; no stamp is above k after it
pub record SlotTaken (x : Book) (b : Backup) (k : ℕ) (good : Bool) (n n' : Notes) : Type 0 where
  pub test : good ≡ (cells_before (b.volume * row_size) n.cells b.records && taken_sound x b)
  pub cells : n'.cells ≡ cells_after (b.volume * row_size) n.cells b.records
  pub expiries : Raised n.expiries (until_each (due_in x b) b.records) n'.expiries
  pub long : length n'.stamps ≡ row_size
  pub low : (l : ℕ) → get_or n'.stamps l 0 ≤ k

-- ---- the whole journal

pub record JournalTaken (x : Book) (good : Bool) (c e c' e' : List ℕ) : Type 0 where
  pub test : good ≡ (table_befores c (journal x) && all (taken_sound x) (journal x))
  pub cells : c' ≡ table_after c (journal x)
  pub expiries : Raised e (λ p. until_in x p (journal x)) e'
