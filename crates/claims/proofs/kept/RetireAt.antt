-- Whether the slot with number q retires its volume, in the journal as in the book (document 02, K6).
use Prim.Native.Nat.{ℕ, zero, suc}
use mathlib.Core.Path.{◌≡◌, refl}
use mathlib.Core.List.{List, [], ◌∷◌}
use lib.ListN.{get_or, drop}
use Rattle.book.specs.Book.{Slot, Rec, Book, no_slot, slot_at}
use Rattle.model.specs.Journal.{journal_of, journal}
use Rattle.model.specs.JournalAt.{no_backup, backup_at}

retire_in : (gone ts : List Slot) (rs : List Rec) (q : ℕ) → (get_or (journal_of gone ts rs) q no_backup).retire ≡ (slot_at ts q).retire
unfolding no_slot
retire_in gone [] rs q = refl
retire_in gone (t ∷ ts) rs zero = refl
retire_in gone (t ∷ ts) rs (suc q) = retire_in (t ∷ gone) ts (drop t.number rs) q

pub retire-at : (x : Book) (q : ℕ) → (backup_at x q).retire ≡ (slot_at x.slots q).retire
unfolding journal
retire-at x q = retire_in [] x.slots x.records q
