-- The journal as the audit reads it, slot by slot.
use Prim.Native.Nat.{◌<◌}
use mathlib.Core.Path.{◌≡◌}
use mathlib.Core.Bool.{Bool, true, ◌&&◌}
use native.Mathlib.Omega.{arith}
use lib.Dec.{ltb}
use lib.ListN.{length, drop}
use borrow.Author.Tests.{lt-ltb}
use Rattle.words.proofs.ChoiceLaws.{true_and}
use Rattle.words.specs.Lists.{all}
use Rattle.words.proofs.Places.{place-all, all_take, all_drop}
use Rattle.book.specs.Book.{volumes, Sizes, Book, Sized, slot_at}
use Rattle.book.specs.Form.{rec_ok}
use Rattle.book.specs.FormFacts.{BookParts}
use Rattle.model.specs.Journal.{Backup, journal}
use Rattle.model.specs.JournalAt.{no_backup, backup_at}
use Rattle.claims.proofs.kept.JournalAtLaws.{length-journal, volume-at, records-at}
use Rattle.due.proofs.SlotReads.{slot-bounds}

-- a backup in form: its volume, and its records
unfoldable pub backup_in : Sizes → Backup → Bool
backup_in z b = ltb b.volume volumes && all (rec_ok z) b.records

pub journal_in : (x : Book) → BookParts x → Sized x → all (backup_in x.sizes) (journal x) ≡ true
unfolding backup_in
journal_in x p s =
    place-all (backup_in x.sizes) (journal x) no_backup
    (λ q k. let h : q < length x.slots = omega (arith, length-journal x) in
    let t = slot_at x.slots q in
    let ok =
    all_take (rec_ok x.sizes) t.number (drop t.first x.records)
    (all_drop (rec_ok x.sizes) t.first x.records p.records) in
    true_and (ltb (backup_at x q).volume volumes) (all (rec_ok x.sizes) (backup_at x q).records)
    (rw (volume-at x q) (lt-ltb t.volume volumes (slot-bounds x s p q h).volume))
    (rw (records-at x q p.pairs h) ok))
