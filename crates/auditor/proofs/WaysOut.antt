-- What each pass of an audit decides when it fails, and the last one when it doesn't.
use Prim.Native.Nat.{ℕ}
use mathlib.Core.Path.{◌≡◌, sym, ◌∙◌}
use mathlib.Core.Bool.{Bool, true, false, ◌&&◌}
use mathlib.Core.List.{List}
use lib.ListN.{replicate}
use Rattle.words.specs.Lists.{all, up_from}
use Rattle.book.specs.Book.{Book}
use Rattle.book.specs.FormFacts.{FormFacts}
use Rattle.book.specs.Layout.{book_of}
use Rattle.model.specs.Audit.{count_sound, expiry_sound, prints_sound, audit}
use Rattle.model.specs.Journal.{journal}
use Rattle.model.specs.JournalAt.{taken_sound}
use Rattle.auditor.proofs.AuditPasses.{no_cells, audit_passes, formed-audit}
use Rattle.accounts.specs.Entries.{entries_match}
use Rattle.accounts.proofs.EntryLaws.{entries-sound}
use Rattle.accounts.specs.MapsTaken.{MapsTaken}
use Rattle.replay.specs.Slots.{JournalTaken}
use Rattle.due.specs.Pool.{pool_blocks}
use Rattle.replay.specs.Table.{table_after, table_befores}
use Rattle.accounts.specs.TableMaps.{table_matches}

module _ {b : List ℕ} (f : FormFacts b) {j : Bool} {c e : List ℕ} (t : JournalTaken (book_of b) j no_cells (replicate pool_blocks 0) c e) where
  abbrev x : Book
  x = book_of b

  pub journal-no : j ≡ false → false ≡ audit x
  unfolding audit_passes
  journal-no k = sym (formed-audit f ∙ rw (sym t.test ∙ k))

  module _ (j-yes : j ≡ true) {m : Bool} {a : List ℕ} (w : MapsTaken x c m a) where
    journal-yes : (table_befores no_cells (journal x) && all (taken_sound x) (journal x)) ≡ true
    journal-yes = sym t.test ∙ j-yes

    maps-test : m ≡ table_matches x.maps x.sizes.l (table_after no_cells (journal x))
    maps-test = rw t.cells at w.test

    pub maps-no : m ≡ false → false ≡ audit x
    unfolding audit_passes
    maps-no k = sym (formed-audit f ∙ rw (journal-yes, sym maps-test ∙ k))

    module _ (m-yes : m ≡ true) {g : Bool} (h : g ≡ entries_match x.entries a e x.sizes.n) where
      entries-test : g ≡ (all (count_sound x) (up_from 0 x.sizes.n) && all (expiry_sound x) (up_from 0 x.sizes.n))
      entries-test = entries-sound f w.counts t.expiries h

      pub entries-no : g ≡ false → false ≡ audit x
      unfolding audit_passes
      entries-no k = sym (formed-audit f ∙ rw (journal-yes, sym maps-test ∙ m-yes, sym entries-test ∙ k))

      pub prints-last : g ≡ true → {r : Bool} → r ≡ prints_sound x → r ≡ audit x
      unfolding audit_passes
      prints-last k l = l ∙ sym (formed-audit f ∙ rw (journal-yes, sym maps-test ∙ m-yes, sym entries-test ∙ k))
