-- Laws of specs/Slots.antt.
-- The journal, taken slot by slot.
use Prim.Native.Nat.{ℕ, ◌+◌, ◌*◌, ◌≤◌, ◌<◌}
use mathlib.Core.Path.{◌≡◌, refl, sym, ap, ◌∙◌}
use mathlib.Core.Bool.{Bool, true, false, ◌&&◌}
use mathlib.Core.List.{List}
use native.Mathlib.Omega.{arith}
use lib.Dec.{ltb}
use lib.ListN.{length, get_or, take, drop}
use lib.Seq.{slice}
use borrow.Author.Tests.{ltb-true, ltb-false, le-leb, lt-leb}
use Rattle.words.proofs.ChoiceLaws.{and_assoc, and-swap, and_yes}
use Rattle.words.specs.Lists.{all}
use Rattle.words.proofs.Places.{all_take, all_drop}
use Rattle.book.specs.Book.{Book, slot_at}
use Rattle.book.specs.Form.{rec_ok}
use Rattle.book.specs.FormFacts.{FormFacts}
use Rattle.book.specs.Layout.{book_of}
use Rattle.journal.specs.Struct.{SlotIs}
use Rattle.journal.specs.declared.slot.Slot as read
use Rattle.model.specs.Audit.{until_in}
use Rattle.model.specs.Journal.{Backup, journal}
use Rattle.model.specs.JournalAt.{backup_at}
use Rattle.claims.proofs.kept.JournalAtLaws.{journal-next, journal-end, volume-at}
use Rattle.model.specs.JournalAt.{taken_sound}
use Rattle.due.specs.Lasts.{due_in}
use Rattle.due.proofs.ExpiryLaws.{Raising, raising_start, raising_slot, raising_journal}
use Rattle.due.proofs.SlotReads.{records-read}
use Rattle.replay.specs.Records.{Notes, notes, RecordsTaken}
use Rattle.replay.specs.Stamps.{firsts_sound}
use Rattle.replay.proofs.StampLaws.{firsts-past, firsts-fresh, stamped-low, length-stamped}
use Rattle.replay.specs.Table.{row_size, cells_after, cells_before, table_after, table_befores}
use Rattle.replay.specs.Slots.{SlotTaken, JournalTaken}
use Rattle.replay.specs.declared.records.Taking.{Taking}

module _ (x : Book) (b : Backup) where
  -- fresh stamps find the first records, and a backup whose day is past is not asked
  firsts-taken : (past : Bool) → past ≡ ltb (due_in x b) x.day → (k : ℕ) (a : List ℕ) → x.sizes.l ≤ row_size
      → length a ≡ row_size → ((l : ℕ) → get_or a l 0 ≤ k)
      → all (rec_ok x.sizes) b.records ≡ true → firsts_sound x past (k + 1) a b.records ≡ taken_sound x b
  unfolding taken_sound
  firsts-taken true e k a small long low ok =
      firsts-past x (k + 1) a b.records ∙ rw (lt-leb x.day (due_in x b) (ltb-true (due_in x b) x.day (sym e)))
  firsts-taken false e k a small long low ok =
      firsts-fresh x (k + 1) b.records x.sizes a (omega arith) ok (λ l. omega (arith, low l))
      ∙ rw (le-leb x.day (due_in x b) (ltb-false (due_in x b) x.day (sym e)))

  taken-slot : (k : ℕ) {n n' : Notes} {good past : Bool} → past ≡ ltb (due_in x b) x.day → x.sizes.l ≤ row_size
      → length n.stamps ≡ row_size
      → ((l : ℕ) → get_or n.stamps l 0 ≤ k) → all (rec_ok x.sizes) b.records ≡ true
      → RecordsTaken x (record { volume = b.volume; until = due_in x b; past = past; stamp = k + 1 }) b.records good n
      n' → SlotTaken x b (k + 1) good n n'
  taken-slot k {n} {n'} {good} {past} e small long low ok w =
      record {
        test =
            w.test ∙ ap (λ (f : Bool). cells_before (b.volume * row_size) n.cells b.records && f)
            (firsts-taken past e k n.stamps small long low ok);
        cells = w.cells;
        expiries = w.expiries;
        long = ap length w.stamps ∙ length-stamped (k + 1) n.stamps b.records ∙ long;
        low = λ l. rw w.stamps (stamped-low (k + 1) n.stamps b.records (λ j. omega (arith, low j)) l);
      }

-- the same of a slot as the code has it; t is what its records were taken with
pub slot-taken : {b : List ℕ} → FormFacts b → (q : ℕ) → q < length (book_of b).slots → {r : read.Slot}
    → SlotIs (slot_at (book_of b).slots q) r → {n n' : Notes} {good : Bool} {t : Taking}
    → length n.stamps ≡ row_size → ((l : ℕ) → get_or n.stamps l 0 ≤ q)
    → RecordsTaken (book_of b) t (slice r.first (r.first + r.number) (book_of b).records) good n n'
    → t.volume ≡ r.volume → t.until ≡ due_in (book_of b) (backup_at (book_of b) q)
    → t.past ≡ ltb (due_in (book_of b) (backup_at (book_of b) q)) (book_of b).day → t.stamp ≡ q + 1
    → SlotTaken (book_of b) (backup_at (book_of b) q) (q + 1) good n n'
slot-taken {b} f q h {r} i {t = t} long low w v u past stamp =
    let x = book_of b in
    let volume : t.volume ≡ (backup_at x q).volume = v ∙ i.volume ∙ sym (volume-at x q) in
    let records = records-read f.holds f.parts q h i in
    let ok : all (rec_ok x.sizes) (backup_at x q).records ≡ true =
    rw records (all_drop (rec_ok x.sizes) r.first (take (r.first + r.number) x.records)
    (all_take (rec_ok x.sizes) (r.first + r.number) x.records f.parts.records))
    in
    let same : t ≡ record {
      volume = (backup_at x q).volume;
      until = due_in x (backup_at x q);
      past = ltb (due_in x (backup_at x q)) x.day;
      stamp = q + 1;
    } =
    λ j. record { volume = volume j; until = u j; past = past j; stamp = stamp j }
    in
    taken-slot x (backup_at x q) q refl f.holds.l long low ok (rw (same, ← records) at w)

-- ---- the whole journal

-- a pass so far: the backups from slot q on decide as the whole journal does
pub record SlotsLeft (x : Book) (c₀ e₀ : List ℕ) (good : Bool) (n : Notes) (q : ℕ) : Type 0 where
  pub test : (table_befores c₀ (journal x) && all (taken_sound x) (journal x))
      ≡ (good && (table_befores n.cells (drop q (journal x)) && all (taken_sound x) (drop q (journal x))))
  pub cells : table_after c₀ (journal x) ≡ table_after n.cells (drop q (journal x))
  pub expiries : Raising e₀ (λ p. until_in x p (journal x)) n.expiries (λ p. until_in x p (drop q (journal x)))
  pub low : (l : ℕ) → get_or n.stamps l 0 ≤ q

module _ (x : Book) (c₀ e₀ : List ℕ) where
  pub slots-start : (s : List ℕ) → ((l : ℕ) → get_or s l 0 ≤ 0) → SlotsLeft x c₀ e₀ true (notes c₀ e₀ s) 0
  slots-start s low = record { test = refl; cells = refl; expiries = raising_start; low = low }

  pub slots-more : {good good' : Bool} {n n' : Notes} (q : ℕ) → q < length x.slots
      → SlotTaken x (backup_at x q) (q + 1) good' n n' → SlotsLeft x c₀ e₀ good n q
      → SlotsLeft x c₀ e₀ (good && good') n' (q + 1)
  slots-more {good} {good'} {n} {n'} q h s w =
      let b = backup_at x q in
      let rest = drop (q + 1) (journal x) in
      let e = journal-next x q h in
      let same = cells_before (b.volume * row_size) n.cells b.records in
      let befores = table_befores (cells_after (b.volume * row_size) n.cells b.records) rest in
      record {
        test =
            w.test
            ∙ rw (e, s.test, s.cells)
            (ap (λ (f : Bool). good && f) (and-swap same befores (taken_sound x b) (all (taken_sound x) rest))
            ∙ sym (and_assoc good (same && taken_sound x b) (befores && all (taken_sound x) rest)));
        cells = w.cells ∙ rw (e, s.cells);
        expiries = raising_slot x q h s.expiries w.expiries;
        low = s.low;
      }

  pub slots_end : {good : Bool} {n : Notes} (q : ℕ) → length x.slots ≤ q → SlotsLeft x c₀ e₀ good n q
      → JournalTaken x good c₀ e₀ n.cells n.expiries
  slots_end {good} q h w =
      let z = journal-end x q h in
      record { test = sym (w.test ∙ rw z (and_yes good)); cells = sym (w.cells ∙ rw z); expiries = raising_journal x q h w.expiries }
