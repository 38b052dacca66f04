-- Laws of specs/Row.antt.
-- The row of a slot, by the volume's slot that came after it.
use Prim.Native.Nat.{ℕ, ◌+◌, ◌≤◌, ◌<◌}
use mathlib.Core.Path.{◌≡◌, refl, sym, ap, ◌∙◌}
use mathlib.Core.Bool.{true, false}
use mathlib.Core.List.{List, [], ◌∷◌, map}
use mathlib.Core.Logic.{◌⊎◌, inl, inr}
use native.Mathlib.Numerals.{add-one}
use native.Mathlib.Omega.{arith}
use lib.ListN.{length, drop, length-drop}
use lib.Seq.{sets, length-take-le}
use borrow.Author.Tests.{lt-ltb, le-ltb}
use Rattle.words.specs.Choice.{when◌then◌else◌}
use Rattle.words.specs.Lists.{bit}
use Rattle.words.specs.Laying.{Stored}
use Rattle.words.proofs.LayingLaws.{sets_append}
use Rattle.words.specs.Numbers.{two, put}
use Rattle.words.proofs.Ranges.{below_or_not}
use Rattle.words.specs.Sections.{flat}
use Rattle.book.specs.Book.{Book, slot_at}
use Rattle.book.proofs.Conditions.{pairs_in}
use Rattle.book.specs.Form.{pairs_ok}
use Rattle.journal.specs.Struct.{SlotIs}
use Rattle.journal.specs.declared.slot.Slot.{Slot}
use Rattle.model.specs.Days.{kept_by}
use Rattle.model.specs.Journal.{Backup}
use Rattle.model.specs.JournalAt.{backup_at, own_from}
use Rattle.claims.proofs.kept.JournalAtLaws.{day-at, records-at, from-own, from_end}
use Rattle.claims.proofs.kept.RetireAt.{retire-at}
use Rattle.model.specs.Views.{kept_until, backup_row}
use Rattle.keeping.specs.After.{kept_from}
use Rattle.keeping.proofs.AfterLaws.{kept_from_lem}
use Rattle.calendar.specs.Own.{NextIs}
use Rattle.calendar.specs.Row.{row_size, until_from, row_from}

pub until_newest : (x : Book) (t at r : ℕ) → length x.slots ≤ at → until_from x t at r ≡ 65535
unfolding until_from
until_newest x t at r h = rw (le-ltb at (length x.slots) h)

pub until_older : (x : Book) (t at r : ℕ) → at < length x.slots → until_from x t at r ≡ t + r
unfolding until_from
until_older x t at r h = rw (lt-ltb at (length x.slots) h)

-- ---- as it is stored

put_two : (l : List ℕ) (at n : ℕ) → put l at n ≡ sets l at (two n)
put_two l at n = rw (add-one at)

module _ {out out₁ out₂ : List ℕ} {at : ℕ} where
  four_stored : (a b c d : ℕ) → out₁ ≡ sets out at (flat two (a ∷ b ∷ c ∷ [])) → out₂ ≡ put out₁ (at + 6) d
      → Stored out at (flat two (a ∷ b ∷ c ∷ d ∷ [])) out₂ (at + row_size)
  four_stored a b c d e f = record {
    list =
        f
        ∙ put_two out₁ (at + 6) d
        ∙ ap (λ (l : List ℕ). sets l (at + 6) (two d)) e
        ∙ sets_append (flat two (a ∷ b ∷ c ∷ [])) (two d) out at;
    place = refl;
  }

  pub row-stored : (x : Book) (q next r : ℕ) {t : Slot} {u k : ℕ}
      → SlotIs (slot_at x.slots q) t → t.retire ≡ false → u ≡ until_from x t.day next r → k ≡ bit (kept_from x t.day next r)
      → out₁ ≡ sets out at (flat two (t.day ∷ t.number ∷ u ∷ [])) → out₂ ≡ put out₁ (at + 6) k
      → Stored out at (row_from x q next r) out₂ (at + row_size)
  row-stored x q next r {t} {u} {k} s b i j e f =
      rw (← s.retire, b, ← s.day, ← s.number, ← i, ← j) (four_stored t.day t.number u k e f)

-- nothing is, of a retire slot
pub row-none : (x : Book) (q next r : ℕ) {out : List ℕ} {at : ℕ} {t : Slot} → SlotIs (slot_at x.slots q) t → t.retire ≡ true
    → Stored out at (row_from x q next r) out at
row-none x q next r s e = rw (← s.retire, e) (record { list = refl; place = omega arith })

-- how much room it takes
pub row-length : (x : Book) (q next r : ℕ) {t : Slot} → SlotIs (slot_at x.slots q) t → t.retire ≡ false → length (row_from x q next r) ≡ row_size
row-length x q next r s e = rw (← s.retire, e)

-- ---- as the definitions have it

abbrev days_of : List Backup → List ℕ
days_of bs = map (λ (b : Backup). b.day) bs

module _ (x : Book) (v q next : ℕ) (n : NextIs x v q next) (t r : ℕ) where
  until-is : kept_until t (days_of (own_from x v q)) r ≡ until_from x t next r
  until-is = rw n.later (go (below_or_not next (length x.slots)))
    where
      go : (next < length x.slots) ⊎ (length x.slots ≤ next)
          → kept_until t (days_of (own_from x v next)) r ≡ until_from x t next r
      go (inl l) = rw (from-own x v next l (n.own l)) (sym (until_older x t next r l))
      go (inr g) = rw (from_end x v next g) (sym (until_newest x t next r g))

  kept-is : kept_by t (days_of (own_from x v q)) r x.day ≡ kept_from x t next r
  kept-is = rw n.later (kept_from_lem x v t next r n.own)

module _ (x : Book) (q : ℕ) (p : pairs_ok 0 x.slots (length x.records) ≡ true) (h : q < length x.slots) where
  number_is : length (backup_at x q).records ≡ (slot_at x.slots q).number
  number_is =
      let t = slot_at x.slots q in
      let room = pairs_in x.slots 0 (length x.records) p q h in
      ap length (records-at x q p h) ∙ length-take-le t.number (drop t.first x.records) (rw length-drop (omega arith))

  pub row_is : (v r next : ℕ) → NextIs x v (q + 1) next
      → (when (backup_at x q).retire then [] else backup_row (backup_at x q) (map (λ (b : Backup). b.day) (own_from x v (q + 1))) r x.day)
      ≡ row_from x q next r
  row_is v r next n =
      let t = (slot_at x.slots q).day in
      rw (retire-at x q, day-at x q, number_is, until-is x v (q + 1) next n t r, kept-is x v (q + 1) next n t r)
