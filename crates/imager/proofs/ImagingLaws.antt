-- Laws of specs/Imaging.antt: the current map cell by cell, and one record and one slot further back.
use Prim.Native.Nat.{ℕ, suc, ◌+◌, ◌-◌, ◌≤◌, ◌<◌}
use mathlib.Core.Path.{◌≡◌, refl, sym, ap, ◌∙◌}
use mathlib.Core.Bool.{Bool, true, false}
use mathlib.Core.List.{List, [], ◌∷◌, append-nil}
use mathlib.Core.Logic.{◌⊎◌, inl, inr}
use mathlib.Core.Option.{some}
use native.Mathlib.Omega.{arith}
use lib.Dec.{eqb}
use lib.ListN.{length, get_or, set, length-set}
use lib.Seq.{slice, slice-cons, get_or-set_same, get_or-set_other}
use borrow.Author.Count.{below_more}
use borrow.Author.Tests.{eq-eqb, ne_eqb, eqb-true, eqb-false}
use Rattle.words.proofs.Parts.{drop-take}
use Rattle.words.proofs.Ranges.{below_or_not}
use Rattle.words.specs.Choice.{when◌then◌else◌}
use Rattle.words.specs.Lists.{first_that}
use Rattle.book.specs.Book.{Rec, Book, no_rec, slot_at, rec_at, cell_at}
use Rattle.book.specs.Form.{pairs_ok}
use Rattle.journal.specs.Struct.{SlotIs, RecordIs}
use Rattle.journal.specs.declared.record.Record.{Record}
use Rattle.journal.specs.declared.slot.Slot.{Slot}
use Rattle.model.specs.Read.{records_of, before_or}
use Rattle.model.specs.JournalAt.{backup_at, own_at, first_before, image_from}
use Rattle.claims.proofs.kept.JournalAtLaws.{volume-at, records-at, image-split, image-end}
use Rattle.imager.specs.Imaging.{image_size, Imaged, Undone}

-- ---- the current map, of which the first l cells are copied

pub record Copied (x : Book) (v l : ℕ) (a : List ℕ) : Type 0 where
  pub long : length a ≡ image_size
  pub cells : (k : ℕ) → k < l → get_or a k 0 ≡ cell_at x.maps v k

module _ (x : Book) (v : ℕ) where
  pub copied_more : {a : List ℕ} {l p : ℕ} → Copied x v l a → l < image_size → p ≡ cell_at x.maps v l → Copied x v (l + 1) (set a l p)
  copied_more {a} {l} {p} c h e = record {
    long = length-set a l p ∙ c.long;
    cells =
        below_more _ l (λ k b. get_or-set_other a l k p 0 (λ q. omega arith) ∙ c.cells k b)
        (get_or-set_same a l p 0 (omega (arith, c.long)) ∙ e);
  }

  -- the current map is what the volume had before no backup
  pub copied_all : {a : List ℕ} {l : ℕ} → Copied x v l a → x.sizes.l ≤ l → Imaged x v (length x.slots) a
  copied_all c h = record {
    long = c.long;
    cells = λ k b. c.cells k (omega arith) ∙ sym (image-end x v (length x.slots) k (omega arith));
  }

-- ---- records

module _ (x : Book) where
  pub undone_none : {a : List ℕ} → Undone x [] a a
  undone_none = record { long = refl; cells = λ l h. refl }

  undone_one : {rs : List Rec} {a a' : List ℕ} (r : Rec) → r.lbn < length a' → Undone x rs a a'
      → Undone x (r ∷ rs) a (set a' r.lbn r.before)
  undone_one {rs} {a} {a'} r i u = record {
    long = length-set a' r.lbn r.before ∙ u.long;
    cells = λ l h. go l (eqb r.lbn l) refl (u.cells l h);
  }
    where
      go : (l : ℕ) (t : Bool) → eqb r.lbn l ≡ t → get_or a' l 0 ≡ first_before l rs (get_or a l 0)
          → get_or (set a' r.lbn r.before) l 0
          ≡ before_or (get_or a l 0) (when t then some r else first_that (λ r. eqb r.lbn l) rs)
      go l true e ih = rw (← (eqb-true r.lbn l e)) (get_or-set_same a' r.lbn r.before 0 i)
      go l false e ih = get_or-set_other a' r.lbn l r.before 0 (λ q. eqb-false r.lbn l e (sym q)) ∙ ih

  module _ {a : List ℕ} (rs : List Rec) (end : ℕ) where
    -- the record before those that are taken back
    pub undone_more : {a' : List ℕ} {q : ℕ} {r : Record} → 0 < q → q ≤ end → end ≤ length rs → RecordIs (rec_at rs (q - 1)) r
        → r.lbn.0 < length a' → Undone x (slice q end rs) a a' → Undone x (slice (q - 1) end rs) a (set a' r.lbn.0 r.before.0)
    undone_more {q = q} {r = r} h k n i b u =
        let e : suc (q - 1) ≡ q = omega arith in
        let t = rec_at rs (q - 1) in
        rw (slice-cons (q - 1) end rs no_rec (omega arith) n, e, i.lbn, i.before) (undone_one t (omega (arith, i.lbn)) u)

-- ---- one slot, where it is the volume's

module _ (x : Book) (v q : ℕ) {a : List ℕ} {t : Slot} (s : SlotIs (slot_at x.slots q) t) where
  pub undone_own : {a' : List ℕ} → pairs_ok 0 x.slots (length x.records) ≡ true → q < length x.slots → t.volume ≡ v
      → Undone x (slice t.first (t.first + t.number) x.records) a a' → Undone x (records_of (own_at x v q)) a a'
  undone_own p h e u =
      let own = eq-eqb (backup_at x q).volume v (volume-at x q ∙ sym s.volume ∙ e) in
      rw (own, append-nil, records-at x q p h, ← s.number, ← s.first, ← (drop-take t.first t.number x.records)) u

  pub undone_other : (t.volume ≡ v → ⊥) → Undone x (records_of (own_at x v q)) a a
  undone_other n =
      rw (ne_eqb (backup_at x q).volume v (λ e. n (s.volume ∙ sym (volume-at x q) ∙ e))) (undone_none x)

-- ---- the slots from the last one on

module _ (x : Book) (v : ℕ) where
  pub imaged_more : {a a' : List ℕ} {q : ℕ} → 0 < q → q ≤ length x.slots → Imaged x v q a
      → Undone x (records_of (own_at x v (q - 1))) a a' → Imaged x v (q - 1) a'
  imaged_more {a} {a'} {q} h k i u =
      let e : q - 1 + 1 ≡ q = omega arith in
      record {
        long = u.long ∙ i.long;
        cells = λ l b.
            u.cells l b
            ∙ ap (first_before l (records_of (own_at x v (q - 1)))) (i.cells l b ∙ ap (λ (n : ℕ). image_from x v n l) (sym e))
            ∙ sym (image-split x v (q - 1) l (omega arith));
      }

  -- the slots down to `at` are taken back; where `at` is past the used ones, none is
  pub imaged_end : {a : List ℕ} {q : ℕ} (at : ℕ) → q ≤ at → length x.slots ≤ q + (length x.slots - at)
      → Imaged x v q a → Imaged x v at a
  imaged_end {a} {q} at h k i = go (below_or_not at (length x.slots))
    where
      go : (at < length x.slots) ⊎ (length x.slots ≤ at) → Imaged x v at a
      go (inl l) = let e : at ≡ q = omega arith in rw e i
      go (inr g) = record {
        long = i.long;
        cells = λ l b. i.cells l b ∙ image-end x v q l (omega arith) ∙ sym (image-end x v at l g);
      }
