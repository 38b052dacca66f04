-- Laws of model/specs/JournalAt.antt.
-- The journal slot by slot: the backup that a slot holds, a volume's backups in the slots from one on, and what it had before them.
use Prim.Native.Nat.{ℕ, zero, suc, ◌+◌, ◌≤◌, ◌<◌}
use mathlib.Core.Path.{◌≡◌, refl, sym, ap, ◌∙◌}
use mathlib.Core.Bool.{Bool, true, false}
use mathlib.Core.List.{List, [], ◌∷◌, ◌++◌, map}
use mathlib.Core.Option.{some}
use native.Mathlib.Nat.{le_of_suc-le-suc, not-suc-le-zero}
use native.Mathlib.Numerals.{add-one}
use lib.Dec.{eqb}
use lib.ListN.{length, get_or, take, drop, drop_of_length-le}
use lib.Seq.{drop-cons, drop-drop}
use borrow.Author.Tests.{eqb-true, eq-eqb, ne_eqb}
use Rattle.words.proofs.Appends.{joined_append, map_append}
use Rattle.words.proofs.ChoiceLaws.{and_true}
use Rattle.words.specs.Choice.{when◌then◌else◌}
use Rattle.words.specs.Lists.{first_that, joined}
use Rattle.book.specs.Book.{Slot, Rec, Book, no_slot, slot_at, cell_at}
use Rattle.book.specs.Form.{pairs_ok}
use Rattle.model.specs.Journal.{Backup, last_day, since_of, journal_of, journal, slots_of}
use Rattle.model.specs.Read.{records_of, before_or, image}
use Rattle.claims.proofs.kept.JournalLaws.{slots_in_append}
use Rattle.model.specs.JournalAt.{no_backup, backup_at, gone_after, last_before, own_from, own_at, first_before, image_from}

-- ---- its parts are the slot's

length-journal_of : (gone ts : List Slot) (rs : List Rec) → length (journal_of gone ts rs) ≡ length ts
length-journal_of gone [] rs = refl
length-journal_of gone (t ∷ ts) rs = ap suc (length-journal_of (t ∷ gone) ts (drop t.number rs))

volume_in : (gone ts : List Slot) (rs : List Rec) (q : ℕ) → (get_or (journal_of gone ts rs) q no_backup).volume ≡ (slot_at ts q).volume
unfolding no_slot
volume_in gone [] rs q = refl
volume_in gone (t ∷ ts) rs zero = refl
volume_in gone (t ∷ ts) rs (suc q) = volume_in (t ∷ gone) ts (drop t.number rs) q

day_in : (gone ts : List Slot) (rs : List Rec) (q : ℕ) → (get_or (journal_of gone ts rs) q no_backup).day ≡ (slot_at ts q).day
unfolding no_slot
day_in gone [] rs q = refl
day_in gone (t ∷ ts) rs zero = refl
day_in gone (t ∷ ts) rs (suc q) = day_in (t ∷ gone) ts (drop t.number rs) q

records_in : (gone ts : List Slot) (rs : List Rec) (at u q : ℕ) → pairs_ok at ts u ≡ true → q < length ts
    → (get_or (journal_of gone ts (drop at rs)) q no_backup).records ≡ take (slot_at ts q).number (drop (slot_at ts q).first rs)
records_in gone [] rs at u q e h = absurd (not-suc-le-zero h)
records_in gone (t ∷ ts) rs at u zero e h =
    ap (λ (k : ℕ). take t.number (drop k rs))
    (sym (eqb-true t.first at (and_true (eqb t.first at) (pairs_ok (at + t.number) ts u) e).0))
records_in gone (t ∷ ts) rs at u (suc q) e h =
    rw (drop-drop t.number at rs)
    (records_in (t ∷ gone) ts rs (at + t.number) u q (and_true (eqb t.first at) (pairs_ok (at + t.number) ts u) e).1 (le_of_suc-le-suc h))

prev_in : (gone ts : List Slot) (rs : List Rec) (q : ℕ) → q < length ts
    → (get_or (journal_of gone ts rs) q no_backup).prev ≡ last_day (slot_at ts q).volume (gone_after gone (take q ts))
prev_in gone [] rs q h = absurd (not-suc-le-zero h)
prev_in gone (t ∷ ts) rs zero h = refl
prev_in gone (t ∷ ts) rs (suc q) h = prev_in (t ∷ gone) ts (drop t.number rs) q (le_of_suc-le-suc h)

-- slot q is the newest of those before slot q + 1
gone-next : (gone ts : List Slot) (q : ℕ) → q < length ts → gone_after gone (take (suc q) ts) ≡ slot_at ts q ∷ gone_after gone (take q ts)
gone-next gone [] q h = absurd (not-suc-le-zero h)
gone-next gone (t ∷ ts) zero h = refl
gone-next gone (t ∷ ts) (suc q) h = gone-next (t ∷ gone) ts q (le_of_suc-le-suc h)

pub length-journal : (x : Book) → length (journal x) ≡ length x.slots
unfolding journal
length-journal x = length-journal_of [] x.slots x.records

module _ (x : Book) (q : ℕ) where
  -- the backup of slot q, and those after it
  pub journal-next : q < length x.slots → drop q (journal x) ≡ backup_at x q ∷ drop (q + 1) (journal x)
  journal-next h = rw (add-one q) (drop-cons (journal x) q no_backup (rw (length-journal x) h))

  pub journal-end : length x.slots ≤ q → drop q (journal x) ≡ []
  journal-end h = drop_of_length-le (journal x) {i = q} (rw (length-journal x) h)

  pub volume-at : (backup_at x q).volume ≡ (slot_at x.slots q).volume
  unfolding journal
  volume-at = volume_in [] x.slots x.records q

  pub day-at : (backup_at x q).day ≡ (slot_at x.slots q).day
  unfolding journal
  day-at = day_in [] x.slots x.records q

  -- the day before it, and what becomes of the volumes' last days
  pub since_at : q < length x.slots → since_of (backup_at x q).prev ≡ last_before x q (slot_at x.slots q).volume
  unfolding journal
  since_at h = ap since_of (prev_in [] x.slots x.records q h)

  pub last-next : (v : ℕ) → q < length x.slots
      → last_before x (q + 1) v ≡ (when eqb (slot_at x.slots q).volume v then (slot_at x.slots q).day else last_before x q v)
  last-next v h =
      rw (add-one q, gone-next [] x.slots q h) (go (eqb (slot_at x.slots q).volume v))
    where
      go : (t : Bool) → since_of (when t then some (slot_at x.slots q).day else last_day v (gone_after [] (take q x.slots)))
          ≡ (when t then (slot_at x.slots q).day else last_before x q v)
      go true = refl
      go false = refl

  -- in a book in form, a slot's records stand where its pair says
  pub records-at : pairs_ok 0 x.slots (length x.records) ≡ true → q < length x.slots
      → (backup_at x q).records ≡ take (slot_at x.slots q).number (drop (slot_at x.slots q).first x.records)
  unfolding journal
  records-at e h = records_in [] x.slots x.records 0 (length x.records) q e h

-- ---- the volume's backups in the slots from q on

pub from_start : (x : Book) (v : ℕ) → own_from x v 0 ≡ slots_of x v
unfolding own_from slots_of
from_start x v = refl

module _ (x : Book) (v q : ℕ) where
  -- slot q is the volume's, or another's
  pub from-own : q < length x.slots → (slot_at x.slots q).volume ≡ v → own_from x v q ≡ backup_at x q ∷ own_from x v (q + 1)
  unfolding own_from
  from-own h e = rw (journal-next x q h, eq-eqb (backup_at x q).volume v (volume-at x q ∙ e))

  pub from-other : q < length x.slots → ((slot_at x.slots q).volume ≡ v → ⊥) → own_from x v q ≡ own_from x v (q + 1)
  unfolding own_from
  from-other h n = rw (journal-next x q h, ne_eqb (backup_at x q).volume v (λ e. n (sym (volume-at x q) ∙ e)))

  pub from-split : q < length x.slots → own_from x v q ≡ own_at x v q ++ own_from x v (q + 1)
  unfolding own_from
  from-split h = rw (journal-next x q h) (slots_in_append v (backup_at x q ∷ []) (drop (q + 1) (journal x)))

  pub from_end : length x.slots ≤ q → own_from x v q ≡ []
  unfolding own_from
  from_end h = rw (journal-end x q h)

-- ---- what the volume had before its backups in the slots from q on

pub first_before_append : (l : ℕ) (rs qs : List Rec) (p : ℕ) → first_before l (rs ++ qs) p ≡ first_before l rs (first_before l qs p)
first_before_append l [] qs p = refl
first_before_append l (r ∷ rs) qs p = go (eqb r.lbn l) (first_before_append l rs qs p)
  where
    go : (t : Bool) → first_before l (rs ++ qs) p ≡ first_before l rs (first_before l qs p)
        → before_or p (when t then some r else first_that (λ r. eqb r.lbn l) (rs ++ qs))
        ≡ before_or (first_before l qs p) (when t then some r else first_that (λ r. eqb r.lbn l) rs)
    go true ih = refl
    go false ih = ih

pub records_of_append : (bs cs : List Backup) → records_of (bs ++ cs) ≡ records_of bs ++ records_of cs
records_of_append bs cs =
    ap joined (map_append (λ (b : Backup). b.records) bs cs)
    ∙ joined_append (map (λ (b : Backup). b.records) bs) (map (λ (b : Backup). b.records) cs)

module _ (x : Book) (v q l : ℕ) where
  -- what slot q's records say, and else what it had before the later ones
  pub image-split : q < length x.slots → image_from x v q l ≡ first_before l (records_of (own_at x v q)) (image_from x v (q + 1) l)
  unfolding image_from
  image-split h =
      rw (from-split x v q h, records_of_append (own_at x v q) (own_from x v (q + 1)))
      (first_before_append l (records_of (own_at x v q)) (records_of (own_from x v (q + 1))) (cell_at x.maps v l))

  pub image-end : length x.slots ≤ q → image_from x v q l ≡ cell_at x.maps v l
  unfolding image_from
  image-end h = rw (from_end x v q h)

  -- where these are the backups after k, it is the image of k
  pub image-from : (k : ℕ) → drop k (slots_of x v) ≡ own_from x v q → image x v k l ≡ image_from x v q l
  unfolding image image_from
  image-from k e = rw e
