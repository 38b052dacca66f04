-- In a book in form an image names blocks of the pool, or none.
use Prim.Native.Nat.{ℕ, ◌<◌}
use mathlib.Core.Path.{◌≡◌, refl, ◌∙◌}
use mathlib.Core.Logic.{◌⊎◌}
use mathlib.Core.Bool.{Bool, true, false, ◌&&◌}
use mathlib.Core.List.{List, [], ◌∷◌}
use mathlib.Core.Option.{Option, none, some}
use lib.Dec.{ltb, eqb}
use lib.ListN.{take, drop}
use Rattle.words.proofs.Appends.{all_append}
use Rattle.words.specs.Blocks.{unmapped}
use Rattle.words.specs.Choice.{when◌then◌else◌}
use Rattle.words.proofs.ChoiceLaws.{and_true, true_and}
use Rattle.words.specs.Lists.{all, first_that}
use Rattle.words.proofs.Places.{all_take, all_drop, all-those, all_weaker}
use Rattle.book.specs.Book.{Sizes, Slot, Rec, Book, cell_at}
use Rattle.book.proofs.Conditions.{pbn-cases, cell_in}
use Rattle.book.specs.Form.{pbn_ok, rec_ok}
use Rattle.book.specs.FormFacts.{BookParts}
use Rattle.model.specs.Journal.{Backup, journal_of, journal, slots_of}
use Rattle.model.specs.JournalAt.{own_from, first_before, image_from}
use Rattle.model.specs.Read.{records_of, before_or, image}

-- what holds of all records holds of each backup's, and of the first that passes a test
module _ (g : Rec → Bool) where
  abbrev all_of : Backup → Bool
  all_of b = all g b.records

  all-journal : (gone ts : List Slot) (rs : List Rec) → all g rs ≡ true → all all_of (journal_of gone ts rs) ≡ true
  all-journal gone [] rs e = refl
  all-journal gone (t ∷ ts) rs e =
      true_and (all g (take t.number rs)) (all all_of (journal_of (t ∷ gone) ts (drop t.number rs)))
      (all_take g t.number rs e)
      (all-journal (t ∷ gone) ts (drop t.number rs) (all_drop g t.number rs e))

  all-records : (bs : List Backup) → all all_of bs ≡ true → all g (records_of bs) ≡ true
  all-records [] e = refl
  all-records (b ∷ bs) e =
      let w = and_true (all g b.records) (all all_of bs) e in
      all_append g b.records (records_of bs) ∙ true_and (all g b.records) (all g (records_of bs)) w.0 (all-records bs w.1)

  first_passes : (f : Rec → Bool) (rs : List Rec) (r : Rec) → all g rs ≡ true → first_that f rs ≡ some r → g r ≡ true
  first_passes f [] r e h = let z = h in cc
  first_passes f (q ∷ rs) r e h = go (f q) h (and_true (g q) (all g rs) e) (first_passes f rs r)
    where
      go : (t : Bool) → (when t then some q else first_that f rs) ≡ some r → (g q ≡ true) × (all g rs ≡ true)
          → (all g rs ≡ true → first_that f rs ≡ some r → g r ≡ true) → g r ≡ true
      go true k w ih = let a = w.0 in cc
      go false k w ih = ih w.1 k

before-ok : (z : Sizes) (r : Rec) → rec_ok z r ≡ true → pbn_ok z.n r.before ≡ true
unfolding rec_ok
before-ok z r e =
    (and_true (ltb r.lbn z.l) (pbn_ok z.n r.before)
    (and_true (ltb r.lbn z.l && pbn_ok z.n r.before) (pbn_ok z.n r.after) e).0).1

abbrev before_ok : Book → Rec → Bool
before_ok x r = pbn_ok x.sizes.n r.before

journal-ok : (x : Book) → BookParts x → all (all_of (before_ok x)) (journal x) ≡ true
unfolding journal
journal-ok x h =
    all-journal (before_ok x) [] x.slots x.records
    (all_weaker (rec_ok x.sizes) (before_ok x) x.records (before-ok x.sizes) h.records)

-- the before of a first record, else the current map
before_in : (x : Book) → BookParts x → (v lbn : ℕ) (rs : List Rec) → all (before_ok x) rs ≡ true
    → (first_before lbn rs (cell_at x.maps v lbn) < x.sizes.n) ⊎ (first_before lbn rs (cell_at x.maps v lbn) ≡ unmapped)
before_in x h v lbn rs ok = go (first_that has rs) refl
  where
    has : Rec → Bool
    has r = eqb r.lbn lbn

    go : (o : Option Rec) → first_that has rs ≡ o
        → (before_or (cell_at x.maps v lbn) o < x.sizes.n) ⊎ (before_or (cell_at x.maps v lbn) o ≡ unmapped)
    go none e = cell_in x h v lbn
    go (some r) e = pbn-cases x.sizes.n r.before (first_passes (before_ok x) has rs r ok e)

pub image_in : (x : Book) → BookParts x → (v k lbn : ℕ) → (image x v k lbn < x.sizes.n) ⊎ (image x v k lbn ≡ unmapped)
unfolding image slots_of
image_in x h v k lbn =
    before_in x h v lbn (records_of (drop k (slots_of x v)))
    (all-records (before_ok x) (drop k (slots_of x v))
    (all_drop (all_of (before_ok x)) k (slots_of x v)
    (all-those (all_of (before_ok x)) (λ b. eqb b.volume v) (journal x) (journal-ok x h))))

pub image_from_in : (x : Book) → BookParts x → (v q lbn : ℕ)
    → (image_from x v q lbn < x.sizes.n) ⊎ (image_from x v q lbn ≡ unmapped)
unfolding image_from own_from
image_from_in x h v q lbn =
    before_in x h v lbn (records_of (own_from x v q))
    (all-records (before_ok x) (own_from x v q)
    (all-those (all_of (before_ok x)) (λ b. eqb b.volume v) (drop q (journal x))
    (all_drop (all_of (before_ok x)) q (journal x) (journal-ok x h))))
