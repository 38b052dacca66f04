-- In a book in form every cell of every image is unmapped or below N.
use Prim.Native.Nat.{ℕ}
use mathlib.Core.Path.{◌≡◌, refl}
use mathlib.Core.Bool.{Bool, true, ◌&&◌}
use mathlib.Core.List.{List, [], ◌∷◌}
use lib.Dec.{ltb, eqb}
use lib.ListN.{get_or, set, take, drop}
use Rattle.words.specs.Blocks.{unmapped}
use Rattle.words.proofs.ChoiceLaws.{and_true, true_and, or_r}
use Rattle.words.specs.Lists.{all}
use Rattle.words.proofs.Places.{all_get_d, all_take, all_drop, all-those, all_set, all_replicate, all_weaker}
use Rattle.book.specs.Book.{Sizes, Slot, Rec, Book}
use Rattle.book.specs.Form.{pbn_ok, rec_ok, book_ok}
use Rattle.book.proofs.Clauses.{book-parts}
use Rattle.model.specs.Journal.{Backup, journal_of, journal, slots_in}
use Rattle.model.specs.Audit.{applied}
use Rattle.model.specs.Plain.{maps_of, no_map}
use Rattle.claims.proofs.agreement.Agree.{images_of}

-- ---- what holds of all records holds of each backup's

module _ (f : Rec → Bool) where
  all-journal : (gone ts : List Slot) (rs : List Rec) → all f rs ≡ true → all (λ (b : Backup). all f b.records) (journal_of gone ts rs) ≡ true
  all-journal gone [] rs e = refl
  all-journal gone (t ∷ ts) rs e =
      true_and (all f (take t.number rs)) (all (λ (b : Backup). all f b.records) (journal_of (t ∷ gone) ts (drop t.number rs)))
      (all_take f t.number rs e)
      (all-journal (t ∷ gone) ts (drop t.number rs) (all_drop f t.number rs e))

-- ---- what holds of a map's cells and of all afters holds of the images' cells

module _ (f : ℕ → Bool) where
  all-applied : (m : List ℕ) (rs : List Rec) → all f m ≡ true → all (λ (r : Rec). f r.after) rs ≡ true → all f (applied m rs) ≡ true
  all-applied m [] e k = e
  all-applied m (r ∷ rs) e k =
      let w = and_true (f r.after) (all (λ (r : Rec). f r.after) rs) k in
      all-applied (set m r.lbn r.after) rs (all_set f m r.lbn r.after e w.0) w.1

  all_images : (m : List ℕ) (bs : List Backup) → all f m ≡ true
      → all (λ (b : Backup). all (λ (r : Rec). f r.after) b.records) bs ≡ true
      → all (all f) (maps_of (images_of m bs)) ≡ true
  all_images m [] e k = refl
  all_images m (b ∷ bs) e k =
      let w =
      and_true (all (λ (r : Rec). f r.after) b.records)
      (all (λ (b : Backup). all (λ (r : Rec). f r.after) b.records) bs) k in
      let now = all-applied m b.records e w.0 in
      true_and (all f (applied m b.records)) (all (all f) (maps_of (images_of (applied m b.records) bs)))
      now
      (all_images (applied m b.records) bs now w.1)

-- ---- a book in form

after-ok : (z : Sizes) (r : Rec) → rec_ok z r ≡ true → pbn_ok z.n r.after ≡ true
unfolding rec_ok
after-ok z r e = (and_true (ltb r.lbn z.l && pbn_ok z.n r.before) (pbn_ok z.n r.after) e).1

pub unmapped-ok : (n : ℕ) → pbn_ok n unmapped ≡ true
unfolding pbn_ok
unmapped-ok n = or_r (ltb unmapped n) true refl

pub image-cells : (x : Book) (v k l : ℕ) → book_ok x ≡ true
    → pbn_ok x.sizes.n (get_or (get_or (maps_of (images_of (no_map x.sizes) (slots_in v (journal x)))) k
    (no_map x.sizes)) l unmapped) ≡ true
unfolding journal
image-cells x v k l e =
    all_get_d (pbn_ok n) (get_or (maps_of (images_of (no_map x.sizes) (slots_in v (journal x)))) k (no_map x.sizes)) unmapped l
    (all_get_d (all (pbn_ok n)) (maps_of (images_of (no_map x.sizes) (slots_in v (journal x)))) (no_map x.sizes) k images none)
    (unmapped-ok n)
  where
    n : ℕ
    n = x.sizes.n

    none : all (pbn_ok x.sizes.n) (no_map x.sizes) ≡ true
    none = all_replicate (pbn_ok n) x.sizes.l unmapped (unmapped-ok n)

    records : all (λ (b : Backup). all (λ (r : Rec). pbn_ok n r.after) b.records) (journal x) ≡ true
    records =
        all-journal (λ (r : Rec). pbn_ok n r.after) [] x.slots x.records
        (all_weaker (rec_ok x.sizes) (λ (r : Rec). pbn_ok n r.after) x.records (after-ok x.sizes) (book-parts x e).records)

    images : all (all (pbn_ok n)) (maps_of (images_of (no_map x.sizes) (slots_in v (journal x)))) ≡ true
    images =
        all_images (pbn_ok n) (no_map x.sizes) (slots_in v (journal x)) none
        (all-those (λ (b : Backup). all (λ (r : Rec). pbn_ok n r.after) b.records) (λ b. eqb b.volume v) (journal x) records)
