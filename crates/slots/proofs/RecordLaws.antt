-- Laws of specs/Records.antt.
-- The used records in one pass, slot by slot: what is tested of each, and of what is left.
use Prim.Native.Nat.{ℕ, zero, suc, ◌+◌, ◌*◌, ◌≤◌, ◌<◌}
use mathlib.Core.Path.{◌≡◌, refl, sym, ap, ◌∙◌}
use mathlib.Core.Bool.{Bool, true, false, not, ◌&&◌, ◌||◌}
use mathlib.Core.List.{List, [], ◌∷◌}
use native.Mathlib.Omega.{arith}
use lib.Dec.{ltb, eqb}
use lib.ListN.{length, take, drop, length-drop}
use lib.Seq.{length-take-le, get_or-take, get_or-drop, drop-drop}
use borrow.Author.Tests.{ltb-true, eqb-true}
use Rattle.words.proofs.All.{all-and}
use Rattle.words.proofs.ChoiceLaws.{and_true, and_assoc, and-swap}
use Rattle.words.proofs.Each.{each_same, tab-each}
use Rattle.words.specs.Blocks.{unmapped}
use Rattle.words.specs.Choice.{when◌then◌else◌}
use Rattle.words.specs.Lists.{all}
use Rattle.words.specs.Numbers.{num}
use Rattle.words.specs.Sections.{tab}
use Rattle.words.proofs.SectionLaws.{length-tab, get_or-tab, tab-list}
use Rattle.book.specs.Book.{Sizes, Slot, Rec, no_rec}
use Rattle.book.specs.Layout.{n_offset, l_offset, b_offset, u_offset, rec_size, slot_offset, rec_offset, sizes_of, slot_of, rec_of, book_of}
use Rattle.book.specs.Form.{pbn_ok, rec_ok, after_ok, afters_ok, pairs_ok}
use Rattle.book.proofs.Conditions.{pairs-le}
use Rattle.slots.specs.Records.{after_in, rec_here, records_at, records_by, records_left}
use Rattle.slots.proofs.SlotLaws.{this, slots-drop, slots-none}

-- ---- a record's tests as the code makes them

-- below N is not unmapped
after_in_lem : (retire : Bool) (n p : ℕ) → n ≤ unmapped
    → (pbn_ok n p && (when retire then eqb p unmapped else not (eqb p unmapped))) ≡ after_in retire n p
unfolding pbn_ok after_in
after_in_lem retire n p h = go retire (ltb p n) (eqb p unmapped) refl refl
  where
    go : (r s t : Bool) → ltb p n ≡ s → eqb p unmapped ≡ t → ((s || t) && (when r then t else not t)) ≡ (when r then t else s)
    go true true true e f = refl
    go true true false e f = refl
    go true false true e f = refl
    go true false false e f = refl
    go false true true e f = absurd (omega (arith, ltb-true p n e, eqb-true p unmapped f))
    go false true false e f = refl
    go false false true e f = refl
    go false false false e f = refl

pub rec_tests : (b : List ℕ) (at : ℕ) (retire : Bool) {n l x y z : ℕ} {p a : Bool} → n ≤ unmapped → n ≡ num b n_offset → l ≡ num b l_offset
    → x ≡ num b at → y ≡ num b (at + 2) → z ≡ num b (at + 4) → p ≡ pbn_ok n y → a ≡ after_in retire n z
    → (ltb x l && p && a) ≡ rec_here (sizes_of b) retire (rec_of b at)
unfolding rec_here rec_ok after_ok
rec_tests b at retire {n} {l} {x} {y} {z} h en el ex ey ez ep ea =
    let after = ea ∙ sym (after_in_lem retire n z h) in
    rw (ep, after, en, el, ex, ey, ez)
    (sym (and_assoc (ltb (num b at) (num b l_offset) && pbn_ok (num b n_offset) (num b (at + 2))) (pbn_ok (num b n_offset) (num b (at + 4)))
    (after_ok retire (rec_of b at))))

-- ---- one slot more

-- elements in the middle of a list that is made by its elements
middle_tab : {A : Type 0} (n i k : ℕ) (f : ℕ → A) (d : A) → i + k ≤ n → take k (drop i (tab n f)) ≡ tab k (λ j. f (i + j))
middle_tab n i k f d h =
    let l = drop i (tab n f) in
    let n' = length-tab n f in
    let m = length-drop i (tab n f) in
    sym (tab-list k (λ j. f (i + j)) (take k l) d (length-take-le k l (omega arith))
    (λ j hj. sym (get_or-take k l j d hj ∙ get_or-drop i (tab n f) j d ∙ get_or-tab n f (i + j) d (omega arith))))

module _ (b : List ℕ) (q next : ℕ) (h : q < num b b_offset) (p : pairs_ok next (drop q (book_of b).slots) (num b u_offset) ≡ true) where
  next-pair : pairs_ok (next + (this b q).number) (drop (q + 1) (book_of b).slots) (num b u_offset) ≡ true
  next-pair =
      (and_true (eqb (this b q).first next) (pairs_ok (next + (this b q).number) (drop (q + 1) (book_of b).slots) (num b u_offset))
      (rw (slots-drop b q h) at p)).1

  last-record : next + (this b q).number ≤ num b u_offset
  last-record = pairs-le (drop (q + 1) (book_of b).slots) (next + (this b q).number) (num b u_offset) next-pair

  here : all (rec_here (sizes_of b) (this b q).retire) (take (this b q).number (drop next (book_of b).records))
      ≡ records_at b (this b q).retire (rec_offset (sizes_of b) next) (this b q).number
  unfolding book_of records_at
  here =
      let z = sizes_of b in
      let t = this b q in
      let rec : ℕ → Rec = λ k. rec_of b (rec_offset z k) in
      ap (λ (rs : List Rec). all (rec_here z t.retire) rs) (middle_tab (num b u_offset) next t.number rec no_rec last-record)
      ∙ tab-each (rec_here z t.retire) t.number (λ k. rec (next + k))
      ∙ each_same (λ k. rec_here z t.retire (rec (next + k)))
      (λ k. rec_here z t.retire (rec_of b (rec_offset z next + k * rec_size))) 0 t.number
      (λ k _ _. ap (λ (o : ℕ). rec_here z t.retire (rec_of b o)) (omega arith))

  records-first : records_left b q next
      ≡ (records_at b (this b q).retire (rec_offset (sizes_of b) next) (this b q).number
      && records_left b (q + 1) (next + (this b q).number))
  unfolding records_left
  records-first = rw (slots-drop b q h, here, drop-drop (this b q).number next (book_of b).records)

  -- with the numbers that the code reads: the slot's records are used ones, the next slot's follow, and what is gathered goes on
  module _ {at k : ℕ} (offset : at ≡ slot_offset (sizes_of b) q) (number : k ≡ num b (at + 6)) where
    pub records-end : next + k ≤ num b u_offset
    records-end = rw (number, offset) last-record

    pub pairs_next : pairs_ok (next + k) (drop (q + 1) (book_of b).slots) (num b u_offset) ≡ true
    pairs_next = rw (number, offset) next-pair

    pub records-more : (good : Bool) {whole g retire : Bool} {from : ℕ} → whole ≡ (good && records_left b q next) → from ≡ rec_offset (sizes_of b) next
        → retire ≡ (slot_of b at).retire → g ≡ records_at b retire from k → whole ≡ ((good && g) && records_left b (q + 1) (next + k))
    records-more good e ef er eg =
        let t = this b q in
        let now = records_at b t.retire (rec_offset (sizes_of b) next) t.number in
        e ∙ rw (records-first, eg, er, ef, number, offset) (sym (and_assoc good now (records_left b (q + 1) (next + t.number))))

pub records-none : (b : List ℕ) (q next : ℕ) → num b b_offset ≤ q → records_left b q next ≡ true
unfolding records_left
records-none b q next h = rw (slots-none b q h)

-- ---- slot by slot, the records meet their own rule and their slots'

all-parts : {A : Type 0} (f : A → Bool) (n : ℕ) (xs : List A) → all f xs ≡ (all f (take n xs) && all f (drop n xs))
all-parts f zero xs = refl
all-parts f (suc n) [] = refl
all-parts f (suc n) (x ∷ xs) = rw (all-parts f n xs) (sym (and_assoc (f x) (all f (take n xs)) (all f (drop n xs))))

pub records-by : (z : Sizes) (ts : List Slot) (rs : List Rec) (at u : ℕ) → pairs_ok at ts u ≡ true → at + length rs ≡ u
    → records_by z ts rs ≡ (all (rec_ok z) rs && afters_ok ts rs)
unfolding rec_here
records-by z [] [] at u p e = refl
records-by z [] (r ∷ rs) at u p e = absurd (omega (arith, eqb-true at u p))
records-by z (t ∷ ts) rs at u p e =
    let w = (and_true (eqb t.first at) (pairs_ok (at + t.number) ts u) p).1 in
    let n = pairs-le ts (at + t.number) u w in
    let l = length-drop t.number rs in
    rw (
      all-and (rec_ok z) (after_ok t.retire) (take t.number rs),
      records-by z ts (drop t.number rs) (at + t.number) u w (omega arith),
      all-parts (rec_ok z) t.number rs,
    )
    (and-swap (all (rec_ok z) (take t.number rs)) (all (after_ok t.retire) (take t.number rs))
    (all (rec_ok z) (drop t.number rs)) (afters_ok ts (drop t.number rs)))
