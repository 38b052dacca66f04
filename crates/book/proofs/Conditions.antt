-- A book's conditions, element by element.
use Prim.Native.Nat.{ℕ, zero, suc, ◌+◌, ◌≤◌, ◌<◌}
use mathlib.Core.Path.{◌≡◌, refl, sym, ap₂}
use mathlib.Core.Logic.{◌⊎◌, inl, inr}
use mathlib.Core.Bool.{true, false, not, ◌&&◌, ◌||◌}
use mathlib.Core.List.{List, [], ◌∷◌}
use native.Mathlib.Decide.{dec_lt}
use native.Mathlib.Nat.{le_of_suc-le-suc, not-suc-le-zero, suc_inj, suc-ne-zero}
use native.Mathlib.Omega.{arith}
use lib.Dec.{leb, ltb, eqb}
use lib.ListN.{length, get_or, replicate, get_or-eq_default}
use borrow.Author.Tests.{leb-true, ltb-true, eqb-true, eq-eqb, not-true}
use Rattle.words.proofs.Places.{all-place}
use Rattle.words.specs.Blocks.{unmapped}
use Rattle.words.proofs.ChoiceLaws.{and_true, or_cases}
use Rattle.words.specs.Lists.{all, all_zero}
use Rattle.book.specs.Book.{Entry, Slot, Rec, Book, free_entry, no_slot, no_rec, entry_at, cell_at, slot_at, rec_at, retention_of}
use Rattle.book.specs.Form.{retention_ok, entry_ok, pbn_ok, rec_ok, enrolled, slot_ok, later_ok, days_ok, pairs_ok}
use Rattle.book.specs.FormFacts.{BookParts}

-- a block number is below n or unmapped
pub pbn-cases : (n p : ℕ) → pbn_ok n p ≡ true → (p < n) ⊎ (p ≡ unmapped)
unfolding pbn_ok
pbn-cases n p e = go (or_cases (ltb p n) (eqb p unmapped) e)
  where
    go : ((ltb p n ≡ true) ⊎ (eqb p unmapped ≡ true)) → (p < n) ⊎ (p ≡ unmapped)
    go (inl l) = inl (ltb-true p n l)
    go (inr r) = inr (eqb-true p unmapped r)

-- sixteen zero bytes are no fingerprint
pub zero-list : (p : List ℕ) (n : ℕ) → all_zero p ≡ true → length p ≡ n → p ≡ replicate n 0
zero-list [] zero e h = refl
zero-list [] (suc n) e h = absurd (suc-ne-zero n (sym h))
zero-list (x ∷ p) zero e h = absurd (suc-ne-zero (length p) h)
zero-list (x ∷ p) (suc n) e h =
    let t = and_true (eqb x 0) (all_zero p) e in
    ap₂ (λ (y : ℕ) (r : List ℕ). y ∷ r) (eqb-true x 0 t.0) (zero-list p n t.1 (suc_inj h))

-- an entry in form: its expiry, and that a free one is clear
pub record EntryIn (e : Entry) : Type 0 where
  pub expiry : e.expiry ≤ 65000
  pub count : e.held ≡ false → e.count ≡ 0
  pub zero : e.held ≡ false → all_zero e.print ≡ true

pub entry-facts : (e : Entry) → entry_ok e ≡ true → EntryIn e
unfolding entry_ok
entry-facts e h =
    let t = and_true (leb e.expiry 65000) (e.held || (eqb e.count 0 && all_zero e.print)) h in
    let free : e.held ≡ false → (eqb e.count 0 ≡ true) × (all_zero e.print ≡ true) =
    λ f. and_true (eqb e.count 0) (all_zero e.print) (rw f at t.1)
    in
    record { expiry = leb-true e.expiry 65000 t.0; count = λ f. eqb-true e.count 0 (free f).0; zero = λ f. (free f).1 }

-- a used slot: its volume is enrolled, its day is not past the header's
pub slot-facts : (x : Book) (t : Slot) → slot_ok x t ≡ true → (enrolled x t.volume ≡ true) × (leb t.day x.day ≡ true)
unfolding slot_ok
slot-facts x t e =
    and_true (enrolled x t.volume) (leb t.day x.day)
    (and_true (enrolled x t.volume && leb t.day x.day) (leb 3 x.sizes.layout || not t.retire) e).0

-- a used record: its LBN, its before and its after
pub record RecIn (n l : ℕ) (r : Rec) : Type 0 where
  pub lbn : r.lbn < l
  pub before : (r.before < n) ⊎ (r.before ≡ unmapped)
  pub after : (r.after < n) ⊎ (r.after ≡ unmapped)

module _ (x : Book) (h : BookParts x) where
  pub retention_in : (v : ℕ) → retention_of x v ≤ 5000
  unfolding retention_ok
  retention_in v = go (dec_lt v (length x.retentions))
    where
      go : Dec (v < length x.retentions) → retention_of x v ≤ 5000
      go (yes l) = leb-true (retention_of x v) 5000 (all-place retention_ok x.retentions 0 v h.retentions l)
      go (no l) = let e : retention_of x v ≡ 0 = get_or-eq_default x.retentions 0 {n = v} (omega arith) in omega arith

  pub entry_in : (p : ℕ) → p < length x.entries → EntryIn (entry_at x.entries p)
  entry_in p l = entry-facts (entry_at x.entries p) (all-place entry_ok x.entries free_entry p h.entries l)

  row_in : (v : ℕ) → Dec (v < length x.maps) → all (pbn_ok x.sizes.n) (get_or x.maps v []) ≡ true
  row_in v (yes k) = all-place (all (pbn_ok x.sizes.n)) x.maps [] v h.maps k
  row_in v (no k) = let e : get_or x.maps v [] ≡ [] = get_or-eq_default x.maps [] {n = v} (omega arith) in rw e

  pub cell_in : (v l : ℕ) → (cell_at x.maps v l < x.sizes.n) ⊎ (cell_at x.maps v l ≡ unmapped)
  cell_in v l = go (dec_lt l (length (get_or x.maps v [])))
    where
      go : Dec (l < length (get_or x.maps v [])) → (cell_at x.maps v l < x.sizes.n) ⊎ (cell_at x.maps v l ≡ unmapped)
      go (yes k) =
          pbn-cases x.sizes.n (cell_at x.maps v l)
          (all-place (pbn_ok x.sizes.n) (get_or x.maps v []) unmapped l (row_in v (dec_lt v (length x.maps))) k)
      go (no k) = inr (get_or-eq_default (get_or x.maps v []) unmapped {n = l} (omega arith))

  pub slot_in : (q : ℕ) → q < length x.slots → (enrolled x (slot_at x.slots q).volume ≡ true) × ((slot_at x.slots q).day ≤ x.day)
  unfolding slot_ok
  slot_in q l =
      let t = slot_at x.slots q in
      let s = slot-facts x t (all-place (slot_ok x) x.slots no_slot q h.slots l) in
      (s.0, leb-true t.day x.day s.1)

  pub rec_in : (q : ℕ) → q < length x.records → RecIn x.sizes.n x.sizes.l (rec_at x.records q)
  unfolding rec_ok
  rec_in q l =
      let r = rec_at x.records q in
      let lbn = ltb r.lbn x.sizes.l in
      let t =
      and_true (lbn && pbn_ok x.sizes.n r.before) (pbn_ok x.sizes.n r.after)
      (all-place (rec_ok x.sizes) x.records no_rec q h.records l) in
      let u = and_true lbn (pbn_ok x.sizes.n r.before) t.0 in
      record {
        lbn = ltb-true r.lbn x.sizes.l u.0;
        before = pbn-cases x.sizes.n r.before u.1;
        after = pbn-cases x.sizes.n r.after t.1;
      }

-- ---- days

-- a later slot's day is not below, and above within a volume
pub record Later (t u : Slot) : Type 0 where
  pub day : t.day ≤ u.day
  pub above : t.volume ≡ u.volume → t.day < u.day
  pub living : t.volume ≡ u.volume → t.retire ≡ false

pub later-facts : (t u : Slot) → later_ok t u ≡ true → Later t u
unfolding later_ok
later-facts t u e =
    let s = and_true (leb t.day u.day) (not (eqb t.volume u.volume) || (ltb t.day u.day && not t.retire)) e in
    let own : t.volume ≡ u.volume → (ltb t.day u.day ≡ true) × (not t.retire ≡ true) =
    λ v. and_true (ltb t.day u.day) (not t.retire) (rw (eq-eqb t.volume u.volume v) at s.1)
    in
    record { day = leb-true t.day u.day s.0; above = λ v. ltb-true t.day u.day (own v).0; living = λ v. not-true t.retire (own v).1 }

pub days_in : (ts : List Slot) → days_ok ts ≡ true → (q r : ℕ) → q < r → r < length ts
    → ((slot_at ts q).day ≤ (slot_at ts r).day) × ((slot_at ts q).volume ≡ (slot_at ts r).volume → (slot_at ts q).day < (slot_at ts r).day)
days_in [] e q r h l = absurd (not-suc-le-zero l)
days_in (t ∷ ts) e q zero h l = absurd (not-suc-le-zero h)
days_in (t ∷ ts) e zero (suc r) h l =
    let f = later-facts t (slot_at ts r) (all-place (later_ok t) ts no_slot r (and_true (all (later_ok t) ts) (days_ok ts) e).0 (le_of_suc-le-suc l)) in
    (f.day, f.above)
days_in (t ∷ ts) e (suc q) (suc r) h l =
    days_in ts (and_true (all (later_ok t) ts) (days_ok ts) e).1 q r (le_of_suc-le-suc h) (le_of_suc-le-suc l)

-- ---- pairs

pub pairs-le : (ts : List Slot) (at u : ℕ) → pairs_ok at ts u ≡ true → at ≤ u
pairs-le [] at u e = let z = eqb-true at u e in omega arith
pairs-le (t ∷ ts) at u e =
    let z =
    pairs-le ts (at + t.number) u (and_true (eqb t.first at) (pairs_ok (at + t.number) ts u) e).1
    in omega arith

-- a used slot's records stand within those used
pub pairs_in : (ts : List Slot) (at u : ℕ) → pairs_ok at ts u ≡ true → (q : ℕ) → q < length ts → (slot_at ts q).first + (slot_at ts q).number ≤ u
pairs_in [] at u e q l = absurd (not-suc-le-zero l)
pairs_in (t ∷ ts) at u e zero l =
    let s = and_true (eqb t.first at) (pairs_ok (at + t.number) ts u) e in
    omega (arith, eqb-true t.first at s.0, pairs-le ts (at + t.number) u s.1)
pairs_in (t ∷ ts) at u e (suc q) l =
    pairs_in ts (at + t.number) u (and_true (eqb t.first at) (pairs_ok (at + t.number) ts u) e).1 q
    (le_of_suc-le-suc l)
