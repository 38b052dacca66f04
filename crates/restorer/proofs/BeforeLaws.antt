-- Laws of specs/Befores.antt.
-- The before of an LBN's first record, among records and among a volume's backups from a slot on.
use Prim.Native.Nat.{ℕ, suc, ◌+◌, ◌-◌, ◌≤◌, ◌<◌}
use mathlib.Core.Path.{◌≡◌, refl, sym, ap, ◌∙◌}
use mathlib.Core.Bool.{Bool, true, false}
use mathlib.Core.List.{List, [], ◌∷◌, ◌++◌, append-nil}
use mathlib.Core.Option.{Option as Found, none, some}
use native.Mathlib.Numerals.{add-one}
use native.Mathlib.Omega.{arith}
use lib.Dec.{eqb}
use lib.ListN.{length, take, drop}
use lib.Seq.{drop-cons}
use borrow.Author.Tests.{eq-eqb, ne_eqb}
use Rattle.std.specs.Prelude.{Option, Some, None}
use Rattle.std.specs.Option.{is_some}
use Rattle.words.specs.Choice.{when◌then◌else◌}
use Rattle.words.specs.declared.PBN.{PBN}
use Rattle.book.specs.Book.{Rec, Book, no_rec, slot_at, rec_at, cell_at}
use Rattle.book.specs.Form.{pairs_ok}
use Rattle.journal.specs.Struct.{SlotIs}
use Rattle.journal.specs.declared.slot.Slot.{Slot}
use Rattle.model.specs.Read.{records_of, before_or}
use Rattle.model.specs.JournalAt.{backup_at, own_from, own_at, image_from}
use Rattle.claims.proofs.kept.JournalAtLaws.{volume-at, records-at, from-split, from_end, records_of_append}
use Rattle.restorer.specs.Befores.{first_of, before_of, before_in, before_from}

-- ---- records q up to `end`

unfoldable pub before_span : ℕ → List Rec → ℕ → ℕ → Option PBN
before_span lbn rs q end = before_in lbn (take (end - q) (drop q rs))

pub span-whole : (lbn first number : ℕ) (rs : List Rec)
    → before_span lbn rs first (first + number) ≡ before_in lbn (take number (drop first rs))
unfolding before_span
span-whole lbn first number rs = let e : first + number - first ≡ number = omega arith in rw e

module _ (lbn : ℕ) (rs : List Rec) (q end : ℕ) where
  span_cons : q < end → end ≤ length rs → take (end - q) (drop q rs) ≡ rec_at rs q ∷ take (end - (q + 1)) (drop (q + 1) rs)
  span_cons h k =
      let e : end - q ≡ suc (end - (q + 1)) = omega arith in
      rw (e, drop-cons rs q no_rec (omega arith), add-one q)

  pub span-here : q < end → end ≤ length rs → (rec_at rs q).lbn ≡ lbn → before_span lbn rs q end ≡ Some (record { 0 = (rec_at rs q).before })
  unfolding before_span before_in
  span-here h k e = rw (span_cons h k, eq-eqb (rec_at rs q).lbn lbn e)

  pub span-next : q < end → end ≤ length rs → ((rec_at rs q).lbn ≡ lbn → ⊥) → before_span lbn rs q end ≡ before_span lbn rs (q + 1) end
  unfolding before_span before_in
  span-next h k n = rw (span_cons h k, ne_eqb (rec_at rs q).lbn lbn n)

  pub span_none : end ≤ q → before_span lbn rs q end ≡ None
  unfolding before_span before_in
  span_none h = let e : end - q ≡ 0 = omega arith in rw e

-- ---- one slot, where it is the volume's

module _ (x : Book) (v q lbn : ℕ) (t : Slot) (s : SlotIs (slot_at x.slots q) t) where
  pub slot-own : pairs_ok 0 x.slots (length x.records) ≡ true → q < length x.slots → t.volume ≡ v
      → before_in lbn (records_of (own_at x v q)) ≡ before_in lbn (take t.number (drop t.first x.records))
  slot-own p h e =
      let own = eq-eqb (backup_at x q).volume v (volume-at x q ∙ sym s.volume ∙ e) in
      rw (own, append-nil, records-at x q p h, ← s.number, ← s.first)

  pub slot-other : (t.volume ≡ v → ⊥) → before_in lbn (records_of (own_at x v q)) ≡ None
  unfolding before_in
  slot-other n = rw (ne_eqb (backup_at x q).volume v (λ e. n (s.volume ∙ sym (volume-at x q) ∙ e)))

-- ---- slots from q on

before_append : (lbn : ℕ) (rs qs : List Rec)
    → before_in lbn (rs ++ qs) ≡ (when is_some (before_in lbn rs) then before_in lbn rs else before_in lbn qs)
unfolding before_in
before_append lbn [] qs = refl
before_append lbn (r ∷ rs) qs = go (eqb r.lbn lbn) (before_append lbn rs qs)
  where
    go : (t : Bool) → before_in lbn (rs ++ qs) ≡ (when is_some (before_in lbn rs) then before_in lbn rs else before_in lbn qs)
        → (let o = before_of (when t then some r else first_of lbn rs) in
        before_of (when t then some r else first_of lbn (rs ++ qs)) ≡ (when is_some o then o else before_in lbn qs))
    go true ih = refl
    go false ih = ih

module _ (x : Book) (v q lbn : ℕ) where
  -- o is what slot q has
  module _ {o : Option PBN} (e : o ≡ before_in lbn (records_of (own_at x v q))) (h : q < length x.slots) where
    from_slot : before_from x v q lbn ≡ (when is_some o then o else before_from x v (q + 1) lbn)
    unfolding before_from
    from_slot =
        rw (e, from-split x v q h, records_of_append (own_at x v q) (own_from x v (q + 1)))
        (before_append lbn (records_of (own_at x v q)) (records_of (own_from x v (q + 1))))

    pub later-here : is_some o ≡ true → before_from x v q lbn ≡ o
    later-here s = from_slot ∙ rw s

    pub later-next : is_some o ≡ false → before_from x v q lbn ≡ before_from x v (q + 1) lbn
    later-next s = from_slot ∙ rw s

  pub later-none : length x.slots ≤ q → before_from x v q lbn ≡ None
  unfolding before_from before_in
  later-none h = rw (from_end x v q h)

-- ---- "the before of that LBN's first record in the volume's backups after k, else the current map"

module _ (x : Book) (v q lbn : ℕ) where
  pub image-before : (p : PBN) → before_from x v q lbn ≡ Some p → image_from x v q lbn ≡ p.0
  unfolding image_from before_from before_in
  image-before p e = go (first_of lbn (records_of (own_from x v q))) e
    where
      go : (o : Found Rec) → before_of o ≡ Some p → before_or (cell_at x.maps v lbn) o ≡ p.0
      go none f = absurd (let z : ◌≡◌ {A = ℕ} 0 1 = cc in omega arith)
      go (some r) f = let e : record { 0 = r.before } ≡ p = cc in ap (λ (z : PBN). z.0) e

  pub image-current : before_from x v q lbn ≡ None → image_from x v q lbn ≡ cell_at x.maps v lbn
  unfolding image_from before_from before_in
  image-current e = go (first_of lbn (records_of (own_from x v q))) e
    where
      go : (o : Found Rec) → before_of o ≡ None → before_or (cell_at x.maps v lbn) o ≡ cell_at x.maps v lbn
      go none f = refl
      go (some r) f = absurd (let z : ◌≡◌ {A = ℕ} 0 1 = cc in omega arith)
