-- Laws of specs/Slots.antt.
-- The used slots in one pass: what is tested of each, and of what is left.
use Prim.Native.Nat.{ℕ, suc, ◌+◌, ◌≤◌, ◌<◌}
use mathlib.Core.Path.{◌≡◌, refl, ap, ◌∙◌}
use mathlib.Core.Bool.{Bool, true, false, not, ◌&&◌, ◌||◌}
use mathlib.Core.List.{List, [], ◌∷◌}
use native.Mathlib.Decide.{dec_lt}
use native.Mathlib.Numerals.{add-one}
use native.Mathlib.Omega.{arith}
use lib.Dec.{leb, eqb}
use lib.ListN.{get_or, set, drop, drop_of_length-le, get_or-eq_default}
use lib.Seq.{drop-cons}
use borrow.Author.Tests.{leb-true}
use Rattle.words.proofs.ChoiceLaws.{and_true, and_false, and-swap, not_both}
use Rattle.words.specs.Lists.{each}
use Rattle.words.proofs.Each.{each_first, each_none}
use Rattle.words.specs.Lists.{all}
use Rattle.words.specs.Numbers.{num}
use Rattle.words.specs.Sections.{tab}
use Rattle.words.proofs.SectionLaws.{length-tab, get_or-tab}
use Rattle.book.specs.Book.{volumes, Slot, no_slot}
use Rattle.book.specs.Layout.{b_offset, u_offset, day_offset, retention_offset, slot_offset, sizes_of, slot_of, book_of}
use Rattle.book.specs.Form.{second_ok, slot_ok, pairs_ok}
use Rattle.book.proofs.Conditions.{slot-facts}
use Rattle.slots.specs.Days.{day_ok, days_from}
use Rattle.slots.specs.Slots.{slot_here, slots_left}

-- ---- one slot more

-- four tests, each with its rest
shuffle : (a b c d s t u v : Bool) → ((a && s) && (b && t) && (c && u) && (d && v)) ≡ ((a && b && c && d) && (s && t && u && v))
shuffle a b c d s t u v = rw (and-swap a s b t, and-swap (a && b) (s && t) c u, and-swap (a && b && c) (s && t && u) d v)

module _ (b : List ℕ) (q : ℕ) where
  abbrev pub this : Slot
  this = slot_of b (slot_offset (sizes_of b) q)

  pub slots-drop : q < num b b_offset → drop q (book_of b).slots ≡ this ∷ drop (q + 1) (book_of b).slots
  unfolding book_of
  slots-drop h =
      let slot : ℕ → Slot = λ k. slot_of b (slot_offset (sizes_of b) k) in
      let n = length-tab (num b b_offset) slot in
      rw (add-one q) (drop-cons (tab (num b b_offset) slot) q no_slot (omega arith)
      ∙ ap (λ (t : Slot). t ∷ drop (suc q) (tab (num b b_offset) slot)) (get_or-tab (num b b_offset) slot q no_slot h))

  pub slots-none : num b b_offset ≤ q → drop q (book_of b).slots ≡ []
  unfolding book_of
  slots-none h =
      let slot : ℕ → Slot = λ k. slot_of b (slot_offset (sizes_of b) k) in
      drop_of_length-le (tab (num b b_offset) slot) {i = q} (omega (arith, length-tab (num b b_offset) slot))

  module _ (lasts : List ℕ) (gone : List Bool) (prev next : ℕ) where
    slots-first : q < num b b_offset → slots_left b q lasts gone prev next
        ≡ (slot_here b (slot_offset (sizes_of b) q) lasts gone prev next
        && slots_left b (q + 1) (set lasts this.volume (this.day + 1)) (set gone this.volume this.retire) this.day
        (next + this.number))
    unfolding slots_left slot_here second_ok
    slots-first h =
        let rest = drop (q + 1) (book_of b).slots in
        rw (each_first (second_ok b) q (num b b_offset) h, slots-drop h)
        (shuffle (second_ok b q) (slot_ok (book_of b) this) (day_ok lasts gone prev this) (eqb this.first next)
        (each (second_ok b) (q + 1) (num b b_offset)) (all (slot_ok (book_of b)) rest)
        (days_from (set lasts this.volume (this.day + 1)) (set gone this.volume this.retire) this.day rest)
        (pairs_ok (next + this.number) rest (num b u_offset)))

    module _ {at : ℕ} (h : q < num b b_offset) (offset : at ≡ slot_offset (sizes_of b) q) where
      pub slots-more : {v d k : ℕ} {r : Bool} → slot_here b at lasts gone prev next ≡ true → v ≡ get_or b at 0 → r ≡ (slot_of b at).retire
          → d ≡ num b (at + 2) → k ≡ num b (at + 6)
          → slots_left b q lasts gone prev next ≡ slots_left b (q + 1) (set lasts v (d + 1)) (set gone v r) d (next + k)
      slots-more e ev er ed ek = slots-first h ∙ rw (ev, er, ed, ek, ← offset, e)

      pub slots-stop : slot_here b at lasts gone prev next ≡ false → slots_left b q lasts gone prev next ≡ false
      slots-stop e = slots-first h ∙ rw (← offset, e)

    pub slots_end : num b b_offset ≤ q → slots_left b q lasts gone prev next ≡ eqb next (num b u_offset)
    unfolding slots_left
    slots_end h = rw (each_none (second_ok b) q (num b b_offset) h, slots-none h)

-- ---- a slot's tests as the code makes them

-- volumes 0 to 7 have the retention that stands for them; any other has none
pub retention-of : (b : List ℕ) (v : ℕ) → v < volumes → get_or (book_of b).retentions v 0 ≡ num b (retention_offset v)
unfolding book_of
retention-of b v h = get_or-tab volumes (λ v. num b (retention_offset v)) v 0 h

pub no-retention : (b : List ℕ) (v : ℕ) → volumes ≤ v → get_or (book_of b).retentions v 0 ≡ 0
unfolding book_of
no-retention b v h =
    get_or-eq_default (tab volumes (λ v. num b (retention_offset v))) 0 {n = v}
    (omega (arith, length-tab volumes (λ v. num b (retention_offset v))))

day-of : (b : List ℕ) → (book_of b).day ≡ num b day_offset
unfolding book_of
day-of b = refl

layout_of : (b : List ℕ) → (book_of b).sizes.layout ≡ num b 0
unfolding book_of
layout_of b = refl

module _ (b : List ℕ) (at : ℕ) (lasts : List ℕ) (gone : List Bool) (prev next : ℕ) where
  -- a volume above 7 fails
  pub slot-above : volumes ≤ get_or b at 0 → slot_here b at lasts gone prev next ≡ false
  unfolding slot_here slot_ok
  slot-above h = rw (no-retention b (get_or b at 0) h, and_false (leb (get_or b (at + 1) 0) 1))

  -- any other passes by these tests: a second byte is at most 1, and a slot retires from layout 3 on
  pub slot_tests : (g : ℕ) {v d r f today most young : ℕ} → v < volumes → v ≡ get_or b at 0 → d ≡ num b (at + 2)
      → r ≡ num b (retention_offset v) → f ≡ num b (at + 4)
      → g ≡ num b 0 → today ≡ num b day_offset → most ≡ 1 → young ≡ 3
      → (leb (get_or b (at + 1) 0) most && (not (eqb r 0) && leb d today && (leb young g || not (eqb (get_or b (at + 1) 0) 1)))
      && (leb prev d && (leb (get_or lasts v 0) d && not (get_or gone v false)))
      && eqb f next) ≡ slot_here b at lasts gone prev next
  unfolding slot_here slot_ok day_ok
  slot_tests g {v = v} h ev ed er ef eg et em ey =
      rw (em, ey, er, ← retention-of b v h, ed, ef, eg, et, ← day-of b, ← layout_of b, ev)

  -- a slot that passed: its volume is below 8, and its day not past the header's
  pub slot-bounds : slot_here b at lasts gone prev next ≡ true → (get_or b at 0 < volumes) × (num b (at + 2) ≤ num b day_offset)
  unfolding slot_here
  slot-bounds e = (volume (dec_lt (get_or b at 0) volumes), day e)
    where
      volume : Dec (get_or b at 0 < volumes) → get_or b at 0 < volumes
      volume (yes l) = l
      volume (no l) = absurd (not_both (slot_here b at lasts gone prev next) e (slot-above (omega arith)))

      day : slot_here b at lasts gone prev next ≡ true → num b (at + 2) ≤ num b day_offset
      day e =
          let t = slot_of b at in
          let second = leb (get_or b (at + 1) 0) 1 in
          let first = second && slot_ok (book_of b) t in
          let p = (and_true (first && day_ok lasts gone prev t) (eqb t.first next) e).0 in
          let k = (and_true second (slot_ok (book_of b) t) (and_true first (day_ok lasts gone prev t) p).0).1 in
          rw (day-of b) at (leb-true t.day (book_of b).day (slot-facts (book_of b) t k).1)
