use Prim.Native.Nat.{ℕ, ◌+◌, ◌*◌, ◌≤◌, ◌<◌}
use mathlib.Core.Path.{◌≡◌, refl, sym, ap, ◌∙◌}
use mathlib.Core.Bool.{not, Bool, true, false}
use native.Mathlib.Omega.{arith}
use lib.Dec.{eqb}
use lib.ListN.{get_or}
use Rattle.words.proofs.ChoiceLaws.{failed, passed}
use Rattle.words.specs.Numbers.{num}
use Rattle.book.specs.Layout.{day_offset}
use Rattle.slots.specs.Slots.{slot_here}
use Rattle.slots.proofs.SlotLaws.{slots-more, slots-stop, slots_end, slot-bounds}
use Rattle.slots.proofs.journal.used_slots_ok.Goals as goal

pub returns-then-not-slot_ok : goal.returns-then-not-slot_ok
returns-then-not-slot_ok c =
    let tested : Bool =
    let a = c.args in
    slot_here a.b.now (a.from + c.loop-q.q * 8) c.loop-q.lasts c.loop-q.gone c.loop-q.prev c.loop-q.next
    in
    let there : tested ≡ false = failed c.slot_ok.ensures (ap not c.if-not-slot_ok.true) in
    let l = c.loop-q in
    let at = ap (λ (f : ℕ). f + l.q * 8) c.requires.start in
    let no = slots-stop c.args.b.now l.q l.lasts l.gone l.prev l.next (omega arith) at there in
    sym (l.invariant.1 ∙ no)

pub overflow_add-lasts : goal.overflow_add-lasts
overflow_add-lasts c =
    let tested : Bool =
    let a = c.args in
    slot_here a.b.now (a.from + c.loop-q.q * 8) c.loop-q.lasts c.loop-q.gone c.loop-q.prev c.loop-q.next
    in
    let here : tested ≡ true = passed c.slot_ok.ensures (ap not c.if-not-slot_ok.false) in
    let bounds : (let b = c.args.b.now in
    let at = c.args.from + c.loop-q.q * 8 in
    (get_or b at 0 < 8) × (num b (at + 2) ≤ num b day_offset)) = slot-bounds _ _ _ _ _ _ here in
    record { fits = omega (arith, bounds) }

pub bounds-lasts-v : goal.bounds-lasts-v
bounds-lasts-v c =
    let tested : Bool =
    let a = c.args in
    slot_here a.b.now (a.from + c.loop-q.q * 8) c.loop-q.lasts c.loop-q.gone c.loop-q.prev c.loop-q.next
    in
    let here : tested ≡ true = passed c.slot_ok.ensures (ap not c.if-not-slot_ok.false) in
    let bounds : (let b = c.args.b.now in
    let at = c.args.from + c.loop-q.q * 8 in
    (get_or b at 0 < 8) × (num b (at + 2) ≤ num b day_offset)) = slot-bounds _ _ _ _ _ _ here in
    omega (arith, bounds)

pub bounds-gone-v : goal.bounds-gone-v
bounds-gone-v c =
    let tested : Bool =
    let a = c.args in
    slot_here a.b.now (a.from + c.loop-q.q * 8) c.loop-q.lasts c.loop-q.gone c.loop-q.prev c.loop-q.next
    in
    let here : tested ≡ true = passed c.slot_ok.ensures (ap not c.if-not-slot_ok.false) in
    let bounds : (let b = c.args.b.now in
    let at = c.args.from + c.loop-q.q * 8 in
    (get_or b at 0 < 8) × (num b (at + 2) ≤ num b day_offset)) = slot-bounds _ _ _ _ _ _ here in
    omega (arith, bounds)

pub loop-q-preserved : goal.loop-q-preserved
loop-q-preserved c =
    let tested : Bool =
    let a = c.args in
    slot_here a.b.now (a.from + c.loop-q.q * 8) c.loop-q.lasts c.loop-q.gone c.loop-q.prev c.loop-q.next
    in
    let here : tested ≡ true = passed c.slot_ok.ensures (ap not c.if-not-slot_ok.false) in
    let l = c.loop-q in
    let at = ap (λ (f : ℕ). f + l.q * 8) c.requires.start in
    let more = slots-more c.args.b.now l.q l.lasts l.gone l.prev l.next (omega arith) at here
    c.from-v.ensures refl c.u16_at-prev.ensures c.u16_at.ensures
    in
    (omega arith, l.invariant.1 ∙ more)

pub returns : goal.returns
returns c =
    let l = c.loop-q in
    let e = slots_end c.args.b.now l.q l.lasts l.gone l.prev l.next (omega arith) in
    ap (eqb l.next) c.requires.records ∙ sym (l.invariant.1 ∙ e)
