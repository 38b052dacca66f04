use Prim.Native.Nat.{ℕ, ◌+◌, ◌*◌, ◌≤◌}
use mathlib.Core.Path.{◌≡◌, refl, sym, ap, ◌∙◌}
use native.Mathlib.Omega.{arith}
use Rattle.words.proofs.ChoiceLaws.{and_yes}
use Rattle.words.specs.Numbers.{num}
use Rattle.book.specs.Layout.{u_offset, slot_offset, sizes_of}
use Rattle.slots.proofs.RecordLaws.{records-end, pairs_next, records-more, records-none}
use Rattle.slots.proofs.records.used_records_ok.Goals as goal

pub overflow_mul-next : goal.overflow_mul-next
overflow_mul-next c =
    let offset : (let a = c.args in
    a.slots + c.loop-q.q * 8 ≡ slot_offset (sizes_of a.b.now) c.loop-q.q) = ap (λ (f : ℕ). f + c.loop-q.q * 8) c.requires.start in
    let bound : c.loop-q.next + c.u16_at-number.result ≤ num c.args.b.now u_offset =
    let l = c.loop-q in
    records-end c.args.b.now l.q l.next (omega arith) l.invariant.0 offset c.u16_at-number.ensures
    in
    record { fits = omega (arith, bound) }

pub overflow_add-from : goal.overflow_add-from
overflow_add-from c =
    let offset : (let a = c.args in
    a.slots + c.loop-q.q * 8 ≡ slot_offset (sizes_of a.b.now) c.loop-q.q) = ap (λ (f : ℕ). f + c.loop-q.q * 8) c.requires.start in
    let bound : c.loop-q.next + c.u16_at-number.result ≤ num c.args.b.now u_offset =
    let l = c.loop-q in
    records-end c.args.b.now l.q l.next (omega arith) l.invariant.0 offset c.u16_at-number.ensures
    in
    record { fits = omega (arith, bound) }

pub slot_records_ok-good-requires : goal.slot_records_ok-good-requires
slot_records_ok-good-requires c =
    let offset : (let a = c.args in
    a.slots + c.loop-q.q * 8 ≡ slot_offset (sizes_of a.b.now) c.loop-q.q) = ap (λ (f : ℕ). f + c.loop-q.q * 8) c.requires.start in
    let bound : c.loop-q.next + c.u16_at-number.result ≤ num c.args.b.now u_offset =
    let l = c.loop-q in
    records-end c.args.b.now l.q l.next (omega arith) l.invariant.0 offset c.u16_at-number.ensures
    in
    let p = c.requires in
    record { rec_size_in_bounds = omega (arith, bound); n_value = (p.blocks, p.cells) }

pub overflow_add-next : goal.overflow_add-next
overflow_add-next c =
    let offset : (let a = c.args in
    a.slots + c.loop-q.q * 8 ≡ slot_offset (sizes_of a.b.now) c.loop-q.q) = ap (λ (f : ℕ). f + c.loop-q.q * 8) c.requires.start in
    let bound : c.loop-q.next + c.u16_at-number.result ≤ num c.args.b.now u_offset =
    let l = c.loop-q in
    records-end c.args.b.now l.q l.next (omega arith) l.invariant.0 offset c.u16_at-number.ensures
    in
    record { fits = omega (arith, bound) }

pub loop-q-preserved : goal.loop-q-preserved
loop-q-preserved c =
    let offset : (let a = c.args in
    a.slots + c.loop-q.q * 8 ≡ slot_offset (sizes_of a.b.now) c.loop-q.q) = ap (λ (f : ℕ). f + c.loop-q.q * 8) c.requires.start in
    let l = c.loop-q in
    let b = c.args.b.now in
    let from = ap (λ (f : ℕ). f + l.next * 6) c.requires.first in (
      pairs_next b l.q l.next (omega arith) l.invariant.0 offset c.u16_at-number.ensures,
      records-more b l.q l.next (omega arith) l.invariant.0 offset c.u16_at-number.ensures l.good l.invariant.1 from refl
          c.slot_records_ok-good.ensures,
    )

pub returns : goal.returns
returns c =
    let l = c.loop-q in
    let b = c.args.b.now in
    sym (l.invariant.1 ∙ rw (records-none b l.q l.next (omega arith)) (and_yes l.good))
