-- `play::playing::play_backup`: the data of the call is the change list.
use Prim.Native.Nat.{ℕ, ◌+◌, ◌-◌, ◌≤◌}
use mathlib.Core.Path.{◌≡◌, ap, ◌∙◌}
use mathlib.Core.List.{List}
use native.Mathlib.Omega.{arith}
use lib.ListN.{length, take, drop}
use Rattle.words.proofs.Lending.{lent}
use Rattle.words.specs.Sections.{part}
use Rattle.calls.specs.Coding.{data_size}
use Rattle.calls.proofs.ReadingLaws.{call-inside}
use Rattle.play.proofs.playing.play_backup.Goals as goal

pub overflow_add-from : goal.overflow_add-from
overflow_add-from c =
    let calls : List ℕ = c.args.calls.now in
    let inside : (let at = c.args.at in
    (at + 14 ≤ length calls) × (at + 14 + data_size calls at ≤ length calls)) = call-inside calls c.args.at c.requires.0 in
    let i = inside in omega (arith)

pub data_size-requires : goal.data_size-requires
data_size-requires c =
    let calls : List ℕ = c.args.calls.now in
    let inside : (let at = c.args.at in
    (at + 14 ≤ length calls) × (at + 14 + data_size calls at ≤ length calls)) = call-inside calls c.args.at c.requires.0 in
    inside.0

pub overflow_add-end : goal.overflow_add-end
overflow_add-end c =
    let calls : List ℕ = c.args.calls.now in
    let inside : (let at = c.args.at in
    (at + 14 ≤ length calls) × (at + 14 + data_size calls at ≤ length calls)) = call-inside calls c.args.at c.requires.0 in
    let i = inside in omega (arith, c.data_size.ensures.0)

pub overflow_add-at : goal.overflow_add-at
overflow_add-at c =
    let calls : List ℕ = c.args.calls.now in
    let inside : (let at = c.args.at in
    (at + 14 ≤ length calls) × (at + 14 + data_size calls at ≤ length calls)) = call-inside calls c.args.at c.requires.0 in
    let i = inside in omega (arith)

pub u16_at-volume-requires : goal.u16_at-volume-requires
u16_at-volume-requires c =
    let calls : List ℕ = c.args.calls.now in
    let inside : (let at = c.args.at in
    (at + 14 ≤ length calls) × (at + 14 + data_size calls at ≤ length calls)) = call-inside calls c.args.at c.requires.0 in
    let i = inside in omega (arith)

pub overflow_add-at-2 : goal.overflow_add-at-2
overflow_add-at-2 c =
    let calls : List ℕ = c.args.calls.now in
    let inside : (let at = c.args.at in
    (at + 14 ≤ length calls) × (at + 14 + data_size calls at ≤ length calls)) = call-inside calls c.args.at c.requires.0 in
    let i = inside in omega (arith)

pub u16_at-day-requires : goal.u16_at-day-requires
u16_at-day-requires c =
    let calls : List ℕ = c.args.calls.now in
    let inside : (let at = c.args.at in
    (at + 14 ≤ length calls) × (at + 14 + data_size calls at ≤ length calls)) = call-inside calls c.args.at c.requires.0 in
    let i = inside in omega (arith)

pub slice_bounds-answer_backup-end : goal.slice_bounds-answer_backup-end
slice_bounds-answer_backup-end c =
    let calls : List ℕ = c.args.calls.now in
    let inside : (let at = c.args.at in
    (at + 14 ≤ length calls) × (at + 14 + data_size calls at ≤ length calls)) = call-inside calls c.args.at c.requires.0 in
    let i = inside in omega (arith, c.data_size.ensures.0)

pub returns : goal.returns
returns c =
    let a = c.args in
    let from = a.at + 14 in
    let b = a.calls.now in
    let k = c.data_size in
    let list : take (from + k.result - from) (drop from b) ≡ part b from (data_size b a.at) =
    lent b from k.result ∙ ap (λ (n : ℕ). part b from n) k.ensures.0
    in
    rw (← c.u16_at-volume.ensures, ← c.u16_at-day.ensures, ← list) c.answer_backup.ensures
