-- `play::playing::play_call`: the kind decides which call it is, and that call was made.
use Prim.Native.Nat.{ℕ, ◌+◌}
use mathlib.Core.Path.{◌≡◌, refl, ◌∙◌}
use mathlib.Core.List.{List}
use native.Mathlib.Omega.{arith}
use lib.ListN.{length, get_or}
use Rattle.words.specs.Numbers.{num}
use Rattle.calls.specs.Answers.{longest_reply, longest_of}
use Rattle.calls.specs.Coding.{call_of, call_at}
use Rattle.calls.proofs.ReadingLaws.{call-inside, call-by}
use Rattle.calls.proofs.Short.{longest_at}
use Rattle.play.proofs.playing.play_call.Goals as goal

longest-by : (b : List ℕ) (at : ℕ) {k d : ℕ} → k ≡ get_or b at 0 → d ≡ num b (at + 8) → longest_reply (call_at b at) ≡ longest_of k d
longest-by b at e f = longest_at b at ∙ rw (e, f)

pub overflow_add-at : goal.overflow_add-at
overflow_add-at c =
    let i = call-inside c.args.calls.now c.args.at c.requires.0 in
    omega arith

pub u16_at-a-requires : goal.u16_at-a-requires
u16_at-a-requires c =
    let i = call-inside c.args.calls.now c.args.at c.requires.0 in
    omega arith

pub overflow_add-at-2 : goal.overflow_add-at-2
overflow_add-at-2 c =
    let i = call-inside c.args.calls.now c.args.at c.requires.0 in
    omega arith

pub u16_at-b-requires : goal.u16_at-b-requires
u16_at-b-requires c =
    let i = call-inside c.args.calls.now c.args.at c.requires.0 in
    omega arith

pub overflow_add-at-3 : goal.overflow_add-at-3
overflow_add-at-3 c =
    let i = call-inside c.args.calls.now c.args.at c.requires.0 in
    omega arith

pub u16_at-c-requires : goal.u16_at-c-requires
u16_at-c-requires c =
    let i = call-inside c.args.calls.now c.args.at c.requires.0 in
    omega arith

pub answer_enrol-requires : goal.answer_enrol-requires
unfolding longest_of
answer_enrol-requires c =
    let long = longest-by c.args.calls.now c.args.at c.in-Enrol.ensures refl in
    omega (arith, long, c.requires.1)

pub returns-in-Enrol : goal.returns-in-Enrol
unfolding call_of
returns-in-Enrol c =
    let a = c.args in
    let is = call-by a.calls.now a.at c.in-Enrol.ensures c.u16_at-a.ensures c.u16_at-b.ensures c.u16_at-c.ensures in
    rw is (c.answer_enrol.ensures (length a.spare.now) a.pool.now)

pub play_backup-requires : goal.play_backup-requires
unfolding longest_of
play_backup-requires c =
    let long = longest-by c.args.calls.now c.args.at c.in-Backup.ensures refl in
    (c.requires.0, omega (arith, long, c.requires.1))

pub returns-in-Backup : goal.returns-in-Backup
unfolding call_of
returns-in-Backup c =
    let a = c.args in
    let is = call-by a.calls.now a.at c.in-Backup.ensures refl refl refl in
    rw is c.play_backup.ensures

pub answer_collect-requires : goal.answer_collect-requires
unfolding longest_of
answer_collect-requires c =
    let long = longest-by c.args.calls.now c.args.at c.in-Collect.ensures refl in
    omega (arith, long, c.requires.1)

pub returns-in-Collect : goal.returns-in-Collect
unfolding call_of
returns-in-Collect c =
    let a = c.args in
    let is = call-by a.calls.now a.at c.in-Collect.ensures c.u16_at-a.ensures c.u16_at-b.ensures c.u16_at-c.ensures in
    rw is (c.answer_collect.ensures (length a.spare.now) a.pool.now)

pub answer_read-requires : goal.answer_read-requires
unfolding longest_of
answer_read-requires c =
    let long = longest-by c.args.calls.now c.args.at c.in-Read.ensures refl in
    omega (arith, long, c.requires.1)

pub returns-in-Read : goal.returns-in-Read
unfolding call_of
returns-in-Read c =
    let a = c.args in
    let is = call-by a.calls.now a.at c.in-Read.ensures c.u16_at-a.ensures c.u16_at-b.ensures c.u16_at-c.ensures in
    rw is (c.answer_read.ensures (length a.spare.now))

pub answer_audit-requires : goal.answer_audit-requires
unfolding longest_of
answer_audit-requires c =
    let long = longest-by c.args.calls.now c.args.at c.in-Audit.ensures refl in
    omega (arith, long, c.requires.1)

pub returns-in-Audit : goal.returns-in-Audit
unfolding call_of
returns-in-Audit c =
    let a = c.args in
    let is = call-by a.calls.now a.at c.in-Audit.ensures c.u16_at-a.ensures c.u16_at-b.ensures c.u16_at-c.ensures in
    rw is (c.answer_audit.ensures (length a.spare.now) a.pool.now)

pub u16_at-d-requires : goal.u16_at-d-requires
u16_at-d-requires c =
    let i = call-inside c.args.calls.now c.args.at c.requires.0 in
    omega arith

pub answer_restore-requires : goal.answer_restore-requires
unfolding longest_of
answer_restore-requires c =
    let long = longest-by c.args.calls.now c.args.at c.in-Restore.ensures c.u16_at-d.ensures in
    omega (arith, long, c.requires.1)

pub returns-in-Restore : goal.returns-in-Restore
unfolding call_of
returns-in-Restore c =
    let a = c.args in
    let is = call-by a.calls.now a.at c.in-Restore.ensures c.u16_at-a.ensures c.u16_at-b.ensures c.u16_at-c.ensures in
    rw (is, ← c.u16_at-d.ensures) (c.answer_restore.ensures (length a.spare.now))

pub answer_retire-requires : goal.answer_retire-requires
unfolding longest_of
answer_retire-requires c =
    let long = longest-by c.args.calls.now c.args.at c.in-Retire.ensures refl in
    omega (arith, long, c.requires.1)

pub returns-in-Retire : goal.returns-in-Retire
unfolding call_of
returns-in-Retire c =
    let a = c.args in
    let is = call-by a.calls.now a.at c.in-Retire.ensures c.u16_at-a.ensures c.u16_at-b.ensures c.u16_at-c.ensures in
    rw is (c.answer_retire.ensures a.pool.now)
