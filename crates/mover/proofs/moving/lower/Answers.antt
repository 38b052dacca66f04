-- The four ways out, each by a law of step 3.
use Prim.Native.Nat.{◌<◌}
use mathlib.Core.Path.{refl, sym, ap, ◌∙◌}
use native.Mathlib.Omega.{arith}
use lib.ListN.{length}
use Rattle.book.specs.Book.{Book}
use Rattle.book.specs.Layout.{book_of}
use Rattle.book.specs.Next.{with_entries}
use Rattle.mover.proofs.MoveLaws.{names, lower-none, lower-zero, lower_late, lower-early}
use Rattle.mover.proofs.moving.lower.Goals as goal

pub returns-then-before-eq-UNMAPPED : goal.returns-then-before-eq-UNMAPPED
returns-then-before-eq-UNMAPPED c = lower-none _ _ _ refl c.if-before-eq-UNMAPPED.true c.requires.holds

pub count-count-requires : goal.count-count-requires
count-count-requires c = record { holds = c.requires.holds; p_bound = names c.requires.fact c.if-before-eq-UNMAPPED.false }

pub returns-then-count-eq0 : goal.returns-then-count-eq0
returns-then-count-eq0 c =
    lower-zero _ _ _ c.if-before-eq-UNMAPPED.false (sym c.count-count.ensures ∙ c.if-count-eq0.true)

pub set_count-requires : goal.set_count-requires
set_count-requires c = record { holds = c.requires.holds; p_bound = names c.requires.fact c.if-before-eq-UNMAPPED.false }

pub expiry-requires : goal.expiry-requires
unfolding with_entries
expiry-requires c =
    let n = ap (λ (x : Book). x.sizes.n) c.set_count.ensures.book in
    record { holds = c.set_count.ensures.holds; p_bound = omega (arith, names c.requires.fact c.if-before-eq-UNMAPPED.false, n) }

pub set_expiry-requires : goal.set_expiry-requires
unfolding with_entries
set_expiry-requires c =
    let n = ap (λ (x : Book). x.sizes.n) c.set_count.ensures.book in
    record { holds = c.set_count.ensures.holds; p_bound = omega (arith, names c.requires.fact c.if-before-eq-UNMAPPED.false, n) }

pub returns-then-expiry-until : goal.returns-then-expiry-until
returns-then-expiry-until c =
    let within : c.args.before.0 < length (book_of c.args.work.now).entries = rw c.requires.holds.sized.entries (names c.requires.fact c.if-before-eq-UNMAPPED.false) in
    let down = rw c.count-count.ensures at c.set_count.ensures in
    lower-early _ _ _ c.if-before-eq-UNMAPPED.false (λ z. c.if-count-eq0.false (c.count-count.ensures ∙ z)) within c.set_count.new.book down
    (omega (arith, c.expiry.ensures, c.if-expiry-until.true)) c.set_expiry.ensures

pub returns-else-expiry-until : goal.returns-else-expiry-until
returns-else-expiry-until c =
    let within : c.args.before.0 < length (book_of c.args.work.now).entries = rw c.requires.holds.sized.entries (names c.requires.fact c.if-before-eq-UNMAPPED.false) in
    let down = rw c.count-count.ensures at c.set_count.ensures in
    lower_late _ _ _ c.if-before-eq-UNMAPPED.false (λ z. c.if-count-eq0.false (c.count-count.ensures ∙ z)) within c.set_count.new.book down refl
    (omega (arith, c.expiry.ensures, c.if-expiry-until.false))
