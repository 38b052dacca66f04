-- The four ways out, each by a law of steps 1 and 2.
use mathlib.Core.Bool.{not}
use mathlib.Core.Path.{sym, ap, ◌∙◌}
use native.Mathlib.Omega.{arith}
use lib.ListN.{length}
use Rattle.words.proofs.ChoiceLaws.{failed, passed}
use Rattle.runs.specs.Changes.{change_at}
use Rattle.runs.proofs.Laws.{changes-within}
use Rattle.book.specs.Book.{Sizes}
use Rattle.book.specs.Layout.{book_of}
use Rattle.finder.proofs.AnswerLaws.{found_some, found_none}
use Rattle.placer.proofs.Finding.{found-held, found-free}
use Rattle.placer.proofs.PlaceLaws.{below, sought, prints-size, twelve_by, eleven_by, found-by, taken-by}
use Rattle.placer.specs.Placing.{PlacedBy}
use Rattle.placer.proofs.placing.place.Goals as goal

pub find_held-requires : goal.find_held-requires
find_held-requires c =
    let size = prints-size c.args.list in
    record { holds = c.requires.holds.1; indexed = c.requires.indexed; print_size_in_bounds = omega (arith, ap length c.prints.ensures, size, c.requires.job.1) }

pub returns-in_default-find_free : goal.returns-in_default-find_free
unfolding PlacedBy
returns-in_default-find_free c =
    let looked = sought c.args.work.now c.args.list.bytes.now _ _ c.args.i c.find_held.ensures c.prints.ensures c.requires.job.1 in
    record {
      placed_by = twelve_by _ _ _ _ _ _ _ c.requires.holds.0.sized c.requires.holds.1 c.requires.job.0 (below c.args.list c.requires.job.1) c.requires.standing
          (found_none _ (looked ∙ c.in_default.is))
          (found_none _ (sym c.find_free.ensures ∙ c.in_default-find_free.is));
      indexed_2 = c.requires.indexed;
    }

pub take_block-requires : goal.take_block-requires
take_block-requires c =
    let x = book_of c.args.work.now in
    let q = found_some _ _ (sym c.find_free.ensures ∙ c.in-Some-find_free.is) in
    let f = found-free x.entries x.cursor _ q in
    record { holds = c.requires.holds.1; change = c.requires.job.1; p_bound = (omega (arith, f.0, c.requires.holds.1.sized.entries), f.1); indexed = c.requires.indexed }

pub overflow_add-taken : goal.overflow_add-taken
overflow_add-taken c =
    let small = changes-within (book_of c.args.book.now).sizes.l c.args.list.bytes.now c.requires.job.0.good in
    omega (arith, c.requires.standing.taken, c.requires.job.1, c.args.list.whole.changes, c.requires.holds.0.l)

pub returns-in_default : goal.returns-in_default
unfolding PlacedBy
returns-in_default c =
    let looked = sought c.args.work.now c.args.list.bytes.now _ _ c.args.i c.find_held.ensures c.prints.ensures c.requires.job.1 in
    let k = c.take_block in
    record {
      placed_by = taken-by _ _ _ _ _ _ _ c.requires.holds.0.sized c.requires.holds.1 c.requires.job.0 (below c.args.list c.requires.job.1) c.requires.standing _ _ _
          (found_none _ (looked ∙ c.in_default.is))
          (found_some _ _ (sym c.find_free.ensures ∙ c.in-Some-find_free.is))
          k.ensures.is
          k.ensures.taker_after;
      indexed_2 = k.ensures.indexed_2;
    }

pub same_block-requires : goal.same_block-requires
same_block-requires c =
    let looked = sought c.args.work.now c.args.list.bytes.now _ _ c.args.i c.find_held.ensures c.prints.ensures c.requires.job.1 in
    let a = c.args in
    let q = found_some _ _ (looked ∙ c.in-Some.is) in
    let f = found-held (book_of a.work.now).entries (change_at a.list.bytes.now a.i).print _ q in
    let n = ap (λ (z : Sizes). z.n) c.requires.standing.sizes in
    record { holds = c.requires.holds.0; change = c.requires.job.1; p_bound = (omega (arith, f.0, c.requires.holds.1.sized.entries), c.requires.job.0.size); p_bound_2 = λ e. omega (arith, c.requires.standing.marks _ e f.1, c.requires.job.1) }

pub returns-then-not-same_block : goal.returns-then-not-same_block
unfolding PlacedBy
returns-then-not-same_block c =
    let looked = sought c.args.work.now c.args.list.bytes.now _ _ c.args.i c.find_held.ensures c.prints.ensures c.requires.job.1 in
    record {
      placed_by = eleven_by _ _ _ _ _ _ _ c.requires.holds.0.sized c.requires.holds.1 c.requires.job.0 (below c.args.list c.requires.job.1) c.requires.standing _
          (found_some _ _ (looked ∙ c.in-Some.is))
          (failed c.same_block.ensures (ap not c.if-not-same_block.true));
      indexed_2 = c.requires.indexed;
    }

pub returns : goal.returns
unfolding PlacedBy
returns c =
    let looked = sought c.args.work.now c.args.list.bytes.now _ _ c.args.i c.find_held.ensures c.prints.ensures c.requires.job.1 in
    record {
      placed_by = found-by _ _ _ _ _ _ _ c.requires.holds.0.sized c.requires.holds.1 c.requires.job.0 (below c.args.list c.requires.job.1) c.requires.standing _
          (found_some _ _ (looked ∙ c.in-Some.is))
          (passed c.same_block.ensures (ap not c.if-not-same_block.false));
      indexed_2 = c.requires.indexed;
    }
