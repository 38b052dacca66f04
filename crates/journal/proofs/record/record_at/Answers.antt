-- `journal::record::record_at`: the three numbers at their offsets, by `rec-at`.
use mathlib.Core.Path.{◌∙◌, ap}
use Rattle.book.specs.Book.{Rec}
use Rattle.book.proofs.Read.{rec-at}
use Rattle.journal.proofs.record.record_at.Goals as goal

pub returns : goal.returns
returns c =
    let at = c.record_offset-at in
    let e = rec-at c.args.book.now c.args.q at.result c.requires.q_in_bounds at.ensures.value in
    record {
      lbn = c.u16_at.ensures ∙ ap (λ (r : Rec). r.lbn) e;
      before = c.u16_at-2.ensures ∙ ap (λ (r : Rec). r.before) e;
      after = c.u16_at-3.ensures ∙ ap (λ (r : Rec). r.after) e;
    }
