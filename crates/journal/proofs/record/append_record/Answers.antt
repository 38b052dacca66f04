-- `journal::record::append_record`: what the two stores left, by `is-record`.
use Prim.Native.Nat.{ℕ}
use mathlib.Core.Path.{◌∙◌, ap}
use native.Mathlib.Omega.{arith}
use Rattle.book.specs.Layout.{rec_offset, book_of}
use Rattle.book.proofs.Write.{is-record}
use Rattle.journal.proofs.record.append_record.Goals as goal

pub returns : goal.returns
returns c =
    let used = c.used_records-used in
    let at = c.record_offset-at in
    let a = c.args in
    is-record c.requires.holds (record { lbn = a.lbn.0; before = a.before.0; after = a.after.0 })
    at.result _ c.requires.book_len_bound
    (at.ensures.value ∙ ap (λ (q : ℕ). rec_offset (book_of a.book.now).sizes q) used.ensures)
    (omega arith)
    c.put_three.ensures
    c.put_u16.ensures
