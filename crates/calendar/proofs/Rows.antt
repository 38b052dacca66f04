-- The rows of a volume's backups in the slots from one on.
use Prim.Native.Nat.{ℕ, ◌+◌, ◌≤◌, ◌<◌}
use mathlib.Core.Path.{◌≡◌, sym, ap, ap₂, ◌∙◌}
use mathlib.Core.Bool.{true}
use mathlib.Core.List.{List, [], ◌++◌}
use native.Mathlib.Omega.{arith}
use lib.ListN.{length}
use Rattle.words.proofs.LayingLaws.{Left, left-all}
use Rattle.book.specs.Book.{Book, slot_at, retention_of}
use Rattle.book.specs.Form.{pairs_ok}
use Rattle.model.specs.Journal.{Backup}
use Rattle.model.specs.JournalAt.{own_from}
use Rattle.claims.proofs.kept.JournalAtLaws.{from_start, from-own, from_end}
use Rattle.model.specs.Views.{backup_rows, backups_of}
use Rattle.calendar.specs.Own.{NextIs}
use Rattle.calendar.specs.Row.{row_from}
use Rattle.calendar.proofs.RowLaws.{row_is}

unfoldable pub rows_from : Book → ℕ → ℕ → List ℕ
rows_from x v q = backup_rows (retention_of x v) x.day (own_from x v q)

module _ {x : Book} {v q : ℕ} where
  -- at the first of the volume's slots all of them are left
  pub rows_left : {out : List ℕ} → NextIs x v 0 q → length (backups_of x v) ≤ length out
      → Left out 0 (backups_of x v) out 0 (rows_from x v q)
  unfolding backups_of rows_from
  rows_left n h = rw (← n.later, from_start x v) (left-all (omega arith))

  pub rows_next : {next r : ℕ} → pairs_ok 0 x.slots (length x.records) ≡ true → q < length x.slots
      → (slot_at x.slots q).volume ≡ v → r ≡ retention_of x v → NextIs x v (q + 1) next
      → rows_from x v q ≡ row_from x q next r ++ rows_from x v next
  unfolding rows_from
  rows_next {next} {r} p h e s n =
      let rows : List Backup → List ℕ = backup_rows (retention_of x v) x.day in
      let row = row_is x q p h v (retention_of x v) next n ∙ ap (λ (k : ℕ). row_from x q next k) (sym s) in
      ap rows (from-own x v q h e) ∙ ap₂ (λ (a b : List ℕ). a ++ b) row (ap rows n.later)

pub rows_end : (x : Book) (v q : ℕ) → length x.slots ≤ q → rows_from x v q ≡ []
unfolding rows_from
rows_end x v q h = rw (from_end x v q h)
