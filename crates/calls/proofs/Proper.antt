-- No call is refused by 0.
use Prim.Native.Nat.{ℕ, zero, suc}
use mathlib.Core.Bool.{Bool, true, false}
use mathlib.Core.List.{List, [], ◌∷◌}
use mathlib.Core.Option.{Option, none, some}
use lib.Dec.{eqb}
use Rattle.words.specs.Blocks.{unmapped}
use Rattle.words.specs.Choice.{when◌then◌else◌}
use Rattle.words.specs.Lists.{same, up_from}
use Rattle.words.specs.Outcome.{Outcome, refused, accepted, unless}
use Rattle.runs.specs.Changes.{Change, changes}
use Rattle.book.specs.Book.{Book, cell_at}
use Rattle.book.specs.Form.{form_number}
use Rattle.book.specs.Layout.{book_of}
use Rattle.model.specs.Backup
use Rattle.model.specs.Backup.{Work, Placed, find_held, find_free, place_free, place_held, place, move_to, move_number, change_step, run_changes}
use Rattle.model.specs.Backup.{until_next, begun, backup_number}
use Rattle.model.specs.Collect
use Rattle.model.specs.Collect.{collect_number}
use Rattle.model.specs.Pool.{block_at}
use Rattle.model.specs.Kept.{kept_number}
use Rattle.model.specs.OnBytes.{pool_number, spare_number, backup_bytes, retire_bytes, collect_bytes, collected_bytes, restore_bytes, audit_bytes}
use Rattle.model.specs.Read
use Rattle.model.specs.Read.{read_number}
use Rattle.model.specs.Restore
use Rattle.model.specs.Restore.{run_number, reads_from}
use Rattle.model.specs.Retire
use Rattle.model.specs.Retire.{retire_number, clear_number, cleared, clear_cell, clear_cells}
use Rattle.claims.proofs.form.Proper.{Proper, proper_accepted, proper_refused, proper_unless, proper_then}

pub collect_proper : (b : List ℕ) (t : ℕ) → Proper (collect_bytes b t)
unfolding collect_bytes Collect.collect
collect_proper b t =
    proper_unless (form_number b) _
    (proper_then (Collect.collect (book_of b) t) (λ d. accepted (collected_bytes d))
    (proper_unless (collect_number (book_of b) t) _ (proper_accepted _)) (λ d. proper_accepted _))

pub audit_proper : (b : List ℕ) → Proper (audit_bytes b)
unfolding audit_bytes
audit_proper b = proper_unless (form_number b) _ (proper_accepted _)

place_proper : (c : Change) (w : Work) → Proper (place c w)
unfolding place place_held place_free
place_proper c w = held (find_held w.book.entries c.print)
  where
    free : (o : Option ℕ) → Proper (place_free c w o)
    free none = proper_refused 11
    free (some p) = proper_accepted _

    check : (t : Bool) (d : Placed) → Proper (when t then accepted d else refused 11)
    check true d = proper_accepted d
    check false d = proper_refused 10

    held : (o : Option ℕ) → Proper (place_held c w o)
    held none = free (find_free w.book.entries w.book.cursor)
    held (some p) = check (same (block_at w.pool p) c.block) _

step_proper : (v until : ℕ) (c : Change) (w : Work) → Proper (change_step v until c w)
unfolding change_step move_to
step_proper v until c w =
    proper_then (place c w) _ (place_proper c w)
    (λ d. proper_unless (move_number until _ d.pbn d.work.book.entries) _ (proper_accepted _))

changes_proper : (v until : ℕ) (cs : List Change) (w : Work) → Proper (run_changes v until cs w)
changes_proper v until [] w = proper_accepted w
changes_proper v until (c ∷ cs) w = proper_then (change_step v until c w) _ (step_proper v until c w) (λ w'. changes_proper v until cs w')

pub backup_proper : (b pool : List ℕ) (spare v t : ℕ) (list : List ℕ) → Proper (backup_bytes b pool spare v t list)
unfolding backup_bytes Backup.backup
backup_proper b pool spare v t list =
    proper_unless (form_number b) _
    (proper_unless (pool_number b pool) _
    (proper_unless (spare_number b spare) _
    (proper_then (Backup.backup (book_of b) pool v t list) _
    (proper_unless (backup_number (book_of b) v t list) _
    (proper_then (run_changes v (until_next (book_of b) v) (changes list) (begun (book_of b) pool)) _
    (changes_proper v _ (changes list) _) (λ w. proper_accepted _)))
    (λ d. proper_accepted _))))

clear_proper : (v until lbn before : ℕ) (x : Book) → Proper (clear_cell v until lbn before x)
unfolding clear_cell
clear_proper v until lbn before x = go (eqb before unmapped)
  where
    go : (t : Bool) → Proper (when t then accepted x else unless (clear_number x before) (accepted (cleared v until lbn before x)))
    go true = proper_accepted x
    go false = proper_unless (clear_number x before) _ (proper_accepted _)

clears_proper : (v until : ℕ) (ls : List ℕ) (x : Book) → Proper (clear_cells v until ls x)
clears_proper v until [] x = proper_accepted x
clears_proper v until (l ∷ ls) x =
    proper_then (clear_cell v until l (cell_at x.maps v l) x) _ (clear_proper v until l (cell_at x.maps v l) x)
    (λ y. clears_proper v until ls y)

pub retire_proper : (b : List ℕ) (spare v t : ℕ) → Proper (retire_bytes b spare v t)
unfolding retire_bytes Retire.retire
retire_proper b spare v t =
    let x = book_of b in
    proper_unless (form_number b) _
    (proper_unless (spare_number b spare) _
    (proper_then (Retire.retire x v t) _
    (proper_unless (retire_number x v t) _
    (proper_then (clear_cells v (until_next x v) (up_from 0 x.sizes.l) x) _ (clears_proper v _ (up_from 0 x.sizes.l) x)
    (λ y. proper_accepted _)))
    (λ d. proper_accepted _)))

reads_proper : (one : ℕ → Outcome (List ℕ)) → ((l : ℕ) → Proper (one l)) → (first many : ℕ) → Proper (reads_from one first many)
reads_proper one h first zero = proper_accepted []
reads_proper one h first (suc m) =
    proper_then (one first) _ (h first)
    (λ b. proper_then (reads_from one (suc first) m) _ (reads_proper one h (suc first) m) (λ rest. proper_accepted _))

pub restore_proper : (b pool : List ℕ) (v k first many room : ℕ) → Proper (restore_bytes b pool v k first many room)
unfolding restore_bytes Restore.restore Read.read
restore_proper b pool v k first many room =
    let x = book_of b in
    proper_unless (form_number b) _
    (proper_unless (pool_number b pool) _
    (proper_unless (kept_number x v k) _
    (proper_unless (run_number x.sizes.l first many room) _
    (reads_proper (Read.read x pool v k) (λ l. proper_unless (read_number x v k l) _ (proper_accepted _)) first many))))
