-- What the numbers in a backup's answer count: blocks that became held, and changes with those that had a before. Of every book, in form or
-- not.
use Prim.Native.Nat.{ℕ, ◌+◌, ◌*◌, ◌≤◌}
use mathlib.Core.Path.{◌≡◌, refl, sym, ap, subst, ◌∙◌}
use mathlib.Core.Bool.{Bool, true, false, not}
use mathlib.Core.List.{List, [], ◌∷◌, ◌++◌, append-nil, append_assoc}
use mathlib.Core.Option.{Option, none, some}
use native.Mathlib.Omega.{arith}
use lib.Dec.{eqb}
use lib.ListN.{length, set, drop, length-append}
use lib.Seq.{drop-append_seam}
use Rattle.words.proofs.Accepted.{unless-accepted, then-accepted, refused_not, accepted-same}
use Rattle.words.proofs.Appends.{count_of_append}
use Rattle.words.specs.Blocks.{unmapped}
use Rattle.words.specs.Choice.{when◌then◌else◌}
use Rattle.words.specs.Lists.{bit}
use Rattle.words.proofs.Counting.{count_set, count-set-kept, count_most}
use Rattle.words.specs.Lists.{count_of, same}
use Rattle.words.specs.Outcome.{refused, accepted, and_then}
use Rattle.runs.specs.Changes.{Change, changes, change_count}
use Rattle.runs.proofs.Laws.{length-changes}
use Rattle.book.specs.Book.{Entry, Rec, Book, entry_at, free_entry, cell_at}
use Rattle.book.specs.Next.{with_day, with_cursor, with_entries, with_maps, with_record, with_slot, count_as, expiry_as, held_as}
use Rattle.model.specs.Pool.{block_at}
use Rattle.model.specs.Backup.{Work, Placed, Backed, find_held, find_free, take_block, place_free, place_held, place, lowered, lower}
use Rattle.model.specs.Backup.{raised, name_block, move_number, moved, move_to, change_step, run_changes, begun, closed, backup_number}
use Rattle.model.specs.Backup.{until_next, backup}
use Rattle.claims.specs.Claims.{held_in}
use Rattle.claims.proofs.claims.FoundBlocks.{free-next}
use Rattle.claims.specs.Claims.{had_before, added_to, Answered}

-- ---- steps 1 and 2: what they leave of the counts, where the block may have been taken

record Took (w w' : Work) : Type 0 where
  maps : w'.book.maps ≡ w.book.maps
  records : w'.book.records ≡ w.book.records
  taken : held_in w'.book.entries + w.taken ≡ held_in w.book.entries + w'.taken
  touched : w'.touched ≡ w.touched

took_none : (w w' : Work) → w ≡ w' → Took w w'
took_none w w' e = rw (sym e) (record { maps = refl; records = refl; taken = refl; touched = refl })

module _ (c : Change) (w : Work) where
  take_counted : (p : ℕ) → find_free w.book.entries w.book.cursor ≡ some p → Took w (take_block c p w)
  unfolding take_block with_cursor with_entries held_as
  take_counted p e =
      let f = free-next w.book.entries w.book.cursor p e in
      let b = held_as c.print (entry_at w.book.entries p) in
      let k = count_set (λ (e : Entry). e.held) w.book.entries p b free_entry f.inside in
      let z : bit (entry_at w.book.entries p).held ≡ 0 = rw f.free in
      record { maps = refl; records = refl; taken = omega arith; touched = refl }

  free-counted : (o : Option ℕ) (d : Placed) → find_free w.book.entries w.book.cursor ≡ o
      → place_free c w o ≡ accepted d → Took w d.work
  unfolding place_free
  free-counted none d f e = absurd (refused_not 12 d e)
  free-counted (some p) d f e = subst (Took w) (ap (λ (d : Placed). d.work) (accepted-same _ d e)) (take_counted p f)

  held-counted : (o : Option ℕ) (d : Placed) → place_held c w o ≡ accepted d → Took w d.work
  unfolding place_held
  held-counted none d e = free-counted (find_free w.book.entries w.book.cursor) d refl e
  held-counted (some p) d e = go (same (block_at w.pool p) c.block) e
    where
      go : (t : Bool) → (when t then accepted (record { pbn = p; work = w }) else refused 11) ≡ accepted d → Took w d.work
      go true f = took_none w d.work (ap (λ (d : Placed). d.work) (accepted-same _ d f))
      go false f = absurd (refused_not 11 d f)

-- ---- steps 3 and 4

-- from w to w' there were so many changes
pub record Counted (n : ℕ) (w w' : Work) : Type 0 where
  pub added : List Rec
  pub records : w'.book.records ≡ w.book.records ++ added
  pub changes : length added ≡ n
  pub taken : held_in w'.book.entries + w.taken ≡ held_in w.book.entries + w'.taken
  pub touched : w'.touched ≡ w.touched + n + count_of had_before added

lower-held : (until before : ℕ) (es : List Entry) → held_in (lower until before es) ≡ held_in es
unfolding lower lowered count_as expiry_as
lower-held until before es = go (eqb before unmapped)
  where
    go : (t : Bool) → held_in (when t then es else set es before (lowered until (entry_at es before))) ≡ held_in es
    go true = refl
    go false = count-set-kept (λ (e : Entry). e.held) es before (lowered until (entry_at es before)) free_entry refl

raise-held : (p : ℕ) (es : List Entry) → held_in (set es p (raised (entry_at es p))) ≡ held_in es
unfolding raised count_as
raise-held p es = count-set-kept (λ (e : Entry). e.held) es p (raised (entry_at es p)) free_entry refl

module _ (v until lbn : ℕ) (d : Placed) where
  abbrev before : ℕ
  before = cell_at d.work.book.maps v lbn

  moved-counted : Counted 1 d.work (moved v until lbn before d)
  unfolding moved name_block with_record with_maps with_entries
  moved-counted = record {
    added = record { lbn = lbn; before = before; after = d.pbn } ∷ [];
    records = refl;
    changes = refl;
    taken = let es = d.work.book.entries in omega (arith, raise-held d.pbn (lower until before es), lower-held until before es);
    touched = go (eqb before unmapped);
  }
    where
      go : (t : Bool) → d.work.touched + (when t then 1 else 2) ≡ d.work.touched + 1 + (when not t then 1 else 0)
      go true = omega arith
      go false = omega arith

  move-counted : (w' : Work) → move_to v until lbn before d ≡ accepted w' → Counted 1 d.work w'
  unfolding move_to
  move-counted w' e =
      let f = unless-accepted (move_number until before d.pbn d.work.book.entries) (accepted (moved v until lbn before d)) w' e in
      subst (Counted 1 d.work) (accepted-same _ w' f.1) moved-counted

change_counted : (v until : ℕ) (c : Change) (w w' : Work) → change_step v until c w ≡ accepted w' → Counted 1 w w'
unfolding change_step place
change_counted v until c w w' e =
    let p = then-accepted (place c w) (move_to v until c.lbn (cell_at w.book.maps v c.lbn)) w' e in
    let a = held-counted c w (find_held w.book.entries c.print) p.0 p.1 in
    let b = move-counted v until c.lbn p.0 w' (rw a.maps p.2) in
    record {
      added = b.added;
      records = b.records ∙ ap (λ (rs : List Rec). rs ++ b.added) a.records;
      changes = b.changes;
      taken = omega arith;
      touched = omega arith;
    }

run-counted : (v until : ℕ) (cs : List Change) (w w' : Work) → run_changes v until cs w ≡ accepted w' → Counted (length cs) w w'
run-counted v until [] w w' e =
    subst (Counted 0 w) (accepted-same w w' e) (record {
      added = [];
      records = sym (append-nil w.book.records);
      changes = refl;
      taken = refl;
      touched = omega arith;
    })
run-counted v until (c ∷ cs) w w' e =
    let p = then-accepted (change_step v until c w) (λ u. run_changes v until cs u) w' e in
    let a = change_counted v until c w p.0 p.1 in
    let b = run-counted v until cs p.0 w' p.2 in
    record {
      added = a.added ++ b.added;
      records = b.records ∙ ap (λ (rs : List Rec). rs ++ b.added) a.records ∙ append_assoc w.book.records a.added b.added;
      changes = omega (arith, length-append a.added b.added);
      taken = omega arith;
      touched = omega (arith, count_of_append had_before a.added b.added);
    }

-- ---- the whole call

closed-counted : (x : Book) (pool : List ℕ) (v t n : ℕ) (w : Work) → Counted n (begun x pool) w → Answered x n (closed x v t n w)
unfolding begun closed with_day with_slot
closed-counted x pool v t n w a =
    let s : drop (length x.records) w.book.records ≡ a.added =
    ap (drop (length x.records)) a.records ∙ drop-append_seam x.records a.added in
    record { taken = omega arith; changes = rw s a.changes; touched = rw s (omega arith) }

pub backup-counted : (x : Book) (pool : List ℕ) (v t : ℕ) (list : List ℕ) (d : Backed) → backup x pool v t list ≡ accepted d
    → Answered x (change_count list) d
unfolding backup
backup-counted x pool v t list d e =
    let o = run_changes v (until_next x v) (changes list) (begun x pool) in
    let f = unless-accepted (backup_number x v t list) (and_then o (λ w. accepted (closed x v t (change_count list) w))) d e in
    let p = then-accepted o (λ w. accepted (closed x v t (change_count list) w)) d f.1 in
    let a = run-counted v (until_next x v) (changes list) (begun x pool) p.0 p.1 in
    let q = accepted-same (closed x v t (change_count list) p.0) d p.2 in
    subst (Answered x (change_count list)) q (closed-counted x pool v t (change_count list) p.0 (rw length-changes at a))

-- "so at most 2n"
pub touched-most : (x : Book) (pool : List ℕ) (v t : ℕ) (list : List ℕ) (d : Backed) → backup x pool v t list ≡ accepted d
    → d.touched ≤ 2 * change_count list
touched-most x pool v t list d e =
    let a = backup-counted x pool v t list d e in
    omega (arith, a.changes, a.touched, count_most had_before (added_to x d.book))
