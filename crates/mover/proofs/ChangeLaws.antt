-- Laws of a whole change: where it stops, and where the backup stands after it.
use Prim.Native.Nat.{ℕ, suc, ◌+◌, ◌≤◌, ◌<◌}
use mathlib.Core.Path.{◌≡◌, refl, sym, ap, ◌∙◌}
use mathlib.Core.Bool.{true}
use mathlib.Core.List.{List, [], ◌∷◌}
use native.Mathlib.Numerals.{add-one}
use native.Mathlib.Omega.{arith}
use lib.Dec.{ltb, eqb}
use lib.ListN.{length, get_or, set, drop, length-append, drop_of_length-le}
use lib.Seq.{drop-cons}
use borrow.Author.Tests.{lt-ltb}
use Rattle.std.specs.Prelude.{Result, Ok, Err}
use Rattle.words.proofs.Accepted.{unless-accepted}
use Rattle.words.proofs.Refused.{number-not_zero}
use Rattle.words.specs.Blocks.{unmapped}
use Rattle.words.proofs.ChoiceLaws.{or_l}
use Rattle.words.specs.Lent.{Lent}
use Rattle.words.specs.Lists.{all}
use Rattle.words.specs.Outcome.{refused, accepted}
use Rattle.words.specs.Refusals.{number, refusal_number}
use Rattle.words.specs.declared.refusals.Refusal.{Refusal}
use Rattle.words.proofs.Places.{all_get_d, all_set}
use Rattle.words.specs.declared.PBN.{PBN}
use Rattle.runs.specs.Changes.{Change, change_count, change_at, changes}
use Rattle.runs.proofs.Laws.{length-changes, get_or-changes}
use Rattle.book.specs.Book.{Sizes, Book, entry_at, cell_at}
use Rattle.book.specs.Form.{pbn_ok}
use Rattle.book.specs.Layout.{book_of, told, Holds}
use Rattle.book.specs.Next.{with_entries, with_maps, with_record}
use Rattle.claims.proofs.agreement.Moving.{moved-held}
use Rattle.model.specs.Backup.{Work, Placed, place, lower, name_block, move_number, moved, move_to, change_step, run_changes}
use Rattle.finder.specs.Indexed.{Indexed}
use Rattle.finder.specs.declared.finding.Index.{Index}
use Rattle.placer.proofs.Indexing.{moved_indexed}
use Rattle.mover.proofs.MoveLaws.{at_most_two}
use Rattle.placer.proofs.PlaceLaws.{PlacedAt}
use Rattle.placer.proofs.PoolLaws.{same-now}
use Rattle.mover.specs.Stepping.{MovedBy, SteppedBy, StillIndexed, no_tally, RanBy}
use Rattle.placer.specs.Placing.{work_from, work_to}
use Rattle.placer.specs.Working.{pool_now, work_at, work_of, Standing}
use Rattle.placer.specs.declared.placing.Tally.{Tally}

-- ---- what steps 3 and 4 leave

abbrev named_book : ℕ → ℕ → ℕ → ℕ → Book → Book
named_book v until lbn p y = name_block v lbn p (lower until (cell_at y.maps v lbn) y.entries) y

module _ (v until lbn p : ℕ) (y : Book) where
  named-held : (q : ℕ) → (entry_at (named_book v until lbn p y).entries q).held ≡ (entry_at y.entries q).held
  unfolding name_block with_entries with_maps with_record
  named-held q = moved-held until (cell_at y.maps v lbn) p y.entries q

  named-maps : p < y.sizes.n → all (all (pbn_ok y.sizes.n)) y.maps ≡ true
      → all (all (pbn_ok y.sizes.n)) (named_book v until lbn p y).maps ≡ true
  unfolding name_block with_entries with_maps with_record pbn_ok
  named-maps h e =
      let f = pbn_ok y.sizes.n in
      all_set (all f) y.maps v (set (get_or y.maps v []) lbn p) e
      (all_set f (get_or y.maps v []) lbn p (all_get_d (all f) y.maps [] v e refl)
      (or_l (ltb p y.sizes.n) (eqb p unmapped) (lt-ltb p y.sizes.n h)))

  named-records : length (named_book v until lbn p y).records ≡ length y.records + 1
  unfolding name_block with_entries with_maps with_record
  named-records = length-append y.records _

  named-standing : (x : Book) (taker : List ℕ) (t t' : Tally) (i : ℕ) → p < x.sizes.n → Standing x y taker t (i + 1) i
      → t'.taken ≡ t.taken → t'.touched ≤ t.touched + 2 → Standing x (named_book v until lbn p y) taker t' (i + 1) (i + 1)
  unfolding name_block with_entries with_maps with_record
  named-standing x taker t t' i h s e f =
      let n = ap (λ (z : Sizes). z.n) s.sizes in
      record {
        sizes = s.sizes;
        slots = s.slots;
        cursor = s.cursor;
        maps = named-maps (omega arith) s.maps;
        records = let r = s.records in let l = named-records in omega arith;
        kept = λ q a. named-held q ∙ s.kept q a;
        marks = λ q a b. s.marks q a (sym (named-held q) ∙ b);
        table = s.table;
        taken = let r = s.taken in omega arith;
        touched = let r = s.touched in omega arith;
      }

-- what an accepted move gives
module _ (v until lbn : ℕ) (d : Placed) (w : Work) where
  move_gives : move_to v until lbn (cell_at d.work.book.maps v lbn) d ≡ accepted w
      → (w.book ≡ named_book v until lbn d.pbn d.work.book) × (w.taken ≡ d.work.taken) × (w.touched ≤ d.work.touched + 2)
  unfolding move_to moved
  move_gives e =
      let before = cell_at d.work.book.maps v lbn in
      let f = unless-accepted (move_number until before d.pbn d.work.book.entries) (accepted (moved v until lbn before d)) w e in
      let q : w ≡ moved v until lbn before d = cc f.1 in (
        ap (λ (w : Work). w.book) q,
        ap (λ (w : Work). w.taken) q,
        omega (arith, ap (λ (w : Work). w.touched) q, at_most_two (eqb before unmapped)),
      )

-- .. and what it leaves of the index
pub move_indexed : (work : Lent (List ℕ)) (index : Lent Index) (v lbn p until : ℕ) (t : Tally) (r : Result Tally Refusal) (moved : Lent (List ℕ))
    → MovedBy moved v lbn p until t r → Indexed (told moved.entry).entries index.exit.now.heads index.exit.now.nexts
    → work.exit.now ≡ moved.exit.now → StillIndexed work index r
unfolding MovedBy StillIndexed name_block with_entries with_maps with_record
move_indexed work index v lbn p until t (Ok t') moved m i same =
    let y = told moved.entry in
    let g = move_gives v until lbn (record { pbn = p; work = work_at y [] t }) (work_at (told moved.exit) [] t') (m.0 []) in
    let e = ap (λ (y : Book). y.entries) g.0 in
    rw (same, e) (moved_indexed until (cell_at y.maps v lbn) p y.entries i)
move_indexed work index v lbn p until t (Err e) moved m i same = tt

-- ---- a change

-- a change that isn't placed is refused with the number of that
pub change_unplaced : (v until : ℕ) (c : Change) (w : Work) (k : ℕ) → place c w ≡ refused k → change_step v until c w ≡ refused k
unfolding change_step
change_unplaced v until c w k h = rw h

module _ (x : Book) (pool list : List ℕ) (v until i : ℕ) (b taker : List ℕ) (t : Tally) where
  -- the model's change, once the block is known
  change_placed : (p : PBN) (u : Tally) (b₁ taker₁ : List ℕ) → PlacedAt x pool list i b taker t p u b₁ taker₁
      → change_step v until (change_at list i) (work_of x pool list (book_of b) taker t)
      ≡ move_to v until (change_at list i).lbn (cell_at (book_of b₁).maps v (change_at list i).lbn)
      (record { pbn = p.0; work = work_of x pool list (book_of b₁) taker₁ u })
  unfolding change_step
  change_placed p u b₁ taker₁ h =
      rw h.0 (ap (λ (ms : List (List ℕ)). move_to v until (change_at list i).lbn (cell_at ms v (change_at list i).lbn)
      (record { pbn = p.0; work = work_of x pool list (book_of b₁) taker₁ u })) (sym h.1))

module _ (book pool work : Lent (List ℕ)) (list : List ℕ) (taker : Lent (List ℕ)) (v until i : ℕ) (t : Tally) where
  abbrev x : Book
  x = told book.entry

  -- a change that is placed goes as its move goes
  pub change_by : (p : PBN) (u : Tally) (r : Result Tally Refusal) (moved : Lent (List ℕ)) → MovedBy moved v (change_at list i).lbn p.0 until u r
      → PlacedAt x pool.entry.now list i work.entry.now taker.entry.now t p u moved.entry.now taker.exit.now
      → work.exit.now ≡ moved.exit.now → SteppedBy book pool work list taker v until i t r
  unfolding SteppedBy MovedBy
  change_by p u (Ok t') moved m h same =
      let b₁ = moved.entry.now in
      let b₂ = moved.exit.now in
      let taker₁ = taker.exit.now in
      let P = pool_now x.entries (book_of b₁).entries taker₁ list pool.entry.now in
      let d : Placed = record { pbn = p.0; work = work_of x pool.entry.now list (book_of b₁) taker₁ u } in
      let g = move_gives v until (change_at list i).lbn d (work_at (book_of b₂) P t') (m.0 P) in
      let kept : P ≡ pool_now x.entries (book_of b₂).entries taker₁ list pool.entry.now =
      same-now x.entries (book_of b₁).entries (book_of b₂).entries taker₁ list pool.entry.now
      (λ q. ap (λ (y : Book). (entry_at y.entries q).held) g.0 ∙ named-held v until (change_at list i).lbn p.0 (book_of b₁) q) in
      rw same (
        change_placed x pool.entry.now list v until i work.entry.now taker.entry.now t p u b₁ taker₁ h
            ∙ m.0 P ∙ ap (λ (P : List ℕ). accepted (work_at (book_of b₂) P t')) kept,
        m.1,
        rw g.0 (named-standing v until (change_at list i).lbn p.0 (book_of b₁) x taker₁ u t' i h.2 h.4 g.1 g.2),
      )
  change_by p u (Err e) moved m h same =
      let P = pool_now x.entries (told moved.entry).entries taker.exit.now list pool.entry.now in
      change_placed x pool.entry.now list v until i work.entry.now taker.entry.now t p u
      moved.entry.now taker.exit.now h ∙ m P

-- ---- one change after another

module _ (v until : ℕ) (list : List ℕ) (i : ℕ) (w : Work) where
  drop-changes : i < change_count list → drop i (changes list) ≡ change_at list i ∷ drop (i + 1) (changes list)
  drop-changes h =
      rw (add-one i)
      (drop-cons (changes list) i (change_at list i) (rw length-changes h)
      ∙ ap (λ (c : Change). c ∷ drop (suc i) (changes list)) (get_or-changes list i (change_at list i) h))

  pub run_more : (w' : Work) → i < change_count list → change_step v until (change_at list i) w ≡ accepted w'
      → run_changes v until (drop i (changes list)) w ≡ run_changes v until (drop (i + 1) (changes list)) w'
  run_more w' h e = ap (λ (cs : List Change). run_changes v until cs w) (drop-changes h) ∙ rw e

  run-stop : (k : ℕ) → i < change_count list → change_step v until (change_at list i) w ≡ refused k
      → run_changes v until (drop i (changes list)) w ≡ refused k
  run-stop k h e = ap (λ (cs : List Change). run_changes v until cs w) (drop-changes h) ∙ rw e

  run_end : change_count list ≤ i → run_changes v until (drop i (changes list)) w ≡ accepted w
  run_end h = rw (drop_of_length-le (changes list) {i = i} (rw length-changes h))

module _ (book pool work : Lent (List ℕ)) (list : List ℕ) (taker : Lent (List ℕ)) (v until : ℕ) where
  -- the whole run stops at change i, or has no change left
  module _ (i : ℕ) (w : Work)
      (l : run_changes v until (changes list) (work_from book pool work list taker no_tally)
      ≡ run_changes v until (drop i (changes list)) w) where
    pub run-refused : (r : Result Tally Refusal) (e : Refusal) → i < change_count list → refusal_number r ≡ number e
        → change_step v until (change_at list i) w ≡ refused (number e) → RanBy book pool work list taker v until r
    unfolding RanBy
    run-refused (Ok t) e h f s = absurd (number-not_zero e (sym f))
    run-refused (Err d) e h f s = rw f (l ∙ run-stop v until list i w (number e) h s)

    pub run-done : (t : Tally) → w ≡ work_to book pool work list taker t → i ≡ change_count list → Holds work.exit.now
        → Standing (told book.entry) (told work.exit) taker.exit.now t i i → RanBy book pool work list taker v until (Ok t)
    unfolding RanBy
    run-done t same e h s =
        (l ∙ run_end v until list i w (omega arith) ∙ ap (λ (w : Work). accepted w) same, h, rw e at s)
