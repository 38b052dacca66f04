-- A read of the plain store answers what the volume's history owes, after every list of calls.
use Prim.Native.Nat.{ℕ, zero, suc, ◌-◌, ◌≤◌, ◌<◌}
use mathlib.Core.Path.{◌≡◌, refl, sym, ap, ◌∙◌}
use mathlib.Core.Bool.{Bool, true, false, not, ◌||◌}
use mathlib.Core.List.{List, []}
use native.Mathlib.Omega.{arith}
use lib.Dec.{leb, ltb, eqb}
use lib.ListN.{length, get_or, get_or-eq_default}
use borrow.Author.Tests.{ltb-true, leb-false, eq-eqb}
use Rattle.words.specs.Blocks.{unmapped}
use Rattle.words.specs.Outcome.{accepted}
use Rattle.book.specs.Book.{Sizes}
use Rattle.book.specs.Form.{sizes_ok}
use Rattle.book.proofs.SizesIn.{sizes-facts}
use Rattle.model.specs.Days.{kept}
use Rattle.model.specs.Plain
use Rattle.model.specs.Plain.{free, Taken, Plain, start, retention_at, is_enrolled, taken_of, days_of, maps_of, bytes_of, cell}
use Rattle.model.specs.Calls.{Call}
use Rattle.model.specs.Sides.{answers_of, end_of, read_answer, plain}
use Rattle.model.specs.History.{History, history_of, day_of, days_noted, sent_block, is_none, block_or, history_number, history_read}
use Rattle.claims.proofs.kept.ReadNumbers.{same-refusal, number-inside}
use Rattle.claims.proofs.plain.PlainShows.{shown_at, held-bytes-or}
use Rattle.claims.proofs.plain.PlainRecalls.{image_at, AllRecall}
use Rattle.claims.proofs.plain.PlainRecallsOthers.{start_recalls}
use Rattle.claims.proofs.plain.PlainHistory.{list_recalls}

module _ {l d : ℕ} {q : Plain} {h : ℕ → History} (a : AllRecall l d q h) (v : ℕ) where
  abbrev is : List Taken
  is = taken_of v q.taken

  -- number 5
  same-enrolled : (ltb 7 v || not (is_enrolled q v)) ≡ eqb (h v).retention 0
  same-enrolled = go (ltb 7 v) refl
    where
      not-not : (t : Bool) → not (not t) ≡ t
      not-not true = refl
      not-not false = refl

      go : (t : Bool) → ltb 7 v ≡ t → (t || not (is_enrolled q v)) ≡ eqb (h v).retention 0
      go true e =
          let past : length q.retentions ≤ v = omega (arith, a.volume_count, ltb-true 7 v e) in
          sym (eq-eqb (h v).retention 0 (sym (a.each v).retention ∙ get_or-eq_default q.retentions 0 past))
      go false e = not-not (eqb (retention_at q v) 0) ∙ ap (λ (r : ℕ). eqb r 0) (a.each v).retention

  -- numbers 15, 16 and 17
  same_count : (k : ℕ) → (eqb k 0 || ltb (length (maps_of is)) k) ≡ (eqb k 0 || ltb (length (h v).sent) k)
  same_count k = rw (a.each v).count

  same_kept : (k : ℕ) → kept (days_of is) (retention_at q v) q.day k ≡ kept (days_noted (h v)) (h v).retention d k
  same_kept k = rw ((a.each v).days, (a.each v).retention, a.day)

  same_logical : (lbn : ℕ) → leb q.sizes.l lbn ≡ leb l lbn
  same_logical lbn = rw a.logical

  -- number 18, and the bytes
  cell-image : (k lbn : ℕ) → 0 < k → cell q v k lbn ≡ get_or (image_at l is k) lbn unmapped
  cell-image zero lbn i = absurd (omega arith)
  cell-image (suc k) lbn i = let e : suc k - 1 ≡ k = omega arith in rw (e, a.logical)

  lbn-there : (lbn : ℕ) → leb q.sizes.l lbn ≡ false → lbn < l
  lbn-there lbn e = leb-false l lbn (sym (same_logical lbn) ∙ e)

  same_mapped : (k lbn : ℕ) → (eqb k 0 || ltb (length (maps_of is)) k) ≡ false → leb q.sizes.l lbn ≡ false
      → eqb (cell q v k lbn) unmapped ≡ is_none (sent_block (h v) k lbn)
  same_mapped k lbn e f =
      let n = number-inside k (length (maps_of is)) e in
      ap (λ (p : ℕ). eqb p unmapped) (cell-image k lbn n.0) ∙ (a.each v).maps k n.1 lbn (lbn-there lbn f)

  same_bytes : (k lbn : ℕ) → (eqb k 0 || ltb (length (maps_of is)) k) ≡ false → kept (days_of is) (retention_at q v) q.day k ≡ true
      → leb q.sizes.l lbn ≡ false → bytes_of (get_or q.blocks (cell q v k lbn) free) ≡ block_or [] (sent_block (h v) k lbn)
  same_bytes k lbn e g f =
      let n = number-inside k (length (maps_of is)) e in
      let c = (a.each v).carries k n.1 (rw a.day at g) lbn (lbn-there lbn f) in
      held-bytes-or (get_or q.blocks (cell q v k lbn) free)
      ∙ ap (λ (p : ℕ). block_or [] (shown_at q.blocks p)) (cell-image k lbn n.0)
      ∙ ap (block_or []) c

  pub read_recalls : (k lbn : ℕ) → read_answer (Plain.read q v k lbn) ≡ history_read l (h v) d k lbn
  unfolding Plain.read Plain.read_number history_read history_number
  read_recalls k lbn =
      rw (← same-enrolled, ← (same_count k), ← (same_kept k), ← (same_logical lbn))
      (ap read_answer
      (same-refusal (ltb 7 v || not (is_enrolled q v)) absent absent keeps keeps (leb q.sizes.l lbn) (leb q.sizes.l lbn)
      (eqb (cell q v k lbn) unmapped) (is_none (sent_block (h v) k lbn))
      (accepted (bytes_of (get_or q.blocks (cell q v k lbn) free))) (accepted (block_or [] (sent_block (h v) k lbn)))
      (λ _. refl) (λ _ _. (refl, refl)) (λ _ e f. same_mapped k lbn e f) (λ _ e g f _. ap accepted (same_bytes k lbn e g f))))
    where
      absent : Bool
      absent = eqb k 0 || ltb (length (maps_of is)) k

      keeps : Bool
      keeps = kept (days_of is) (retention_at q v) q.day k

-- ---- every list of calls from the start

pub plain-reads : (z : Sizes) → sizes_ok z ≡ true → (cs : List Call) (v k lbn : ℕ)
    → read_answer (Plain.read (end_of plain (start z) cs) v k lbn)
    ≡ history_read z.l (history_of v cs (answers_of plain (start z) cs)) (day_of cs (answers_of plain (start z) cs)) k lbn
unfolding history_of day_of
plain-reads z ok cs v k lbn =
    let small : z.n ≤ unmapped = omega (arith, (sizes-facts z ok).n) in
    read_recalls (list_recalls (start_recalls z small) cs) v k lbn
