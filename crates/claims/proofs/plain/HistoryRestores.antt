-- Where every read of a backup answers what the volume's history owes, a restore of it gives what the history owes.
use Prim.Native.Nat.{ℕ, zero, suc, ◌+◌, ◌*◌, ◌<◌}
use mathlib.Core.Path.{◌≡◌, refl, sym, ap, ◌∙◌}
use mathlib.Core.Bool.{Bool, true, false, ◌||◌}
use mathlib.Core.List.{List, []}
use native.Mathlib.Omega.{arith}
use lib.Dec.{leb, ltb, eqb}
use lib.ListN.{length}
use borrow.Author.Tests.{lt-leb}
use Rattle.words.specs.Blocks.{block_size, unmapped}
use Rattle.words.specs.Choice.{when◌then◌else◌}
use Rattle.words.specs.Lists.{some_of, up_from}
use Rattle.words.specs.Outcome.{Outcome, refused, accepted, unless}
use Rattle.words.specs.Sections.{flat}
use Rattle.book.specs.Book.{Book, retention_of}
use Rattle.model.specs.Days.{kept}
use Rattle.model.specs.Journal.{days, backup_count, no_volume}
use Rattle.model.specs.Kept.{kept_number}
use Rattle.model.specs.OnBytes.{number_of}
use Rattle.model.specs.Pool.{block_at}
use Rattle.model.specs.Read.{image, read_number, read}
use Rattle.model.specs.Restore.{run_number, reads_from, restore}
use Rattle.model.specs.Sides.{read_answer}
use Rattle.model.specs.History.{History, days_noted, sent_block, is_none, block_or, history_number, history_read, history_run_number}
use Rattle.model.specs.History.{history_restore}
use Rattle.claims.proofs.kept.ReadNumbers.{numbers, numbers-then}
use Rattle.claims.proofs.kept.RestoreLaws.{run_inside, only_unmapped, reads-joined}

-- an answer of a read says its outcome
answer-same : (o o' : Outcome (List ℕ)) → read_answer o ≡ read_answer o' → o ≡ o'
unfolding read_answer
answer-same (refused k) (refused k') e = cc
answer-same (accepted b) (accepted b') e = cc
answer-same (refused k) (accepted b) e = absurd (let z : ◌≡◌ {A = ℕ} 0 1 = cc in omega arith)
answer-same (accepted b) (refused k) e = absurd (let z : ◌≡◌ {A = ℕ} 0 1 = cc in omega arith)

-- what of a read's number is below 17
abbrev early : ℕ → ℕ
early n = when leb 17 n then 0 else n

-- 17, 18 or none
abbrev late : Bool → Bool → ℕ
late d e = when d then 17 else when e then 18 else 0

early-numbers : (a b c d e : Bool) → early (numbers a b c (late d e)) ≡ numbers a b c 0
early-numbers true b c d e = refl
early-numbers false true c d e = refl
early-numbers false false false d e = refl
early-numbers false false true true e = refl
early-numbers false false true false true = refl
early-numbers false false true false false = refl

number-unless : (n : ℕ) (b : List ℕ) → number_of (unless n (accepted b)) ≡ n
number-unless zero b = refl
number-unless (suc n) b = refl

module _ (x : Book) (pool : List ℕ) (v k d : ℕ) (h : History)
    (reads : (lbn : ℕ) → read_answer (read x pool v k lbn) ≡ history_read x.sizes.l h d k lbn) where
  abbrev l : ℕ
  l = x.sizes.l

  -- 5, 15 and 16 of the history
  abbrev sent_number : ℕ
  sent_number =
      numbers (eqb h.retention 0) (eqb k 0 || ltb (length h.sent) k)
      (kept (days_noted h) h.retention d k) 0

  abbrev lost : ℕ → Bool
  lost lbn = is_none (sent_block h k lbn)

  abbrev owed : ℕ → List ℕ
  owed lbn = block_or [] (sent_block h k lbn)

  sent-order : (lbn : ℕ) → read x pool v k lbn ≡ unless sent_number (unless (late (leb l lbn) (lost lbn)) (accepted (owed lbn)))
  unfolding history_read history_number
  sent-order lbn =
      answer-same (read x pool v k lbn) (unless (history_number l h d k lbn) (accepted (owed lbn))) (reads lbn)
      ∙ numbers-then (eqb h.retention 0) (eqb k 0 || ltb (length h.sent) k)
      (kept (days_noted h) h.retention d k) (late (leb l lbn) (lost lbn)) (accepted (owed lbn))

  same_number : (lbn : ℕ) → read_number x v k lbn ≡ history_number l h d k lbn
  unfolding history_read read
  same_number lbn =
      sym (number-unless (read_number x v k lbn) (block_at pool (image x v k lbn)))
      ∙ ap number_of (answer-same (read x pool v k lbn) (unless (history_number l h d k lbn) (accepted (owed lbn))) (reads lbn))
      ∙ number-unless (history_number l h d k lbn) (owed lbn)

  same_kept : kept_number x v k ≡ sent_number
  unfolding kept_number read_number history_number
  same_kept =
      sym (early-numbers (no_volume x v) (eqb k 0 || ltb (backup_count x v) k) (kept (days x v) (retention_of x v) x.day k)
      (leb l 0) (eqb (image x v k 0) unmapped))
      ∙ ap early (same_number 0)
      ∙ early-numbers (eqb h.retention 0) (eqb k 0 || ltb (length h.sent) k)
      (kept (days_noted h) h.retention d k) (leb l 0) (lost 0)

  read-sent : sent_number ≡ 0 → (lbn : ℕ) → lbn < l → read x pool v k lbn ≡ only_unmapped (lost lbn) (owed lbn)
  read-sent e lbn i = sent-order lbn ∙ rw (e, lt-leb l lbn i)

  module _ (first many room : ℕ) where
    abbrev too_far : Bool
    too_far = ltb l (first + many) || ltb room (many * block_size)

    abbrev run : Outcome (List ℕ)
    run = only_unmapped (some_of lost (up_from first many)) (flat owed (up_from first many))

    run-order : (t u : Bool) (bytes : List ℕ) → unless (when t then 21 else when u then 18 else 0) (accepted bytes)
        ≡ unless (when t then 21 else 0) (only_unmapped u bytes)
    run-order true u bytes = refl
    run-order false u bytes = refl

    history_order : history_restore l h d k first many room ≡ unless sent_number (unless (when too_far then 21 else 0) run)
    unfolding history_restore history_run_number
    history_order =
        numbers-then (eqb h.retention 0) (eqb k 0 || ltb (length h.sent) k)
        (kept (days_noted h) h.retention d k)
        (when too_far then 21 else when some_of lost (up_from first many) then 18 else 0)
        (accepted (flat owed (up_from first many)))
        ∙ ap (λ (o : Outcome (List ℕ)). unless sent_number o)
        (run-order too_far (some_of lost (up_from first many)) (flat owed (up_from first many)))

    pub history_restores : restore x pool v k first many room ≡ history_restore l h d k first many room
    unfolding restore run_number
    history_restores = rw (history_order, same_kept) (go sent_number (when too_far then 21 else 0) refl refl)
      where
        go : (m n : ℕ) → sent_number ≡ m → (when too_far then 21 else 0) ≡ n
            → unless m (unless n (reads_from (read x pool v k) first many)) ≡ unless m (unless n run)
        go (suc m) n e f = refl
        go zero (suc n) e f = refl
        go zero zero e f =
            let inside = (run_inside l first many room f).0 in
            reads-joined (read x pool v k) lost owed first many (λ lbn i. read-sent e lbn (omega arith))
