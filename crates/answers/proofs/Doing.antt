-- What each call leaves, with its answer stored, is one step of the run; y is what the call's function gives.
use Prim.Native.Nat.{ℕ, zero, suc, ◌+◌, ◌-◌, ◌*◌}
use mathlib.Core.Path.{◌≡◌, refl, sym, ap, ap₂, ◌∙◌}
use mathlib.Core.Bool.{Bool, true, false}
use mathlib.Core.List.{List, [], ◌∷◌, ◌++◌}
use lib.ListN.{length, set, take, drop}
use lib.Seq.{sets}
use mir.Val.{bool_byte}
use Rattle.std.specs.Prelude.{Result, Ok, Err}
use Rattle.words.specs.Blocks.{block_size}
use Rattle.words.specs.Laying.{Stored}
use Rattle.words.specs.Lent.{Lent}
use Rattle.words.proofs.Accepted.{refused_not, accepted-same}
use Rattle.words.proofs.Lending.{lent}
use Rattle.words.specs.Numbers.{two}
use Rattle.words.specs.Outcome.{Outcome, refused, accepted, and_then, unless}
use Rattle.words.specs.Refusals.{number, outcome_by}
use Rattle.words.specs.Sections.{part}
use Rattle.words.specs.declared.refusals.Refusal.{Refusal}
use Rattle.book.specs.Layout.{book_of}
use Rattle.model.specs.Calls.{enrol, backup, collect, retire, read, audit}
use Rattle.model.specs.OnBytes.{number_of, after, book_after, enrol_bytes, backup_bytes}
use Rattle.model.specs.OnBytes.{collect_bytes, retire_bytes, read_bytes}
use Rattle.model.specs.OnBytes.{read_number_bytes, read_place_bytes, audit_bytes}
use Rattle.model.specs.Pool.{block_at}
use Rattle.model.specs.Read.{image}
use Rattle.model.specs.Sides.{Step, answer_of, became, step_of, read_answer, audit_answer, Ours, enrolled_to, ours}
use Rattle.calls.specs.Asked.{listed, reply_to, next_after}
use Rattle.calls.specs.Answers.{answer_bytes}
use Rattle.calls.specs.Promises.{at}
use Rattle.calls.specs.Doing.{Did}
use Rattle.setup.specs.Promises.{Enrolled}
use Rattle.collector.specs.Promises.{Collects}
use Rattle.intake.specs.declared.backup.Backed.{Backed}
use Rattle.intake.specs.Promises.{answers, BacksUp}
use Rattle.retirer.specs.Promises.{Retires}
use Rattle.answers.proofs.Blocks.{placed_readable, placed_offset, placed_inside, read_is}
use Rattle.answers.proofs.AnswersLaid.{answered-block, lent_length}

-- a buffer before and after a call
abbrev pub was : Lent (List ℕ) → List ℕ
was b = b.entry.now

abbrev pub is : Lent (List ℕ) → List ℕ
is b = b.exit.now

-- the step that was made, and the answer that was stored
abbrev By : Step Ours → List ℕ → ℕ → List ℕ → List ℕ → List ℕ → ℕ → Type 0
By s out to x y out' r = (at x y ≡ s.next) × Stored out to (answer_bytes s.answer) out' r

-- what a call answers is told in bytes
abbrev bytes_by : {T : Type 0} → (T → List ℕ) → Result T Refusal → List ℕ
bytes_by f (Ok k) = f k
bytes_by f (Err e) = 0 ∷ two (number e)

same-refused : {A : Type 0} (o : Outcome A) (j k : ℕ) → refused j ≡ o → o ≡ refused k → j ≡ k
same-refused o j k e f = cc

-- ---- the calls that change something

-- given is what such a call gives, and told the numbers that it answers
module _ {A T : Type 0} (o : Ours) (next : A → Ours) (given : A → T) (told : T → List ℕ) (out : List ℕ) (to : ℕ)
    {b pool out' : List ℕ} {r : ℕ} where
  changed_by : (x : Outcome A) (y : Result T Refusal) → outcome_by (λ k. k) y ≡ and_then x (λ a. accepted (given a))
      → b ≡ after (λ a. (next a).book) x o.book → pool ≡ after (λ a. (next a).pool) x o.pool
      → Stored out to (bytes_by (λ k. answer_bytes (answer_of (told k))) y) out' r
      → By (step_of o (and_then x (λ a. became (next a) (told (given a))))) out to b pool out' r
  unfolding step_of
  changed_by (refused j) (Ok k) e m p s = absurd (refused_not j k (sym e))
  changed_by (refused j) (Err n) e m p s = (ap₂ at m p, rw (same-refused _ (number n) j e refl) at s)
  changed_by (accepted a) (Ok k) e m p s = (ap₂ at m p, rw (accepted-same k (given a) e) at s)
  changed_by (accepted a) (Err n) e m p s = absurd (refused_not (number n) (given a) e)

after-same : {A B : Type 0} (x : Outcome A) (y : B) → y ≡ after (λ a. y) x y
after-same (refused k) y = refl
after-same (accepted a) y = refl

module _ (spare : ℕ) (book : Lent (List ℕ)) (pool out : List ℕ) (to : ℕ) {out' : List ℕ} {r : ℕ} where
  pub enrol_did : (v retention k : ℕ) → Enrolled book v retention k → Stored out to (0 ∷ two k) out' r
      → Did spare (was book) pool (listed (enrol v retention)) out to (is book) pool out' r
  unfolding reply_to next_after ours step_of
  enrol_did v retention k e s =
      let g = go (enrol_bytes (was book) v retention) e.number e.book in record { next = g.0; answer = g.1 }
    where
      go : (o : Outcome (List ℕ)) → k ≡ number_of o → is book ≡ book_after o (was book)
          → By (step_of (at (was book) pool) (and_then o (enrolled_to (at (was book) pool)))) out to (is book) pool out' r
      go (refused j) n m = (ap (λ (x : List ℕ). at x pool) m, rw n at s)
      go (accepted d) n m = (ap (λ (x : List ℕ). at x pool) m, rw n at s)

  pub collect_did : (t : ℕ) (y : Result ℕ Refusal) → Collects book t y → Stored out to (bytes_by (λ k. 2 ∷ two k) y) out' r
      → Did spare (was book) pool (listed (collect t)) out to (is book) pool out' r
  unfolding reply_to next_after ours
  collect_did t y e s =
      let x = collect_bytes (was book) t in
      let g = changed_by (at (was book) pool) (λ d. at d.book pool) (λ d. d.freed) (λ k. k ∷ []) out to x y e.answer e.book (after-same x pool) s in
      record { next = g.0; answer = g.1 }

module _ (book room : Lent (List ℕ)) (v t : ℕ) (pool out : List ℕ) (to : ℕ) {out' : List ℕ} {r : ℕ} where
  pub retire_did : (y : Result ℕ Refusal) → Retires book room v t y → Stored out to (bytes_by (λ k. 2 ∷ two k) y) out' r
      → Did (length (was room)) (was book) pool (listed (retire v t)) out to (is book) pool out' r
  unfolding reply_to next_after ours
  retire_did y e s =
      let x = retire_bytes (was book) (length (was room)) v t in
      let g = changed_by (at (was book) pool) (λ d. at d.book pool) (λ d. d.cells) (λ k. k ∷ []) out to x y e.answer e.book (after-same x pool) s in
      record { next = g.0; answer = g.1 }

module _ (book pool room : Lent (List ℕ)) (v t : ℕ) (list : Lent (List ℕ)) (out : List ℕ) (to : ℕ) {out' : List ℕ} {r : ℕ} where
  pub backup_did : (y : Result Backed Refusal) → BacksUp book pool room v t list y
      → Stored out to (bytes_by (λ k. 1 ∷ two k.number ++ (two k.taken ++ two k.touched)) y) out' r
      → Did (length (was room)) (was book) (was pool) (listed (backup v t (was list))) out to (is book) (is pool) out' r
  unfolding reply_to next_after ours
  backup_did y e s =
      let x = backup_bytes (was book) (was pool) (length (was room)) v t (was list) in
      let g =
      changed_by (at (was book) (was pool)) (λ d. at d.book d.pool) answers (λ k. k.number ∷ k.taken ∷ k.touched ∷ []) out to x y e.answer
      e.book e.stored s in record { next = g.0; answer = g.1 }

-- ---- an audit and a read

module _ (spare : ℕ) (b pool out : List ℕ) (to : ℕ) {out' : List ℕ} where
  pub audit_did : {r : ℕ} (y : Result Bool Refusal) → outcome_by (λ s. s) y ≡ audit_bytes b
      → Stored out to (bytes_by (λ s. 4 ∷ two (bool_byte s)) y) out' r
      → Did spare b pool (listed audit) out to b pool out' r
  unfolding reply_to next_after ours audit_answer
  audit_did {r} y e s = record { next = refl; answer = rw (← e) (go y s) }
    where
      go : (y : Result Bool Refusal) → Stored out to (bytes_by (λ s. 4 ∷ two (bool_byte s)) y) out' r
          → Stored out to (answer_bytes (audit_answer (outcome_by (λ s. s) y))) out' r
      go (Ok true) w = w
      go (Ok false) w = w
      go (Err n) w = w

  module _ (v k lbn : ℕ) where
    pub read-refused : {r : ℕ} (n : Refusal) → refused (number n) ≡ read_place_bytes b pool v k lbn → Stored out to (0 ∷ two (number n)) out' r
        → Did spare b pool (listed (read v k lbn)) out to b pool out' r
    unfolding reply_to next_after ours read_answer read_place_bytes read_number_bytes
    read-refused {r} n e s = record { next = refl; answer = go (read_bytes b pool v k lbn) e }
      where
        place : ℕ
        place = image (book_of b) v k lbn * block_size

        go : (o : Outcome (List ℕ)) → refused (number n) ≡ unless (number_of o) (accepted place)
            → Stored out to (answer_bytes (read_answer o)) out' r
        go (refused zero) f = absurd (refused_not (number n) place f)
        go (refused (suc j)) f = rw (same-refused _ (number n) (suc j) f refl) at s
        go (accepted d) f = absurd (refused_not (number n) place f)

    -- its block is stored as it is lent
    pub read_done : (from : ℕ) → accepted from ≡ read_place_bytes b pool v k lbn
        → out' ≡ sets (set out to 3) (to + 1) (take (from + 512 - from) (drop from pool))
        → Did spare b pool (listed (read v k lbn)) out to b pool out' (to + 1 + 512)
    unfolding reply_to next_after ours read_answer
    read_done from e s =
        let i = read_is b pool v k lbn (placed_readable b pool v k lbn from e) in
        let long = lent_length pool from 512 (placed_inside b pool v k lbn from e) in
        let block : take (from + 512 - from) (drop from pool) ≡ block_at pool (image (book_of b) v k lbn) =
        lent pool from 512 ∙ ap (λ (o : ℕ). part pool o 512) (placed_offset b pool v k lbn from e)
        in
        record { next = refl; answer = rw (i, ← block) (answered-block out to 3 (take (from + 512 - from) (drop from pool)) long s) }
