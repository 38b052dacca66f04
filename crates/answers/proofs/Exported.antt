-- What each exported function leaves, with its answer stored, is one step of the run.
use Prim.Native.Nat.{ℕ, ◌+◌, ◌-◌, ◌*◌, ◌≤◌}
use mathlib.Core.Path.{◌≡◌, refl, sym, ap, ◌∙◌}
use mathlib.Core.List.{List, ◌∷◌, ◌++◌}
use lib.ListN.{length, set, take, drop}
use lib.Seq.{sets}
use Rattle.words.specs.Laying.{Stored}
use Rattle.words.specs.Lent.{Lent}
use Rattle.words.specs.Numbers.{two}
use Rattle.words.specs.Outcome.{Outcome, refused, accepted}
use Rattle.book.specs.Layout.{book_of}
use Rattle.model.specs.Calls.{backup, collect, retire, read, audit}
use Rattle.model.specs.OnBytes.{number_of, backup_bytes, collect_bytes, retire_bytes, read_bytes}
use Rattle.model.specs.OnBytes.{read_number_bytes, read_place_bytes, audit_bytes}
use Rattle.model.specs.Read.{image}
use Rattle.model.specs.Sides.{step_of, read_answer, audit_answer, ours}
use Rattle.calls.specs.Asked.{listed, reply_to, next_after}
use Rattle.calls.specs.Doing.{Did}
use Rattle.calls.proofs.Proper.{collect_proper, audit_proper, backup_proper, retire_proper}
use Rattle.collector.specs.Promises.{Swept}
use Rattle.auditor.specs.Promises.{Audited}
use Rattle.retirer.specs.Promises.{RetiredBy}
use Rattle.restorer.specs.Promises.{Located}
use Rattle.intake.specs.Promises.{BackedUp}
use Rattle.answers.proofs.Blocks.{Readable, placed_readable, placed_offset, placed_inside}
use Rattle.answers.proofs.Doing.{was, is, read_done}

-- a number that isn't 0 is a refusal's
refused_by : {A : Type 0} {k : ℕ} (o : Outcome A) → k ≡ number_of o → (k ≡ 0 → ⊥) → o ≡ refused k
refused_by (refused j) n h = ap refused (sym n)
refused_by (accepted a) n h = absurd (h n)

module _ (spare : ℕ) (book : Lent (List ℕ)) (pool out : List ℕ) (to : ℕ) {out' : List ℕ} {r : ℕ} where
  module _ (t : ℕ) (f : Lent ℕ) (k : ℕ) (e : Swept book t f k) where
    pub collect-refused : (k ≡ 0 → ⊥) → Stored out to (0 ∷ two k) out' r
        → Did spare (was book) pool (listed (collect t)) out to (is book) pool out' r
    unfolding reply_to next_after ours step_of
    collect-refused h s =
        let x = refused_by (collect_bytes (was book) t) e.number h in
        record { next = rw (e.book, x, next_after, ours, step_of) refl; answer = rw x s }

    pub collect-done : k ≡ 0 → Stored out to (2 ∷ two f.exit.now) out' r
        → Did spare (was book) pool (listed (collect t)) out to (is book) pool out' r
    unfolding reply_to next_after ours step_of
    collect-done z s =
        let x = collect_proper (was book) t (sym e.number ∙ z) in
        record { next = rw (e.book, x.1, next_after, ours, step_of) refl; answer = rw x.1 (rw (e.answer, x.1) at s) }

  module _ (f : Lent ℕ) (k : ℕ) (e : Audited book f k) where
    pub audit-refused : (k ≡ 0 → ⊥) → Stored out to (0 ∷ two k) out' r
        → Did spare (was book) pool (listed audit) out to (was book) pool out' r
    unfolding reply_to next_after ours audit_answer
    audit-refused h s =
        let x = refused_by (audit_bytes (was book)) e.number h in
        record { next = refl; answer = rw x s }

    pub audit-done : k ≡ 0 → Stored out to (4 ∷ two f.exit.now) out' r
        → Did spare (was book) pool (listed audit) out to (was book) pool out' r
    unfolding reply_to next_after ours audit_answer
    audit-done z s =
        let x = audit_proper (was book) (sym e.number ∙ z) in
        record { next = refl; answer = rw x.1 (rw (e.answer, x.1) at s) }

module _ (book room : Lent (List ℕ)) (v t : ℕ) (f : Lent ℕ) (k : ℕ) (e : RetiredBy book room v t f k) (pool out : List ℕ) (to : ℕ)
    {out' : List ℕ} {r : ℕ} where
  pub retire-refused : (k ≡ 0 → ⊥) → Stored out to (0 ∷ two k) out' r
      → Did (length (was room)) (was book) pool (listed (retire v t)) out to (is book) pool out' r
  unfolding reply_to next_after ours step_of
  retire-refused h s =
      let x = refused_by (retire_bytes (was book) (length (was room)) v t) e.refusal h in
      record { next = rw (e.book, x, next_after, ours, step_of) refl; answer = rw x s }

  pub retire-done : k ≡ 0 → Stored out to (2 ∷ two f.exit.now) out' r
      → Did (length (was room)) (was book) pool (listed (retire v t)) out to (is book) pool out' r
  unfolding reply_to next_after ours step_of
  retire-done z s =
      let x = retire_proper (was book) (length (was room)) v t (sym e.refusal ∙ z) in
      record { next = rw (e.book, x.1, next_after, ours, step_of) refl; answer = rw x.1 (rw (e.cells, x.1) at s) }

module _ (book pool room : Lent (List ℕ)) (v t : ℕ) (list : Lent (List ℕ)) (n taken touched : Lent ℕ) (k : ℕ)
    (e : BackedUp book pool room v t list n taken touched k) (out : List ℕ) (to : ℕ) {out' : List ℕ} {r : ℕ} where
  pub backup-refused : (k ≡ 0 → ⊥) → Stored out to (0 ∷ two k) out' r
      → Did (length (was room)) (was book) (was pool) (listed (backup v t (was list))) out to (is book) (is pool) out' r
  unfolding reply_to next_after ours step_of
  backup-refused h s =
      let x = refused_by (backup_bytes (was book) (was pool) (length (was room)) v t (was list)) e.refusal h in
      record { next = rw (e.book, e.stored, x, next_after, ours, step_of) refl; answer = rw x s }

  pub backup-done : k ≡ 0
      → Stored out to (1 ∷ two n.exit.now ++ (two taken.exit.now ++ two touched.exit.now)) out' r
      → Did (length (was room)) (was book) (was pool) (listed (backup v t (was list))) out to (is book) (is pool) out' r
  unfolding reply_to next_after ours step_of
  backup-done z s =
      let x = backup_proper (was book) (was pool) (length (was room)) v t (was list) (sym e.refusal ∙ z) in
      record {
        next = rw (e.book, e.stored, x.1, next_after, ours, step_of) refl;
        answer = rw x.1 (rw (e.number, e.taken, e.touched, x.1) at s);
      }

-- ---- a read

module _ (book pool : Lent (List ℕ)) (v k lbn : ℕ) (p : Lent ℕ) (n : ℕ) (e : Located book pool v k lbn p n) (z : n ≡ 0) where
  placed : accepted p.exit.now ≡ read_place_bytes (was book) (was pool) v k lbn
  unfolding read_place_bytes
  placed = let a = sym e.number ∙ z in rw (e.answer, a) refl

  pub located_readable : Readable (was book) (was pool) v k lbn
  located_readable = placed_readable (was book) (was pool) v k lbn p.exit.now placed

  pub located_offset : p.exit.now ≡ image (book_of (was book)) v k lbn * 512
  located_offset = placed_offset (was book) (was pool) v k lbn p.exit.now placed

  pub located_inside : p.exit.now + 512 ≤ length (was pool)
  located_inside = placed_inside (was book) (was pool) v k lbn p.exit.now placed

module _ (spare : ℕ) (book pool : Lent (List ℕ)) (out : List ℕ) (to v k lbn : ℕ) (p : Lent ℕ) (n : ℕ)
    (e : Located book pool v k lbn p n) {out' : List ℕ} where
  pub located-refused : {r : ℕ} → (n ≡ 0 → ⊥) → Stored out to (0 ∷ two n) out' r
      → Did spare (was book) (was pool) (listed (read v k lbn)) out to (was book) (was pool) out' r
  unfolding reply_to next_after ours read_answer read_number_bytes
  located-refused h s =
      let x = refused_by (read_bytes (was book) (was pool) v k lbn) e.number h in
      record { next = refl; answer = rw x s }

  -- its block is stored as it is lent
  pub located_done : n ≡ 0 → out' ≡ sets (set out to 3) (to + 1) (take (p.exit.now + 512 - p.exit.now) (drop p.exit.now (was pool)))
      → Did spare (was book) (was pool) (listed (read v k lbn)) out to (was book) (was pool) out' (to + 1 + 512)
  located_done z s = read_done spare (was book) (was pool) out to v k lbn p.exit.now (placed book pool v k lbn p n e z) s
