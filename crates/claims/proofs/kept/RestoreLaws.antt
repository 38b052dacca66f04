-- Laws of model/specs/Restore.antt: past 16 and 21 only 18 can come, an accepted restore is its blocks joined, and a run that is cut in
-- two is restored in two.
use Prim.Native.Nat.{ℕ, zero, suc, ◌+◌, ◌*◌, ◌≤◌, ◌<◌}
use mathlib.Core.Path.{◌≡◌, refl, sym, ap, ◌∙◌}
use mathlib.Core.Bool.{Bool, true, false, ◌||◌}
use mathlib.Core.List.{List, ◌++◌, append_assoc}
use native.Mathlib.Nat.{zero-add}
use native.Mathlib.Omega.{arith}
use lib.Dec.{leb, ltb, eqb}
use borrow.Author.Tests.{le-ltb, lt-leb, ltb-false}
use Rattle.words.proofs.Tests.{or_neither}
use Rattle.words.specs.Blocks.{block_size, unmapped}
use Rattle.words.specs.Choice.{when◌then◌else◌}
use Rattle.words.specs.Lists.{some_of, up_from}
use Rattle.words.specs.Outcome.{Outcome, refused, accepted, and_then, unless}
use Rattle.words.specs.Sections.{flat}
use Rattle.book.specs.Book.{Book, retention_of}
use Rattle.book.specs.Form.{form_number}
use Rattle.book.specs.Layout.{book_of}
use Rattle.model.specs.Days.{kept}
use Rattle.model.specs.Journal.{days, no_volume, backup_count}
use Rattle.model.specs.Kept.{kept_number}
use Rattle.model.specs.OnBytes.{pool_number, restore_bytes}
use Rattle.model.specs.Pool.{block_at}
use Rattle.model.specs.Read.{image, read_number, read}
use Rattle.model.specs.Restore.{run_number, reads_from, restore}
use Rattle.claims.proofs.kept.ReadNumbers.{numbers-then}

-- ---- number 21

module _ (l first many room : ℕ) where
  pub run-passes : first + many ≤ l → many * block_size ≤ room → run_number l first many room ≡ 0
  unfolding run_number
  run-passes h k = rw (le-ltb l (first + many) h, le-ltb room (many * block_size) k)

  pub run_inside : run_number l first many room ≡ 0 → (first + many ≤ l) × (many * block_size ≤ room)
  unfolding run_number
  run_inside e =
      let far = ltb l (first + many) in
      let short = ltb room (many * block_size) in
      let w = or_neither far short (go (far || short) e) in
      (ltb-false l (first + many) w.0, ltb-false room (many * block_size) w.1)
    where
      go : (t : Bool) → ◌≡◌ {A = ℕ} (when t then 21 else 0) 0 → t ≡ false
      go true f = absurd (omega arith)
      go false f = refl

-- ---- reads that only 18 refuses

abbrev pub only_unmapped : Bool → List ℕ → Outcome (List ℕ)
only_unmapped t bytes = unless (when t then 18 else 0) (accepted bytes)

pub reads-joined : (one : ℕ → Outcome (List ℕ)) (gone : ℕ → Bool) (block : ℕ → List ℕ) (first many : ℕ)
    → ((l : ℕ) → l < first + many → one l ≡ only_unmapped (gone l) (block l))
    → reads_from one first many ≡ only_unmapped (some_of gone (up_from first many)) (flat block (up_from first many))
reads-joined one gone block first zero h = refl
reads-joined one gone block first (suc m) h =
    rw (h first (omega arith), reads-joined one gone block (suc first) m (λ l b. h l (omega arith)))
    (go (gone first) (some_of gone (up_from (suc first) m)))
  where
    go : (s t : Bool)
        → and_then (only_unmapped s (block first))
        (λ b. and_then (only_unmapped t (flat block (up_from (suc first) m))) (λ rest. accepted (b ++ rest)))
        ≡ only_unmapped (s || t) (block first ++ flat block (up_from (suc first) m))
    go true t = refl
    go false true = refl
    go false false = refl

-- a backup that is kept, read below L
module _ (x : Book) (pool : List ℕ) (v k : ℕ) where
  abbrev pub gone_at : ℕ → Bool
  gone_at lbn = eqb (image x v k lbn) unmapped

  abbrev pub block_of : ℕ → List ℕ
  block_of lbn = block_at pool (image x v k lbn)

  read-order : (lbn : ℕ) → read x pool v k lbn
      ≡ unless (kept_number x v k) (unless (when leb x.sizes.l lbn then 17 else when gone_at lbn then 18 else 0) (accepted (block_of lbn)))
  unfolding read read_number kept_number
  read-order lbn =
      numbers-then (no_volume x v) (eqb k 0 || ltb (backup_count x v) k) (kept (days x v) (retention_of x v) x.day k) _
      (accepted (block_of lbn))

  pub read_kept : (lbn : ℕ) → kept_number x v k ≡ 0 → lbn < x.sizes.l → read x pool v k lbn ≡ only_unmapped (gone_at lbn) (block_of lbn)
  read_kept lbn e h = read-order lbn ∙ rw (e, lt-leb x.sizes.l lbn h)

  pub reads_kept : (first many : ℕ) → kept_number x v k ≡ 0 → first + many ≤ x.sizes.l
      → reads_from (read x pool v k) first many
      ≡ only_unmapped (some_of gone_at (up_from first many)) (flat block_of (up_from first many))
  reads_kept first many e h =
      reads-joined (read x pool v k) gone_at block_of first many (λ l b. read_kept l e (omega arith))

  -- all of it: 5, 15, 16, then 21, then 18 at an unmapped LBN of the run, then its blocks joined
  pub restore-joined : (first many room : ℕ) → restore x pool v k first many room
      ≡ unless (kept_number x v k) (unless (run_number x.sizes.l first many room)
      (only_unmapped (some_of gone_at (up_from first many)) (flat block_of (up_from first many))))
  unfolding restore
  restore-joined first many room = go (kept_number x v k) (run_number x.sizes.l first many room) refl refl
    where
      go : (m n : ℕ) → kept_number x v k ≡ m → run_number x.sizes.l first many room ≡ n
          → unless m (unless n (reads_from (read x pool v k) first many))
          ≡ unless m (unless n (only_unmapped (some_of gone_at (up_from first many)) (flat block_of (up_from first many))))
      go (suc m) n e f = refl
      go zero (suc n) e f = refl
      go zero zero e f = reads_kept first many e (run_inside x.sizes.l first many room f).0

-- ---- a run in two

-- one outcome after the other, their bytes joined
abbrev pub both_of : Outcome (List ℕ) → Outcome (List ℕ) → Outcome (List ℕ)
both_of o o' = and_then o (λ a. and_then o' (λ b. accepted (a ++ b)))

pub reads-split : (one : ℕ → Outcome (List ℕ)) (first m n : ℕ)
    → reads_from one first (m + n) ≡ both_of (reads_from one first m) (reads_from one (first + m) n)
reads-split one first zero n = let e : first + 0 ≡ first = omega arith in rw (zero-add n, e) (alone (reads_from one first n))
  where
    alone : (o : Outcome (List ℕ)) → o ≡ and_then o (λ b. accepted b)
    alone (refused k) = refl
    alone (accepted b) = refl
reads-split one first (suc m) n =
    let e : suc m + n ≡ suc (m + n) = omega arith in
    let f : first + suc m ≡ suc first + m = omega arith in
    rw (e, f, reads-split one (suc first) m n) (go (one first) (reads_from one (suc first) m) (reads_from one (suc first + m) n))
  where
    go : (a b c : Outcome (List ℕ))
        → and_then a (λ x. and_then (both_of b c) (λ rest. accepted (x ++ rest)))
        ≡ both_of (and_then a (λ x. and_then b (λ rest. accepted (x ++ rest)))) c
    go (refused k) b c = refl
    go (accepted x) (refused k) c = refl
    go (accepted x) (accepted y) (refused k) = refl
    go (accepted x) (accepted y) (accepted z) = ap accepted (sym (append_assoc x y z))

-- restoring [first, first + m) and [first + m, first + m + n) is restoring [first, first + m + n), where the outputs have the room
module _ (b pool : List ℕ) (v k first m n room room₁ room₂ : ℕ) where
  pub restore-split : first + (m + n) ≤ (book_of b).sizes.l → (m + n) * block_size ≤ room → m * block_size ≤ room₁ → n * block_size ≤ room₂
      → restore_bytes b pool v k first (m + n) room
      ≡ both_of (restore_bytes b pool v k first m room₁) (restore_bytes b pool v k (first + m) n room₂)
  unfolding restore_bytes restore
  restore-split h r r₁ r₂ =
      let l = (book_of b).sizes.l in
      rw (
        run-passes l first (m + n) room h r,
        run-passes l first m room₁ (omega arith) r₁,
        run-passes l (first + m) n room₂ (omega arith) r₂,
        reads-split (read (book_of b) pool v k) first m n,
      )
      (go (form_number b) (pool_number b pool) (kept_number (book_of b) v k))
    where
      one : ℕ → ℕ → Outcome (List ℕ)
      one f j = reads_from (read (book_of b) pool v k) f j

      go : (i j p : ℕ) → unless i (unless j (unless p (both_of (one first m) (one (first + m) n))))
          ≡ both_of (unless i (unless j (unless p (one first m)))) (unless i (unless j (unless p (one (first + m) n))))
      go (suc i) j p = refl
      go zero (suc j) p = refl
      go zero zero (suc p) = refl
      go zero zero zero = refl
