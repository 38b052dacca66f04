-- What a restore leaves on each way out: past number 16, and of the whole call.
use Prim.Native.Nat.{ℕ, ◌+◌, ◌*◌, ◌-◌, ◌≤◌, ◌<◌}
use mathlib.Core.Path.{◌≡◌, refl, sym, ap, ◌∙◌}
use mathlib.Core.Bool.{Bool, true, false}
use mathlib.Core.List.{List}
use mathlib.Core.Logic.{⊎_elim}
use native.Mathlib.Omega.{arith}
use lib.ListN.{length, get_or}
use lib.Seq.{sets}
use borrow.Author.Tests.{eqb-false, not-true}
use Rattle.std.specs.Prelude.{Ok}
use Rattle.words.specs.Blocks.{block_size, unmapped}
use Rattle.words.specs.Lists.{each}
use Rattle.words.specs.Outcome.{Outcome, unless}
use Rattle.words.proofs.Each.{each_at}
use Rattle.words.proofs.LayingLaws.{sets-front}
use Rattle.book.specs.Book.{Book}
use Rattle.book.specs.FormFacts.{BookParts}
use Rattle.book.specs.Layout.{book_of}
use Rattle.model.specs.JournalAt.{image_from}
use Rattle.model.specs.Kept.{kept_number}
use Rattle.model.specs.OnBytes.{restore_bytes}
use Rattle.model.specs.Pool.{pool_size}
use Rattle.model.specs.Read.{read}
use Rattle.model.specs.Restore.{run_number, reads_from, restore}
use Rattle.model.specs.Written.{Written}
use Rattle.claims.proofs.form.ImageIn.{image_from_in}
use Rattle.claims.proofs.kept.JournalAtLaws.{image-from}
use Rattle.claims.proofs.kept.RestoreLaws.{run_inside, restore-joined}
use Rattle.claims.proofs.views.WrittenLaws.{written-refused}
use Rattle.buffers.specs.Buffers.{buffers_number}
use Rattle.buffers.proofs.BuffersLaws.{buffers_order}
use Rattle.imager.specs.Imaging.{image_size, Imaged}
use Rattle.keeping.specs.Kept.{KeptIs}
use Rattle.recover.specs.Running.{mapped_at, Inside, blocks_from, run_from, restored_from}
use Rattle.recover.proofs.Copying.{length-blocks}
use Rattle.recover.proofs.RunningLaws.{run-gone, run_mapped}

-- ---- past number 16

module _ (x : Book) (pool : List ℕ) (v at first many : ℕ) (out : List ℕ) where
  abbrev outcome : Outcome (List ℕ)
  outcome = restored_from x pool v at first many (length out)

  abbrev number : ℕ
  number = run_number x.sizes.l first many (length out)

  pub before-refused : {r : ℕ} → r ≡ number → (r ≡ 0 → ⊥) → Written outcome out r out
  unfolding restored_from
  before-refused e n = written-refused number (run_from pool (image_from x v at) first many) out e n

  -- past number 21, where the table has the image
  module _ {a : List ℕ} (i : Imaged x v at a) (e : number ≡ 0) where
    abbrev all_mapped : Bool
    all_mapped = each (mapped_at a) first (first + many)

    fits : (first + many ≤ x.sizes.l) × (many * block_size ≤ length out)
    fits = run_inside x.sizes.l first many (length out) e

    there : (l : ℕ) → l < first + many → get_or a l 0 ≡ image_from x v at l
    there l h = i.cells l (omega (arith, fits.0))

    pub before-gone : all_mapped ≡ false → Written outcome out 18 out
    unfolding restored_from
    before-gone f = rw (e, run-gone pool a (image_from x v at) first many there f) (record { number = refl; output = refl })

    module _ (p : BookParts x) (s : length pool ≡ pool_size x.sizes.n) (m : all_mapped ≡ true) where
      block_in : (l : ℕ) → first ≤ l → l < first + many → get_or a l 0 * block_size + block_size ≤ length pool
      block_in l h k =
          let same = there l k in
          let n : get_or a l 0 ≡ unmapped → ⊥ =
          eqb-false (get_or a l 0) unmapped (not-true _ (each_at (mapped_at a) first (first + many) m l h k)) in
          ⊎_elim (λ b. omega arith) (λ g. absurd (n (same ∙ g))) (image_from_in x p v at l)

      pub before-inside : x.sizes.l ≤ image_size → Inside pool a first (first + many) (length out)
      before-inside t = record {
        order = omega arith;
        table = omega (arith, fits.0);
        fits = omega (arith, fits.1);
        blocks = block_in;
      }

      pub before-done : {out' : List ℕ} → out' ≡ sets out 0 (blocks_from pool (λ l. get_or a l 0) first (first + many - first))
          → Written outcome out 0 out'
      unfolding restored_from
      before-done w =
          let bytes = blocks_from pool (λ l. get_or a l 0) first many in
          let n : first + many - first ≡ many = omega arith in
          let h : length bytes ≤ length out = omega (arith, length-blocks pool (λ l. get_or a l 0) first many block_in, fits.1) in
          rw (e, run_mapped pool a (image_from x v at) first many there m)
          (record { number = refl; output = rw n at w ∙ sets-front bytes out h })

-- ---- the whole call

module _ (b pool : List ℕ) (v k first many : ℕ) (out : List ℕ) where
  abbrev x : Book
  x = book_of b

  abbrev whole : Outcome (List ℕ)
  whole = restore_bytes b pool v k first many (length out)

  pub restored_buffers : {r : ℕ} → r ≡ buffers_number b pool → (r ≡ 0 → ⊥) → Written whole out r out
  unfolding restore_bytes
  restored_buffers e n =
      rw (buffers_order b pool (restore x pool v k first many (length out)))
      (written-refused (buffers_number b pool) (restore x pool v k first many (length out)) out e n)

  module _ (e : buffers_number b pool ≡ 0) where
    past : whole ≡ restore x pool v k first many (length out)
    unfolding restore_bytes
    past = buffers_order b pool (restore x pool v k first many (length out)) ∙ rw e

    pub restored_unkept : {n : ℕ} → kept_number x v k ≡ n → (n ≡ 0 → ⊥) → Written whole out n out
    unfolding restore
    restored_unkept h n =
        rw past
        (written-refused (kept_number x v k)
        (unless (run_number x.sizes.l first many (length out)) (reads_from (read x pool v k) first many)) out (sym h) n)

    -- the image of k, by the slots after it
    same : (at : ℕ) → KeptIs x v k (Ok at) → restore x pool v k first many (length out)
        ≡ restored_from x pool v at first many (length out)
    unfolding restored_from run_from blocks_from
    same at h =
        restore-joined x pool v k first many (length out)
        ∙ rw h.0
        (ap (λ (im : ℕ → ℕ). unless (run_number x.sizes.l first many (length out)) (run_from pool im first many))
        (λ i l. image-from x v at l k h.1 i))

    pub restored_kept : (at : ℕ) {r : ℕ} {out' : List ℕ} → KeptIs x v k (Ok at)
        → Written (restored_from x pool v at first many (length out)) out r out' → Written whole out r out'
    restored_kept at h w = rw (past, same at h) w
