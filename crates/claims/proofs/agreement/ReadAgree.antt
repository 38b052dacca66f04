-- Read answers alike on both sides: the number of a refusal, or the bytes.
use Prim.Native.Nat.{ℕ, zero, suc, ◌≤◌, ◌<◌}
use mathlib.Core.Path.{◌≡◌, sym, ap, ◌∙◌}
use mathlib.Core.Bool.{Bool, true, false, ◌||◌}
use mathlib.Core.List.{List}
use native.Mathlib.Omega.{arith}
use lib.Dec.{leb, ltb, eqb}
use lib.ListN.{length, get_or, drop, length-map}
use Rattle.words.specs.Blocks.{unmapped}
use Rattle.words.specs.Outcome.{accepted, unless}
use Rattle.book.specs.Book.{volumes, Book, entry_at, retention_of}
use Rattle.model.specs.Days.{kept}
use Rattle.model.specs.Journal.{journal, slots_of, slots_in, days, no_volume, backup_count}
use Rattle.model.specs.Audit.{cell_sound}
use Rattle.model.specs.Pool.{block_at}
use Rattle.model.specs.Read.{records_of, image, read_number, read}
use Rattle.model.specs.Plain
use Rattle.model.specs.Plain.{Plain, free, retention_at, taken_of, days_of, maps_of, no_map, bytes_of, cell}
use Rattle.claims.proofs.agreement.Agree.{Agree}
use Rattle.claims.proofs.agreement.AgreeLaws.{sounds_agree, volume-inside, map-after, days-agree, backups-agree, no_volume-agree}
use Rattle.claims.proofs.agreement.AgreeLaws.{cell_agree}
use Rattle.claims.proofs.kept.ReadNumbers.{refusal, same-refusal, number-inside}
use Rattle.model.specs.JournalAt.{first_before}
use Rattle.claims.proofs.kept.ReadRule.{read_rule}
use Rattle.claims.proofs.agreement.BlocksIn.{held_bytes, held-inside}
use Rattle.claims.proofs.kept.KeptHeld.{kept-held}
use Rattle.claims.proofs.kept.Retirements.{count-within}

module _ {x : Book} {pool : List ℕ} {q : Plain} (g : Agree x pool q) where
  -- "the before of that LBN's first record in the volume's backups after k, else the current map" is the cell of map k
  image_suc : (v k l : ℕ) → v < volumes → k < backup_count x v → image x v (suc k) l ≡ cell q v (suc k) l
  unfolding image days slots_of
  image_suc v k l h hk =
      let bs = slots_in v (journal x) in
      let long : k < length bs = omega (arith, hk, count-within x v, length-map bs (λ b. b.day)) in
      ap (λ m. first_before l (records_of (drop (suc k) bs)) (get_or m l unmapped)) (map-after g v h)
      ∙ read_rule l k (no_map x.sizes) (no_map x.sizes) bs (sounds_agree g v h) long
      ∙ sym (cell_agree g v k l h hk)

  pub image-agree : (v k l : ℕ) → v < volumes → 0 < k → k ≤ backup_count x v → image x v k l ≡ cell q v k l
  image-agree v zero l h z hk = absurd (omega arith)
  image-agree v (suc k) l h z hk = image_suc v k l h (omega arith)

  -- the block of a kept backup's cell
  read-bytes : (v k l : ℕ) → v < volumes → k < backup_count x v → kept (days x v) (retention_of x v) x.day (suc k) ≡ true
      → eqb (cell q v (suc k) l) unmapped ≡ false → block_at pool (cell q v (suc k) l) ≡ bytes_of (get_or q.blocks (cell q v (suc k) l) free)
  unfolding cell_sound
  read-bytes v k l h hk e f =
      let p = cell q v (suc k) l in
      let stays : (entry_at x.entries p).held ≡ true = rw f at (kept-held g v k l h hk e) in
      sym (ap (λ bs. bytes_of (get_or bs p free)) g.blocks ∙ held_bytes x.entries pool p (held-inside x.entries p stays) stays)

  -- the same, for every number in range
  read-bytes-at : (v k l : ℕ) → v < volumes → 0 < k → k ≤ backup_count x v → kept (days x v) (retention_of x v) x.day k ≡ true
      → eqb (image x v k l) unmapped ≡ false → block_at pool (image x v k l) ≡ bytes_of (get_or q.blocks (cell q v k l) free)
  read-bytes-at v zero l h z hk e f = absurd (omega arith)
  read-bytes-at v (suc k) l h z hk e f =
      let same = image-agree v (suc k) l h z hk in
      ap (block_at pool) same ∙ read-bytes v k l h (omega arith) e (rw same at f)

  pub read-agree : (v k l : ℕ) → read x pool v k l ≡ Plain.read q v k l
  unfolding read read_number Plain.read Plain.read_number
  read-agree v k l =
      same-refusal (no_volume x v) (eqb k 0 || ltb (backup_count x v) k) absent
      (kept (days x v) (retention_of x v) x.day k) keeps
      (leb x.sizes.l l) (leb q.sizes.l l) (eqb (image x v k l) unmapped) (eqb (cell q v k l) unmapped)
      (accepted (block_at pool (image x v k l))) (accepted block)
      (λ a. ap (λ n. eqb k 0 || ltb n k) (sym (backups-agree g v (volume-inside x v a))))
      (λ a b. tests (volume-inside x v a))
      (λ a b d. mapped (volume-inside x v a) (number-inside k (backup_count x v) b))
      (λ a b c d e. bytes (volume-inside x v a) (number-inside k (backup_count x v) b) c e)
      ∙ ap (λ a. unless (refusal a absent keeps (leb q.sizes.l l) (eqb (cell q v k l) unmapped)) (accepted block))
      (sym (no_volume-agree g v))
    where
      -- the plain store's tests for 15 and 16, and its block
      absent : Bool
      absent = eqb k 0 || ltb (length (maps_of (taken_of v q.taken))) k

      keeps : Bool
      keeps = kept (days_of (taken_of v q.taken)) (retention_at q v) q.day k

      block : List ℕ
      block = bytes_of (get_or q.blocks (cell q v k l) free)

      tests : v < volumes → (kept (days x v) (retention_of x v) x.day k ≡ keeps) × (leb x.sizes.l l ≡ leb q.sizes.l l)
      tests h = (rw (days-agree g v h, g.retentions, g.day), ap (λ z. leb z.l l) (sym g.sizes))

      mapped : v < volumes → (0 < k) × (k ≤ backup_count x v) → eqb (image x v k l) unmapped ≡ eqb (cell q v k l) unmapped
      mapped h w = ap (λ p. eqb p unmapped) (image-agree v k l h w.0 w.1)

      bytes : v < volumes → (0 < k) × (k ≤ backup_count x v) → kept (days x v) (retention_of x v) x.day k ≡ true
          → eqb (image x v k l) unmapped ≡ false → accepted (block_at pool (image x v k l)) ≡ accepted block
      bytes h w c e = ap accepted (read-bytes-at v k l h w.0 w.1 c e)
