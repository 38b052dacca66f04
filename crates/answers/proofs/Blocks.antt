-- An accepted read's block: where it stands in the pool, and that it is whole.
use Prim.Native.Nat.{ℕ, zero, suc, ◌+◌, ◌*◌, ◌≤◌}
use mathlib.Core.Path.{◌≡◌, refl, sym, ap, ◌∙◌}
use mathlib.Core.Bool.{Bool, true}
use mathlib.Core.List.{List, [], ◌∷◌, ◌++◌}
use mathlib.Core.Logic.{⊎_elim}
use native.Mathlib.Omega.{arith}
use lib.ListN.{length, length-append}
use borrow.Author.Tests.{eq-eqb}
use Rattle.words.specs.Blocks.{block_size}
use Rattle.words.proofs.Accepted.{accepted-same, unless-accepted, then-accepted}
use Rattle.words.proofs.ChoiceLaws.{true_and}
use Rattle.words.specs.Lists.{all}
use Rattle.words.specs.Outcome.{Outcome, refused, accepted, and_then, unless}
use Rattle.words.proofs.Parts.{length_part}
use Rattle.book.specs.Form.{form_number}
use Rattle.book.proofs.Clauses.{book-parts}
use Rattle.book.proofs.FormBytes.{book-form}
use Rattle.book.specs.Layout.{book_of}
use Rattle.model.specs.Calls.{Call, enrol, backup, collect, retire, read, audit}
use Rattle.model.specs.OnBytes.{number_of, pool_number, enrol_bytes, backup_bytes, collect_bytes, retire_bytes}
use Rattle.model.specs.OnBytes.{read_bytes, read_number_bytes, read_place_bytes, restore_bytes, audit_bytes}
use Rattle.claims.specs.Claims.{restored_at}
use Rattle.model.specs.Kept.{kept_number}
use Rattle.model.specs.Pool.{block_at}
use Rattle.model.specs.Read
use Rattle.model.specs.Read.{image, read_number}
use Rattle.model.specs.Restore
use Rattle.model.specs.Restore.{run_number, reads_from}
use Rattle.claims.proofs.form.ImageIn.{image_in}
use Rattle.model.specs.Sides.{Changed, answer_of, step_of, read_answer, audit_answer, Ours, ours}
use Rattle.buffers.proofs.BuffersLaws.{pool-size}
use Rattle.calls.specs.Asked.{Asked, listed, restore, restore_reply, reply_to, next_after, replies_of}
use Rattle.calls.proofs.AnswerLaws.{is_whole, whole_reply}
use Rattle.claims.proofs.form.Proper.{number-unless}
use Rattle.restorer.proofs.ReadingLaws.{number_mapped}

-- the three numbers of a read that is accepted
pub record Readable (b pool : List ℕ) (v k lbn : ℕ) : Type 0 where
  pub form : form_number b ≡ 0
  pub pooled : pool_number b pool ≡ 0
  pub there : read_number (book_of b) v k lbn ≡ 0

module _ (b pool : List ℕ) (v k lbn : ℕ) where
  pub readable : number_of (read_bytes b pool v k lbn) ≡ 0 → Readable b pool v k lbn
  unfolding read_bytes Read.read
  readable z =
      let a = number-unless (form_number b) (unless (pool_number b pool) (Read.read (book_of b) pool v k lbn)) z in
      let d = number-unless (pool_number b pool) (Read.read (book_of b) pool v k lbn) a.1 in
      let f = number-unless (read_number (book_of b) v k lbn) (accepted (block_at pool (image (book_of b) v k lbn))) d.1 in
      record { form = a.0; pooled = d.0; there = f.0 }

  -- the block lies within the pool
  pub block_inside : Readable b pool v k lbn → image (book_of b) v k lbn * 512 + 512 ≤ length pool
  block_inside r =
      let size = pool-size b pool r.pooled in
      let mapped = number_mapped (book_of b) v k lbn r.there in
      ⊎_elim (λ l. omega arith) (λ n. absurd (mapped n)) (image_in (book_of b) (book-parts (book_of b) (book-form b r.form).1) v k lbn)

  pub read_is : Readable b pool v k lbn → read_bytes b pool v k lbn ≡ accepted (block_at pool (image (book_of b) v k lbn))
  unfolding read_bytes Read.read
  read_is r = rw (r.form, r.pooled, r.there)

  read_whole : is_whole (read_answer (read_bytes b pool v k lbn)) ≡ true
  unfolding read_bytes Read.read read_answer
  read_whole = go (form_number b) (pool_number b pool) (read_number (book_of b) v k lbn) refl refl refl
    where
      go : (f p n : ℕ) → form_number b ≡ f → pool_number b pool ≡ p → read_number (book_of b) v k lbn ≡ n
          → is_whole (read_answer (unless f (unless p (unless n (accepted (block_at pool (image (book_of b) v k lbn))))))) ≡ true
      go zero zero zero x y w =
          eq-eqb _ _ (length_part pool (image (book_of b) v k lbn * 512) 512 (block_inside (record { form = x; pooled = y; there = w })))
      go zero zero (suc n) x y w = refl
      go zero (suc p) n x y w = refl
      go (suc f) p n x y w = refl

-- an accepted read's answer: where its block starts
module _ (b pool : List ℕ) (v k lbn from : ℕ) (e : accepted from ≡ read_place_bytes b pool v k lbn) where
  number_place : (read_number_bytes b pool v k lbn ≡ 0) × (accepted (image (book_of b) v k lbn * block_size) ≡ accepted from)
  unfolding read_place_bytes
  number_place = unless-accepted (read_number_bytes b pool v k lbn) _ from (sym e)

  pub placed_readable : Readable b pool v k lbn
  unfolding read_number_bytes
  placed_readable = readable b pool v k lbn number_place.0

  pub placed_offset : from ≡ image (book_of b) v k lbn * 512
  placed_offset = sym (accepted-same _ from number_place.1)

  pub placed_inside : from + 512 ≤ length pool
  placed_inside = let at = placed_offset in omega (arith, block_inside b pool v k lbn placed_readable)

-- ---- so every block among the answers is whole

-- a call that changes something answers a number or what it gives, one number or three
changed_whole : {A : Type 0} (o : Ours) (x : Outcome A) (to : A → Changed Ours) → ((a : A) → is_whole (answer_of (to a).answers) ≡ true)
    → is_whole (step_of o (and_then x (λ a. accepted (to a)))).answer ≡ true
unfolding step_of
changed_whole o (refused k) to whole = refl
changed_whole o (accepted a) to whole = whole a

answer-whole : (spare : ℕ) (o : Ours) (c : Call) → is_whole (ours spare o c).answer ≡ true
unfolding ours audit_answer
answer-whole spare o (enrol v r) = changed_whole o (enrol_bytes o.book v r) _ (λ b. refl)
answer-whole spare o (backup v t list) = changed_whole o (backup_bytes o.book o.pool spare v t list) _ (λ d. refl)
answer-whole spare o (collect t) = changed_whole o (collect_bytes o.book t) _ (λ d. refl)
answer-whole spare o (retire v t) = changed_whole o (retire_bytes o.book spare v t) _ (λ d. refl)
answer-whole spare o (read v k lbn) = read_whole o.book o.pool v k lbn
answer-whole spare o audit = go (audit_bytes o.book)
  where
    go : (x : Outcome Bool) → is_whole (audit_answer x) ≡ true
    go (refused k) = refl
    go (accepted d) = refl

-- ---- .. and every block of a restore's

reads_whole : (one : ℕ → Outcome (List ℕ)) → ((l : ℕ) (b : List ℕ) → one l ≡ accepted b → length b ≡ block_size) → (first many : ℕ)
    (c : List ℕ) → reads_from one first many ≡ accepted c → length c ≡ many * block_size
reads_whole one h first zero c e = ap length (sym (accepted-same [] c e))
reads_whole one h first (suc m) c e =
    let x = then-accepted (one first) _ c e in
    let y = then-accepted (reads_from one (suc first) m) (λ rest. accepted (x.0 ++ rest)) c x.2 in
    let same = accepted-same (x.0 ++ y.0) c y.2 in
    omega (arith, ap length same, length-append x.0 y.0, h first x.0 x.1, reads_whole one h (suc first) m y.0 y.1)

pub restore-whole : (b pool : List ℕ) (v k first many room : ℕ) (c : List ℕ) → restore_bytes b pool v k first many room ≡ accepted c
    → length c ≡ many * block_size
unfolding restore_bytes Restore.restore Read.read
restore-whole b pool v k first many room c e =
    let x = book_of b in
    let f = unless-accepted (form_number b) _ c e in
    let p = unless-accepted (pool_number b pool) _ c f.1 in
    let n = unless-accepted (kept_number x v k) _ c p.1 in
    let r = unless-accepted (run_number x.sizes.l first many room) _ c n.1 in
    reads_whole (Read.read x pool v k)
    (λ l d g.
    let t = unless-accepted (read_number x v k l) (accepted (block_at pool (image x v k l))) d g in
    ap length (sym (accepted-same (block_at pool (image x v k l)) d t.1))
    ∙ length_part pool (image x v k l * 512) 512 (block_inside b pool v k l (record { form = f.0; pooled = p.0; there = t.0 })))
    first many c r.1

reply-whole : (spare : ℕ) (o : Ours) (a : Asked) → whole_reply (reply_to spare o a) ≡ true
unfolding reply_to restore_reply
reply-whole spare o (listed c) = answer-whole spare o c
reply-whole spare o (restore v k first many) = go (restored_at o v k first many (many * block_size)) refl
  where
    go : (x : Outcome (List ℕ)) → restored_at o v k first many (many * block_size) ≡ x → whole_reply (restore_reply many x) ≡ true
    go (refused n) e = refl
    go (accepted c) e = eq-eqb _ _ (restore-whole o.book o.pool v k first many (many * block_size) c e)

pub answers-whole : (spare : ℕ) (o : Ours) (xs : List Asked) → all whole_reply (replies_of spare o xs) ≡ true
answers-whole spare o [] = refl
answers-whole spare o (a ∷ xs) =
    true_and (whole_reply (reply_to spare o a)) (all whole_reply (replies_of spare (next_after spare o a) xs)) (reply-whole spare o a)
    (answers-whole spare (next_after spare o a) xs)
