-- No answer is longer than the longest that its call can have.
use Prim.Native.Nat.{ℕ, zero, suc, ◌+◌, ◌*◌, ◌≤◌, suc-le-suc}
use mathlib.Core.Path.{◌≡◌, refl, sym, subst}
use mathlib.Core.Bool.{Bool, true, false}
use mathlib.Core.List.{List, [], ◌∷◌, ◌++◌}
use native.Mathlib.Omega.{arith}
use lib.Dec.{eqb}
use lib.ListN.{length, get_or, take, drop, length-append}
use borrow.Author.Tests.{eqb-true}
use Rattle.words.specs.Blocks.{block_size}
use Rattle.words.specs.Numbers.{two, num}
use Rattle.words.specs.Outcome.{Outcome, refused, accepted, and_then, unless}
use Rattle.words.specs.Sections.{flat, part}
use Rattle.book.specs.Form.{form_number}
use Rattle.book.specs.Layout.{book_of}
use Rattle.model.specs.Calls.{Call, enrol, backup, collect, retire, read, audit}
use Rattle.model.specs.OnBytes.{pool_number, enrol_bytes, backup_bytes, collect_bytes, retire_bytes, read_bytes, audit_bytes}
use Rattle.model.specs.OnBytes.{restore_bytes}
use Rattle.model.specs.Read
use Rattle.model.specs.Read.{image, read_number}
use Rattle.model.specs.Kept.{kept_number}
use Rattle.model.specs.Restore
use Rattle.model.specs.Restore.{run_number, reads_from}
use Rattle.model.specs.Pool.{block_at}
use Rattle.model.specs.Sides.{Changed, answer_of, step_of, read_answer, audit_answer, Ours, ours}
use Rattle.calls.specs.Asked.{Asked, listed, restore, restore_reply, reply_to, next_after}
use Rattle.calls.specs.Coding.{data_size, call_of, call_at}
use Rattle.calls.specs.Answers.{answer_bytes, reply_bytes, longest, longest_reply, longest_of, most_of}
use Rattle.calls.specs.Promises.{answered}

pub take-most : (n : ℕ) (l : List ℕ) → length (take n l) ≤ n
take-most zero l = omega arith
take-most (suc n) [] = omega arith
take-most (suc n) (x ∷ l) = suc-le-suc (take-most n l)

-- ---- a call that changes something, by how many numbers it answers at most

numbers-long : (ns : List ℕ) → length (flat two ns) ≡ length ns * 2
numbers-long [] = refl
numbers-long (k ∷ ks) = let ih = numbers-long ks in omega arith

changed_short : {A : Type 0} (o : Ours) (x : Outcome A) (to : A → Changed Ours) (most : ℕ) → 1 ≤ most
    → ((a : A) → length (to a).answers ≤ most)
    → length (answer_bytes (step_of o (and_then x (λ a. accepted (to a)))).answer) ≤ 1 + most * 2
unfolding step_of
changed_short o (refused k) to most h few = omega arith
changed_short o (accepted a) to most h few = go (to a).answers (few a)
  where
    go : (ns : List ℕ) → length ns ≤ most → length (answer_bytes (answer_of ns)) ≤ 1 + most * 2
    go [] i = omega arith
    go (k ∷ ks) i = omega (arith, numbers-long (k ∷ ks))

answer-short : (spare : ℕ) (o : Ours) (c : Call) → length (answer_bytes (ours spare o c).answer) ≤ longest c
unfolding ours read_answer audit_answer read_bytes Read.read
answer-short spare o (enrol v r) = changed_short o (enrol_bytes o.book v r) _ 1 (omega arith) (λ b. omega arith)
answer-short spare o (backup v t list) =
    changed_short o (backup_bytes o.book o.pool spare v t list) _ 3 (omega arith) (λ d. omega arith)
answer-short spare o (collect t) = changed_short o (collect_bytes o.book t) _ 1 (omega arith) (λ d. omega arith)
answer-short spare o (retire v t) = changed_short o (retire_bytes o.book spare v t) _ 1 (omega arith) (λ d. omega arith)
answer-short spare o (read v k lbn) = go (form_number o.book) (pool_number o.book o.pool) (read_number (book_of o.book) v k lbn)
  where
    found : List ℕ
    found = block_at o.pool (image (book_of o.book) v k lbn)

    go : (f p n : ℕ) → length (answer_bytes (read_answer (unless f (unless p (unless n (accepted found)))))) ≤ 513
    go zero zero zero = suc-le-suc (take-most 512 (drop (image (book_of o.book) v k lbn * 512) o.pool))
    go zero zero (suc n) = omega arith
    go zero (suc p) n = omega arith
    go (suc f) p n = omega arith
answer-short spare o audit = go (audit_bytes o.book)
  where
    go : (x : Outcome Bool) → length (answer_bytes (audit_answer x)) ≤ 3
    go (refused k) = omega arith
    go (accepted d) = omega arith

-- ---- a restore

-- how many bytes an outcome has
abbrev length_or : Outcome (List ℕ) → ℕ
length_or (refused k) = 0
length_or (accepted b) = length b

unless-most : (k n : ℕ) (o : Outcome (List ℕ)) → length_or o ≤ n → length_or (unless k o) ≤ n
unless-most zero n o h = h
unless-most (suc k) n o h = omega arith

reads-most : (one : ℕ → Outcome (List ℕ)) → ((l : ℕ) → length_or (one l) ≤ block_size) → (first many : ℕ)
    → length_or (reads_from one first many) ≤ many * block_size
reads-most one h first zero = omega arith
reads-most one h first (suc m) = go (one first) (reads_from one (suc first) m) (h first) (reads-most one h (suc first) m)
  where
    go : (a b : Outcome (List ℕ)) → length_or a ≤ block_size → length_or b ≤ m * block_size
        → length_or (and_then a (λ x. and_then b (λ y. accepted (x ++ y)))) ≤ suc m * block_size
    go (refused k) b i j = omega arith
    go (accepted x) (refused k) i j = omega arith
    go (accepted x) (accepted y) i j = omega (arith, length-append x y)

restore-most : (b pool : List ℕ) (v k first many room : ℕ) → length_or (restore_bytes b pool v k first many room) ≤ many * block_size
unfolding restore_bytes Restore.restore Read.read
restore-most b pool v k first many room =
    let x = book_of b in
    unless-most (form_number b) (many * block_size) _
    (unless-most (pool_number b pool) (many * block_size) _
    (unless-most (kept_number x v k) (many * block_size) _
    (unless-most (run_number x.sizes.l first many room) (many * block_size) _
    (reads-most (Read.read x pool v k)
    (λ l. unless-most (read_number x v k l) block_size _ (take-most block_size (drop (image x v k l * block_size) pool))) first many))))

-- ---- what a list asks for

pub reply-short : (spare : ℕ) (o : Ours) (a : Asked) → length (reply_bytes (reply_to spare o a)) ≤ longest_reply a
unfolding reply_to restore_reply
reply-short spare o (listed c) = answer-short spare o c
reply-short spare o (restore v k first many) =
    go (restore_bytes o.book o.pool v k first many (many * block_size))
    (restore-most o.book o.pool v k first many (many * block_size))
  where
    go : (x : Outcome (List ℕ)) → length_or x ≤ many * block_size → length (reply_bytes (restore_reply many x)) ≤ 3 + many * block_size
    go (refused j) h = omega arith
    go (accepted d) h = omega arith

pub answers-short : (spare : ℕ) (o : Ours) (xs : List Asked) → length (answered spare o xs) ≤ most_of xs
answers-short spare o [] = omega arith
answers-short spare o (a ∷ xs) =
    let ih = answers-short spare (next_after spare o a) xs in
    let s = reply-short spare o a in
    omega (arith, length-append (reply_bytes (reply_to spare o a)) (answered spare (next_after spare o a) xs))

-- by the kind in a head
longest_kind : (kind a b c d : ℕ) (list : List ℕ) → longest_reply (call_of kind a b c d list) ≡ longest_of kind d
unfolding call_of longest_of
longest_kind kind a b c d list =
    go (eqb kind 0) (eqb kind 1) (eqb kind 2) (eqb kind 3) (eqb kind 5) (eqb kind 6) refl refl refl refl refl refl
  where
    at : (i : ℕ) → eqb kind i ≡ true → longest_reply (call_of i a b c d list) ≡ longest_of i d
        → longest_reply (call_of kind a b c d list) ≡ longest_of kind d
    at i e = subst (λ j. longest_reply (call_of j a b c d list) ≡ longest_of j d) (sym (eqb-true kind i e))

    go : (s t u w x y : Bool) → eqb kind 0 ≡ s → eqb kind 1 ≡ t → eqb kind 2 ≡ u → eqb kind 3 ≡ w → eqb kind 5 ≡ x → eqb kind 6 ≡ y
        → longest_reply (call_of kind a b c d list) ≡ longest_of kind d
    go true t u w x y e f g h i j = at 0 e refl
    go false true u w x y e f g h i j = at 1 f refl
    go false false true w x y e f g h i j = at 2 g refl
    go false false false true x y e f g h i j = at 3 h refl
    go false false false false true y e f g h i j = at 5 i refl
    go false false false false false true e f g h i j = at 6 j refl
    go false false false false false false e f g h i j = rw (e, f, g, h, i, j)

pub longest_at : (b : List ℕ) (at : ℕ) → longest_reply (call_at b at) ≡ longest_of (get_or b at 0) (num b (at + 8))
unfolding call_at
longest_at b at =
    longest_kind (get_or b at 0) (num b (at + 2)) (num b (at + 4)) (num b (at + 6)) (num b (at + 8)) (part b (at + 14) (data_size b at))
