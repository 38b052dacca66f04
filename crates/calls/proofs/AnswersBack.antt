-- Answers in bytes are read back, where blocks are whole and numbers come one or three at a time; so no two lists of as many answers have
-- the same bytes.
use Prim.Native.Nat.{ℕ, ◌+◌, ◌*◌}
use mathlib.Core.Path.{◌≡◌, refl, sym, ap, ap₂, ◌∙◌}
use mathlib.Core.Bool.{Bool, true, false}
use mathlib.Core.List.{List, [], ◌∷◌, ◌++◌}
use mathlib.Core.Logic.{⊎_elim}
use native.Mathlib.Omega.{arith}
use lib.Dec.{eqb}
use lib.ListN.{length, get_or, drop}
use lib.Seq.{take_at, drop_at}
use borrow.Author.Tests.{eqb-true}
use Rattle.words.proofs.ChoiceLaws.{and_true, or_cases}
use Rattle.words.specs.Blocks.{block_size}
use Rattle.words.specs.Choice.{when◌then◌else◌}
use Rattle.words.specs.Lists.{all}
use Rattle.words.proofs.NumberLaws.{two_back}
use Rattle.words.specs.Numbers.{two}
use Rattle.words.specs.Sections.{flat}
use Rattle.model.specs.Calls.{Answer, number, gave, block, sound}
use Rattle.calls.specs.Asked.{Reply, answer, run}
use Rattle.calls.specs.Answers.{answer_bytes, reply_bytes}
use Rattle.calls.proofs.AnswerLaws.{answer_in, answer_size, is_whole, reply_in, reply_size, replies_in, whole_reply}

-- ---- numbers, by how many they are

data OneOrThree : List ℕ → Type 0 where
  one : (k : ℕ) → OneOrThree (k ∷ [])
  three : (k a b : ℕ) → OneOrThree (k ∷ a ∷ b ∷ [])

one-or-three : (ns : List ℕ) → is_whole (gave ns) ≡ true → OneOrThree ns
one-or-three ns h = ⊎_elim (λ e. first ns (eqb-true (length ns) 1 e)) (λ e. third ns (eqb-true (length ns) 3 e)) (or_cases _ _ h)
  where
    first : (ms : List ℕ) → length ms ≡ 1 → OneOrThree ms
    first [] e = absurd (omega arith)
    first (k ∷ []) e = one k
    first (k ∷ a ∷ ms) e = absurd (omega arith)

    third : (ms : List ℕ) → length ms ≡ 3 → OneOrThree ms
    third [] e = absurd (omega arith)
    third (k ∷ []) e = absurd (omega arith)
    third (k ∷ a ∷ []) e = absurd (omega arith)
    third (k ∷ a ∷ b ∷ []) e = three k a b
    third (k ∷ a ∷ b ∷ c ∷ ms) e = absurd (omega arith)

numbers-back : (ns : List ℕ) (rest : List ℕ) → OneOrThree ns → answer_in (answer_bytes (gave ns) ++ rest) ≡ gave ns
numbers-back ns rest (one k) = ap (λ (j : ℕ). gave (j ∷ [])) (two_back k)
numbers-back ns rest (three k a b) = rw (two_back k, two_back a, two_back b)

numbers-size : (ns : List ℕ) (rest : List ℕ) → OneOrThree ns
    → drop (answer_size (answer_bytes (gave ns) ++ rest)) (answer_bytes (gave ns) ++ rest) ≡ rest
numbers-size ns rest (one k) = refl
numbers-size ns rest (three k a b) = refl

-- ---- an answer

answer_back : (a : Answer) (rest : List ℕ) → is_whole a ≡ true → answer_in (answer_bytes a ++ rest) ≡ a
answer_back (number k) rest h = ap number (two_back k)
answer_back (gave ns) rest h = numbers-back ns rest (one-or-three ns h)
answer_back (block b) rest h = ap block (take_at b rest 512 (eqb-true (length b) 512 h))
answer_back (sound true) rest h = refl
answer_back (sound false) rest h = refl

size_back : (a : Answer) (rest : List ℕ) → is_whole a ≡ true → drop (answer_size (answer_bytes a ++ rest)) (answer_bytes a ++ rest) ≡ rest
size_back (number k) rest h = refl
size_back (gave ns) rest h = numbers-size ns rest (one-or-three ns h)
size_back (block b) rest h = drop_at b rest 512 (eqb-true (length b) 512 h)
size_back (sound t) rest h = refl

-- ---- a restore's too

-- no answer has a restore's tag
not_run : (a : Answer) (rest : List ℕ) → eqb (get_or (answer_bytes a ++ rest) 0 0) 5 ≡ false
not_run (number k) rest = refl
not_run (gave ns) rest = go (eqb (length ns) 3)
  where
    go : (t : Bool) → eqb (when t then 1 else 2) 5 ≡ false
    go true = refl
    go false = refl
not_run (block b) rest = refl
not_run (sound t) rest = refl

reply-back : (r : Reply) (rest : List ℕ) → whole_reply r ≡ true → reply_in (reply_bytes r ++ rest) ≡ r
reply-back (answer a) rest h = rw (not_run a rest) (ap answer (answer_back a rest h))
reply-back (run many blocks) rest h =
    rw (two_back many) (ap (run many) (take_at blocks rest (many * block_size) (eqb-true (length blocks) (many * block_size) h)))

reply-size : (r : Reply) (rest : List ℕ) → whole_reply r ≡ true → drop (reply_size (reply_bytes r ++ rest)) (reply_bytes r ++ rest) ≡ rest
reply-size (answer a) rest h = rw (not_run a rest) (size_back a rest h)
reply-size (run many blocks) rest h =
    rw (two_back many) (drop_at (5 ∷ two many ++ blocks) rest (3 + many * block_size)
    (let long = eqb-true (length blocks) (many * block_size) h in omega arith))

pub answers-back : (xs : List Reply) → all whole_reply xs ≡ true → replies_in (length xs) (flat reply_bytes xs) ≡ xs
answers-back [] h = refl
answers-back (r ∷ xs) h =
    let w = and_true (whole_reply r) (all whole_reply xs) h in
    ap₂ (λ (y : Reply) (ys : List Reply). y ∷ ys) (reply-back r (flat reply_bytes xs) w.0)
    (ap (λ (b : List ℕ). replies_in (length xs) b) (reply-size r (flat reply_bytes xs) w.0) ∙ answers-back xs w.1)

pub answers-apart : (xs ys : List Reply) → all whole_reply xs ≡ true → all whole_reply ys ≡ true → length xs ≡ length ys
    → flat reply_bytes xs ≡ flat reply_bytes ys → xs ≡ ys
answers-apart xs ys h k n e =
    sym (answers-back xs h) ∙ ap₂ (λ (m : ℕ) (b : List ℕ). replies_in m b) n e ∙ answers-back ys k
