-- Every list of calls has bytes that say it, and they are read back.
use Prim.Native.Nat.{ℕ, ◌+◌, ◌*◌, ◌/◌, ◌%◌, ◌≤◌}
use mathlib.Core.Path.{◌≡◌, refl, sym, ap, ap₂, ◌∙◌}
use mathlib.Core.Bool.{true}
use mathlib.Core.List.{List, [], ◌∷◌, ◌++◌, append_assoc}
use native.Mathlib.Nat.{mod-add-div'}
use native.Mathlib.Omega.{arith}
use lib.ListN.{length, get_or, length-append}
use lib.Seq.{get_or-append-add, take-append_seam}
use borrow.Author.Tests.{le-leb}
use Rattle.words.specs.Numbers.{num}
use Rattle.words.proofs.NumberLaws.{two_back}
use Rattle.words.specs.Outcome.{Outcome, accepted, and_then}
use Rattle.words.proofs.Pieces.{part-past}
use Rattle.words.specs.Sections.{flat, part}
use Rattle.model.specs.Calls.{enrol, backup, collect, retire, read, audit}
use Rattle.calls.specs.Asked.{Asked, listed, restore}
use Rattle.calls.proofs.ReadingLaws.{calls-end, calls-more}
use Rattle.calls.specs.Coding.{data_size, call_size, unused_zero, unused_zero_at, call_of, is_call, call_at, before, calls_from, calls_of}
use Rattle.calls.proofs.CodingLaws.{row_bytes, call_bytes}

-- ---- what is read past the bytes p

num-past : (p x : List ℕ) (i : ℕ) → num (p ++ x) (length p + i) ≡ num x i
num-past p x i =
    let e : length p + i + 1 ≡ length p + (i + 1) = omega arith in
    ap₂ (λ (u v : ℕ). u + v * 256) (get_or-append-add p x i 0) (ap (λ (k : ℕ). get_or (p ++ x) k 0) e ∙ get_or-append-add p x (i + 1) 0)

module _ (p rest : List ℕ) (kind a b c d : ℕ) (list : List ℕ) where
  abbrev row : List ℕ
  row = row_bytes kind a b c d list ++ rest

  kind-back : get_or (p ++ row) (length p) 0 ≡ kind
  kind-back = let e : length p ≡ length p + 0 = omega arith in ap (λ (k : ℕ). get_or (p ++ row) k 0) e ∙ get_or-append-add p row 0 0

  second_back : get_or (p ++ row) (length p + 1) 0 ≡ 0
  second_back = get_or-append-add p row 1 0

  a_back : num (p ++ row) (length p + 2) ≡ a
  a_back = num-past p row 2 ∙ two_back a

  b_back : num (p ++ row) (length p + 4) ≡ b
  b_back = num-past p row 4 ∙ two_back b

  c_back : num (p ++ row) (length p + 6) ≡ c
  c_back = num-past p row 6 ∙ two_back c

  d_back : num (p ++ row) (length p + 8) ≡ d
  d_back = num-past p row 8 ∙ two_back d

  size_back : data_size (p ++ row) (length p) ≡ length list
  unfolding data_size
  size_back =
      ap₂ (λ (u v : ℕ). u + v * 65536) (num-past p row 10 ∙ two_back (length list % 65536))
      (num-past p row 12 ∙ two_back (length list / 65536))
      ∙ mod-add-div' (length list) 65536

  list_back : part (p ++ row) (length p + 14) (length list) ≡ list
  list_back = part-past p row (length p) 14 (length list) refl ∙ take-append_seam list rest

  pub row_back : call_at (p ++ row) (length p) ≡ call_of kind a b c d list
  unfolding call_at
  row_back = rw (kind-back, a_back, b_back, c_back, d_back, size_back, list_back)

  zeros-back : unused_zero_at (p ++ row) (length p) ≡ unused_zero kind a b c d (length list)
  unfolding unused_zero_at
  zeros-back = rw (kind-back, a_back, b_back, c_back, d_back, size_back)

  pub row-size : call_size (p ++ row) (length p) ≡ length (row_bytes kind a b c d list)
  unfolding call_size
  row-size = omega (arith, size_back)

  length-row : length (p ++ row) ≡ length p + (length (row_bytes kind a b c d list) + length rest)
  length-row = length-append p row ∙ ap (λ (k : ℕ). length p + k) (length-append (row_bytes kind a b c d list) rest)

  pub row-call : unused_zero kind a b c d (length list) ≡ true → is_call (p ++ row) (length p) ≡ true
  unfolding is_call
  row-call e =
      let n = length-row in
      let s = row-size in
      rw (
        le-leb (length p + 14) (length (p ++ row)) (omega arith),
        second_back,
        zeros-back,
        e,
        le-leb (length p + call_size (p ++ row) (length p)) (length (p ++ row)) (omega arith),
      )

-- ---- every list of calls

-- a call's bytes, past p and before the rest, are that call
record Back (p rest : List ℕ) (c : Asked) : Type 0 where
  pub is : is_call (p ++ (call_bytes c ++ rest)) (length p) ≡ true
  pub call : call_at (p ++ (call_bytes c ++ rest)) (length p) ≡ c
  pub size : call_size (p ++ (call_bytes c ++ rest)) (length p) ≡ length (call_bytes c)
  pub some : 14 ≤ length (call_bytes c)

call_back : (p rest : List ℕ) (c : Asked) → Back p rest c
unfolding call_of unused_zero
call_back p rest (listed (enrol v r)) =
    record {
      is = row-call p rest 0 v r 0 0 [] refl;
      call = row_back p rest 0 v r 0 0 [];
      size = row-size p rest 0 v r 0 0 [];
      some = omega arith;
    }
call_back p rest (listed (backup v t list)) =
    record {
      is = row-call p rest 1 v t 0 0 list refl;
      call = row_back p rest 1 v t 0 0 list;
      size = row-size p rest 1 v t 0 0 list;
      some = omega arith;
    }
call_back p rest (listed (collect t)) =
    record {
      is = row-call p rest 2 t 0 0 0 [] refl;
      call = row_back p rest 2 t 0 0 0 [];
      size = row-size p rest 2 t 0 0 0 [];
      some = omega arith;
    }
call_back p rest (listed (read v k lbn)) =
    record {
      is = row-call p rest 3 v k lbn 0 [] refl;
      call = row_back p rest 3 v k lbn 0 [];
      size = row-size p rest 3 v k lbn 0 [];
      some = omega arith;
    }
call_back p rest (listed audit) =
    record {
      is = row-call p rest 4 0 0 0 0 [] refl;
      call = row_back p rest 4 0 0 0 0 [];
      size = row-size p rest 4 0 0 0 0 [];
      some = omega arith;
    }
call_back p rest (restore v k first many) =
    record {
      is = row-call p rest 5 v k first many [] refl;
      call = row_back p rest 5 v k first many [];
      size = row-size p rest 5 v k first many [];
      some = omega arith;
    }
call_back p rest (listed (retire v t)) =
    record {
      is = row-call p rest 6 v t 0 0 [] refl;
      call = row_back p rest 6 v t 0 0 [];
      size = row-size p rest 6 v t 0 0 [];
      some = omega arith;
    }

calls-past : (cs : List Asked) (p : List ℕ) (n : ℕ) → length (flat call_bytes cs) ≤ n
    → calls_from n (p ++ flat call_bytes cs) (length p) ≡ accepted cs
calls-past [] p n h = calls-end (p ++ []) n (length p) (omega (arith, length-append p []))
calls-past (c ∷ cs) p n h =
    let rest = flat call_bytes cs in
    let k = call_back p rest c in
    let long = length-append p (call_bytes c ++ rest) in
    let split = length-append (call_bytes c) rest in
    let there : length p + length (call_bytes c) ≡ length (p ++ call_bytes c) = sym (length-append p (call_bytes c)) in
    calls-more (p ++ (call_bytes c ++ rest)) n (length p) (omega arith) (omega (arith, k.some)) k.is
    ∙ ap₂ (λ (o : Outcome (List Asked)) (x : Asked). and_then o (before x))
    (ap (λ (s : ℕ). calls_from n (p ++ (call_bytes c ++ rest)) (length p + s)) k.size
    ∙ ap₂ (λ (b : List ℕ) (o : ℕ). calls_from n b o) (sym (append_assoc p (call_bytes c) rest)) there
    ∙ calls-past cs (p ++ call_bytes c) n (omega arith))
    k.call

pub calls_back : (cs : List Asked) → calls_of (flat call_bytes cs) ≡ accepted cs
unfolding calls_of
calls_back cs = calls-past cs [] (length (flat call_bytes cs)) (omega arith)
