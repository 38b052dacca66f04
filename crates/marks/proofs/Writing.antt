-- The pass that writes the pairs: one turn, and the end. What it has stored and what is left make the section whole.
use Prim.Native.Nat.{ℕ, ◌+◌, ◌≤◌, ◌<◌}
use mathlib.Core.Path.{◌≡◌, sym, ap, subst, ◌∙◌}
use mathlib.Core.Bool.{Bool, true, false}
use mathlib.Core.List.{List, ◌++◌}
use native.Mathlib.Omega.{arith}
use lib.Dec.{eqb}
use lib.ListN.{length, get_or, drop}
use Rattle.words.specs.Choice.{when◌then◌else◌}
use Rattle.words.specs.Lists.{bit}
use Rattle.words.proofs.Prefixes.{bit-one}
use Rattle.words.specs.Sections.{flat}
use Rattle.words.proofs.Flat.{flat_append}
use Rattle.words.specs.Laying.{Stored}
use Rattle.words.proofs.LayingLaws.{Left, left-room, left-more, left-last}
use Rattle.runs.specs.Changes.{Pair}
use Rattle.runs.specs.Writer.{pair_bytes}
use Rattle.runs.specs.Passing.{goes_on, ended_run, row_after, pairs_from}
use Rattle.runs.proofs.PassingLaws.{pairs-passed}
use Rattle.marks.specs.Passes.{pair_of, pairs_of, Passed}
use Rattle.marks.specs.declared.Progress.{Progress}
use Rattle.marks.proofs.Marks.{pairs-more, pairs_end}

-- the bytes of the pairs where the marks are those from LBN i on and the open run has the k blocks before i
unfoldable pub pairs_left : ℕ → ℕ → List ℕ → List ℕ
pairs_left i k ms = flat pair_bytes (pairs_from i k ms)

pub all_left : (ms : List ℕ) → pairs_left 0 0 ms ≡ pairs_of ms
unfolding pairs_left pairs_of
all_left ms = ap (λ (ps : List Pair). flat pair_bytes ps) (pairs-passed ms)

module _ (ms : List ℕ) (i k : ℕ) where
  left-next : i < length ms
      → pairs_left i k (drop i ms) ≡ pair_of i k (get_or ms i 0) ++ pairs_left (i + 1) (row_after k (get_or ms i 0)) (drop (i + 1) ms)
  unfolding pair_of pairs_left
  left-next h =
      ap (λ (ps : List Pair). flat pair_bytes ps) (pairs-more ms i k h)
      ∙ flat_append pair_bytes (ended_run i k (get_or ms i 0)) (pairs_from (i + 1) (row_after k (get_or ms i 0)) (drop (i + 1) ms))

  left_end : (m : ℕ) → length ms ≤ i → (m ≡ 1 → ⊥) → pairs_left i k (drop i ms) ≡ pair_of i k m
  unfolding pair_of pairs_left
  left_end m h n = ap (λ (ps : List Pair). flat pair_bytes ps) (pairs_end ms i k m h n)

module _ (ms : List ℕ) (p : Progress) (i : ℕ) {old section out : List ℕ} {start : ℕ}
    (l : Left old start section out p.at (pairs_left i p.row (drop i ms))) where
  pub next-room : i < length ms → p.at + length (pair_of i p.row (get_or ms i 0)) ≤ length out
  next-room h =
      let m = get_or ms i 0 in
      left-room l (pair_of i p.row m) (pairs_left (i + 1) (row_after p.row m) (drop (i + 1) ms)) (left-next ms i p.row h)

  pub last-room : (m : ℕ) → length ms ≤ i → (m ≡ 1 → ⊥) → p.at + length (pair_of i p.row m) ≤ length out
  last-room m h n = rw (left_end ms i p.row m h n) at l.room

  pub next-stored : {out' : List ℕ} {r : Progress} → i < length ms → Passed out p i (get_or ms i 0) out' r
      → Left old start section out' r.at (pairs_left (i + 1) r.row (drop (i + 1) ms))
  next-stored {out'} {r} h s =
      let m = get_or ms i 0 in
      subst (λ (k : ℕ). Left old start section out' r.at (pairs_left (i + 1) k (drop (i + 1) ms))) (sym s.row)
      (left-more l (pair_of i p.row m) (pairs_left (i + 1) (row_after p.row m) (drop (i + 1) ms)) (left-next ms i p.row h) s.pair)

  pub last_stored : {m : ℕ} {out' : List ℕ} {r : Progress} → length ms ≤ i → (m ≡ 1 → ⊥) → Passed out p i m out' r
      → Stored old start section out' r.at
  last_stored {m} {out'} {r} h n s =
      left-last l (subst (λ (b : List ℕ). Stored out p.at b out' r.at) (sym (left_end ms i p.row m h n)) s.pair)

pub row_room : {out out' : List ℕ} {p r : Progress} {i m : ℕ} → Passed out p i m out' r → p.row ≤ i → r.row ≤ i + 1
unfolding row_after
row_room {p = p} {i = i} {m = m} s h = rw s.row (go (goes_on p.row m))
  where
    go : (t : Bool) → (when t then p.row + 1 else bit (eqb m 1)) ≤ i + 1
    go true = omega arith
    go false = omega (arith, bit-one (eqb m 1))
