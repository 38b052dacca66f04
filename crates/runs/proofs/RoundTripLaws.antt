-- Laws of specs/RoundTrip.antt.
-- "The reader recovers exactly these": it takes the list that the writer writes, and finds the marked blocks in it.
use Prim.Native.Nat.{ℕ}
use mathlib.Core.Path.{◌≡◌, refl, sym}
use mathlib.Core.Bool.{Bool, true, false, not}
use mathlib.Core.List.{List, [], ◌∷◌, ◌++◌}
use native.Mathlib.Omega.{arith}
use lib.ListN.{length, take, drop}
use lib.Seq.{take_at}
use lib.Dec.{ltb}
use Rattle.words.specs.Choice.{when◌then◌else◌}
use Rattle.words.specs.Lent.{Lent}
use Rattle.words.specs.Lists.{all_zero}
use Rattle.runs.proofs.ListBytes.{changes-back, list_number-back}
use Rattle.runs.proofs.Marked.{input_facts, marked_fitting}
use Rattle.runs.proofs.PassingLaws.{pairs-fit}
use Rattle.runs.proofs.RunLaws.{marked-none, pairs-none}
use Rattle.runs.specs.Writer.{marked_pairs, marked_changes, list_bytes, marked_list, input_ok, write_number, answer_after, output_after, Wrote}
use Rattle.runs.specs.RoundTrip.{Recovered}

pub recovered : (L : ℕ) (marks prints image : List ℕ) → input_ok L marks prints image ≡ true
    → Recovered L marks prints image (marked_list marks prints image)
unfolding marked_list
recovered L marks prints image h =
    let g = input_facts L marks prints image h in
    let f = marked_fitting L marks prints image g in
    record {
      taken = list_number-back (marked_pairs marks) (marked_changes marks prints image) f L (pairs-fit L marks (omega (arith, g.marks-long)));
      found = changes-back (marked_pairs marks) (marked_changes marks prints image) f;
    }

-- ---- what an accepted call leaves: the list is as many bytes of the output as the answer says

pub input_written : (L : ℕ) (marks prints image out : List ℕ) → write_number L marks prints image out ≡ 0
    → input_ok L marks prints image ≡ true
unfolding write_number
input_written L marks prints image out h = go (input_ok L marks prints image) h
  where
    go : (t : Bool) → ◌≡◌ {A = ℕ}
        (when not t then 19 else when ltb (length out) (length (marked_list marks prints image)) then 20 else 0) 0 → t ≡ true
    go true h = refl
    go false h = absurd (omega arith)

module _ (L : ℕ) (marks prints image out : Lent (List ℕ)) (answer : Lent ℕ) where
  pub recovered_written : Wrote L marks prints image out answer 0
      → Recovered L marks.entry.now prints.entry.now image.entry.now (take answer.exit.now out.exit.now)
  unfolding answer_after output_after
  recovered_written w =
      let ms = marks.entry.now in
      let ps = prints.entry.now in
      let bs = image.entry.now in
      let before = out.entry.now in
      let n : write_number L ms ps bs before ≡ 0 = sym w.number in
      let list = marked_list ms ps bs in
      let a : answer.exit.now ≡ length list = w.answered in
      let o : out.exit.now ≡ list ++ drop (length list) before = w.output in
      let e : take answer.exit.now out.exit.now ≡ list =
      rw (a, o) (take_at list (drop (length list) before) (length list) refl) in
      rw e (recovered L ms ps bs (input_written L ms ps bs before n))

-- "E = 0 is a backup without changes"
pub nothing_written : (marks prints image : List ℕ) → all_zero marks ≡ true → marked_list marks prints image ≡ 0 ∷ 0 ∷ []
unfolding marked_list marked_changes list_bytes
nothing_written marks prints image h = rw (pairs-none marks h, marked-none marks 0 h)
