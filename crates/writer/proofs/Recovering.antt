-- "The reader recovers exactly these", of the list that the writer writes for callers in Rattle: the list is as many bytes of the output as it answers.
use Prim.Native.Nat.{ℕ}
use mathlib.Core.Path.{◌≡◌, refl, sym}
use mathlib.Core.List.{List, ◌++◌}
use lib.ListN.{length, take, drop}
use lib.Seq.{take_at}
use Rattle.std.specs.Prelude.{Ok}
use Rattle.words.specs.Lent.{Lent}
use Rattle.runs.specs.Writer.{output_after, list_of}
use Rattle.runs.specs.RoundTrip.{Recovered}
use Rattle.runs.proofs.RoundTripLaws.{recovered, input_written}
use Rattle.writer.specs.Promises.{Writes}

module _ (L : ℕ) (marks prints image out : Lent (List ℕ)) where
  pub recovered-list : {n : ℕ} → Writes L marks prints image out (Ok n)
      → Recovered L marks.entry.now prints.entry.now image.entry.now (take n out.exit.now)
  unfolding output_after
  recovered-list {n} w =
      let list = list_of marks prints image in
      let o : out.exit.now ≡ list ++ drop (length list) out.entry.now = w.output in
      let e : take n out.exit.now ≡ list = rw (w.length.0, o) (take_at list (drop (length list) out.entry.now) (length list) refl) in
      rw e (recovered L _ _ _ (input_written L _ _ _ _ (sym w.number)))
