-- `words::put_bytes`: after i turns the first i bytes of src are laid down.
use mathlib.Core.Path.{◌≡◌}
use lib.ListN.{length, take}
use lib.Seq.{sets}
use Rattle.words.proofs.put_bytes.Given as goal

abbrev pub invariant-loop-i : goal.invariant-loop-i
invariant-loop-i l =
    (l.b ≡ sets l.initial.b l.at (take l.i l.src)) × (length l.b ≡ length l.initial.b)
