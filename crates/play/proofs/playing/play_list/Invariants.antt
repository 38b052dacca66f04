-- `play::playing::play_list`: what is left of the list, from where the loop stands, ends and answers as the whole does.
use Prim.Native.Nat.{◌+◌, ◌-◌, ◌≤◌}
use mathlib.Core.Path.{◌≡◌}
use lib.ListN.{length}
use Rattle.calls.specs.Answers.{most_of}
use Rattle.calls.proofs.Playing.{Playing}
use Rattle.calls.specs.Reading.{rest_of, Good}
use Rattle.play.proofs.playing.play_list.Given as goal

abbrev pub invariant-loop-at : goal.invariant-loop-at
invariant-loop-at l =
    Playing (length l.initial.spare) l.initial.book l.initial.pool (rest_of l.calls 0) l.initial.answers l.book l.pool l.answers l.to (rest_of l.calls l.at)
    × Good l.calls l.at
    × (l.to + most_of (rest_of l.calls l.at) ≤ length l.initial.answers)
    × (l.at ≤ length l.calls)
    × (length l.book ≡ length l.initial.book)
    × (length l.pool ≡ length l.initial.pool)
    × (length l.spare ≡ length l.initial.spare)
    × (length l.answers ≡ length l.initial.answers)

abbrev pub decreases-loop-at : goal.decreases-loop-at
decreases-loop-at l =
    length l.calls - l.at
