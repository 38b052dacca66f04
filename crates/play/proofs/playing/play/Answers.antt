-- `play::playing::play`: a list that nothing refuses is played.
use mathlib.Core.Path.{sym}
use native.Mathlib.Omega.{arith}
use Rattle.std.proofs.lemmas.Result.{err_from_is_err_and}
use Rattle.words.proofs.Refused.{number-not_zero}
use Rattle.calls.proofs.BoundLaws.{playable-good, played-refused, played-all, played-short}
use Rattle.play.proofs.Told.{played_plays}
use Rattle.play.proofs.playing.play.Goals as goal

pub returns-in_err-check : goal.returns-in_err-check
returns-in_err-check c =
    let a = c.args in
    let p = err_from_is_err_and c.from_residual.result c.from_residual.ensures.1 in
    rw (p.1, p.2)
    (played_plays _ _ _ _ _ _
    (λ w. played-refused a.calls.now a.answers.now _ c.room_of.ensures.0 c.in_err-check.ensures (number-not_zero _)) tt)

pub play_list-requires : goal.play_list-requires
play_list-requires c =
    let g = playable-good _ c.args.calls.now (sym c.in_ok-check.ensures) in
    (g.0, omega (arith, g.1, c.room_of.ensures.1))

pub returns : goal.returns
returns c =
    let a = c.args in
    let n = sym c.in_ok-check.ensures in
    let short = played-short a.calls.now a.answers.now _ c.room_of.ensures.0 n c.play_list.ensures in
    played_plays _ _ _ _ _ _
    (λ w. played-all a.calls.now a.answers.now _ c.room_of.ensures.0 n c.play_list.ensures)
    (omega (arith, short, c.room_of.ensures.2))
