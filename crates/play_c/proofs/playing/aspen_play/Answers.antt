use Rattle.play.proofs.Told.{plays_played}
use Rattle.play_c.proofs.playing.aspen_play.Goals as goal

pub returns-in-Ok : goal.returns-in-Ok
returns-in-Ok c = plays_played _ _ _ _ _ _ c.args.written.now c.in-Ok.ensures

pub returns-in-Err : goal.returns-in-Err
returns-in-Err c = rw c.from.ensures (plays_played _ _ _ _ _ _ c.args.written.now c.in-Err.ensures)
