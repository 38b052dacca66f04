-- `play::fresh::play_fresh`: the format leaves a fresh book, and the list played on it is one of the claims.
use mathlib.Core.Path.{refl}
use Rattle.std.proofs.lemmas.Result.{err_from_is_err_and}
use Rattle.words.proofs.Refused.{number-not_zero}
use Rattle.play.proofs.FreshList.{fresh-refused, fresh-played}
use Rattle.play.proofs.Told.{plays_played}
use Rattle.play.proofs.fresh.play_fresh.Goals as goal

pub returns-in_err-format : goal.returns-in_err-format
returns-in_err-format c =
    let a = c.args in
    let z = a.sizes in
    let p = err_from_is_err_and c.from_residual.result c.from_residual.ensures.1 in
    rw (p.1, p.2) record {
      fresh = λ w.
          fresh-refused _ a.pool.now a.spare.now a.calls.now a.answers.now z.n z.l z.s z.j c.in_err-format.ensures (number-not_zero _);
      short = tt;
    }

pub returns : goal.returns
returns c =
    let a = c.args in
    let z = a.sizes in
    record {
      fresh = λ w.
          fresh-played _ a.pool.now a.spare.now a.calls.now a.answers.now z.n z.l z.s z.j c.in_ok-format.ensures refl
          (plays_played _ _ _ _ _ _ w c.play.ensures);
      short = c.play.ensures.short;
    }
