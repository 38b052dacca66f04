-- `fields::fresh::blank`: what the three stores left, by `runs-three`.
use Rattle.words.proofs.Filling.{runs-three}
use Rattle.fields.proofs.fresh.blank.Goals as goal

pub returns : goal.returns
returns c =
    let a = c.args in
    runs-three a.b.now a.low a.cells a.high _ _ _ c.requires
    c.fill.ensures c.fill-2.ensures c.fill-3.ensures
