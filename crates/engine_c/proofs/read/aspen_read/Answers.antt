-- `engine_c::read::aspen_read` meets its contract: a block's offset fits 32 bits, and the number is that of the read.
use Rattle.std.proofs.Common.{rules}
use Rattle.engine_c.proofs.ReadExits.{place_number, place-fits}
use Rattle.engine_c.proofs.read.aspen_read.Goals as goal

pub map-requires : goal.map-requires
map-requires c x e f g = place-fits _ _ _ _ _ (rw e at c.offset-answer.ensures)

pub returns : goal.returns
returns c =
    let a = c.args in
    let h = place_number a.book.now a.pool.now a.volume a.number a.lbn in
    search (rules, h)
