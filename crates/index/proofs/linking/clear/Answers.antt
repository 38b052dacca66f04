-- N as the first of each bucket says that there is none.
use Rattle.index.proofs.LinkLaws.{linked-none}
use Rattle.index.proofs.linking.clear.Goals as goal

pub returns : goal.returns
returns c =
    let n = c.blocks-n in
    let z = c.requires in
    linked-none _ n.result z.sized.entries n.ensures z.n
