use Prim.Native.Nat.{◌+◌, ◌-◌}
use mathlib.Core.Path.{◌≡◌, ap}
use lib.ListN.{length, take, drop, replicate, length-replicate, length-drop, length-take}
use native.Mathlib.Omega.{arith}
use Rattle.words.proofs.PartStores.{part-stored}
use Rattle.words.proofs.fill.Goals as goal

pub returns : goal.returns
returns c =
    let a = c.args in
    let k : length (take (a.at + a.n - a.at) (drop a.at a.b.now)) ≡ a.n = grind (arith, length-take, length-drop) in
    rw (c.fill.ensures.after, k)
    (part-stored a.b.now a.at (a.at + a.n) (omega arith) c.requires (replicate a.n a.v) (ap (λ m. a.at + m) (length-replicate a.n a.v)))
