-- `fields::fresh::put_sizes`: the stores one after the other are one store, by `stores`.
use Prim.Native.Nat.{ℕ}
use mathlib.Core.Path.{◌≡◌}
use mathlib.Core.List.{List, [], ◌∷◌}
use lib.Seq.{sets}
use Rattle.words.specs.Numbers.{two, put}
use Rattle.words.specs.Sections.{flat}
use Rattle.book.specs.Layout.{current, n_offset, l_offset}
use Rattle.fields.proofs.fresh.put_sizes.Goals as goal

-- the layout, N, then the three others
stores : (b : List ℕ) {layout after-n three : List ℕ} (n l s j : ℕ) → layout ≡ put b 0 current
    → after-n ≡ put layout n_offset n → three ≡ sets after-n l_offset (flat two (l ∷ s ∷ j ∷ []))
    → three ≡ sets b 0 (flat two (current ∷ n ∷ l ∷ s ∷ j ∷ []))
stores b n l s j p q r = rw (r, q, p)

pub returns : goal.returns
returns c =
    let a = c.args in
    let z = a.sizes in
    stores a.b.now z.n z.l z.s z.j c.put_u16.ensures c.put_u16-2.ensures
    c.put_three.ensures
