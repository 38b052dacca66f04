use Prim.Native.Nat.{ℕ}
use mathlib.Core.Path.{◌≡◌, sym, ap, ◌∙◌}
use native.Mathlib.Omega.{arith}
use Rattle.words.proofs.Each.{each_none, each-grow}
use Rattle.words.specs.Lists.{each}
use Rattle.book.specs.Book.{free_entry, entry_at}
use Rattle.book.specs.Layout.{book_of}
use Rattle.book.specs.Next.{count_as}
use Rattle.model.specs.Convert.{is_narrow}
use Rattle.convert.proofs.Exits.{narrow-each}
use Rattle.convert.proofs.all_narrow.Goals as goal

pub loop-p-init : goal.loop-p-init
loop-p-init c = sym (each_none _ _ _ (omega arith))

pub count-requires : goal.count-requires
count-requires c =
    record { holds = c.requires; p_bound = omega (arith, c.blocks-n.ensures) }

pub loop-p-preserved : goal.loop-p-preserved
unfolding count_as
loop-p-preserved c =
    each-grow _ _ _ (omega arith) c.loop-p.invariant (ap (λ (k : ℕ). is_narrow (count_as k free_entry)) c.count.ensures)

pub returns : goal.returns
returns c =
    let b = c.args.book.now in
    let e : c.loop-p.p ≡ (book_of b).sizes.n = omega (arith, c.blocks-n.ensures) in
    c.loop-p.invariant ∙ ap (λ (n : ℕ). each (λ q. is_narrow (entry_at (book_of b).entries q)) 0 n) e ∙ narrow-each b
