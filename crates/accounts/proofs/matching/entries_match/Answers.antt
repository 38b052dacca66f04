use mathlib.Core.Path.{◌≡◌}
use Rattle.book.specs.Layout.{told}
use Rattle.accounts.proofs.EntryLaws.{entries_none, entries-grow}
use native.Mathlib.Omega.{arith}
use Rattle.accounts.proofs.matching.entries_match.Goals as goal

pub blocks-n-requires : goal.blocks-n-requires
blocks-n-requires c = c.requires.holds

pub loop-p-init : goal.loop-p-init
loop-p-init c = entries_none _ _ _

pub entry_matches-good-requires : goal.entry_matches-good-requires
entry_matches-good-requires c =
    record { form_facts = c.requires; p_bound = omega arith }

pub loop-p-preserved : goal.loop-p-preserved
loop-p-preserved c =
    let l = c.loop-p in entries-grow _ _ _ l.p l.invariant c.entry_matches-good.ensures

pub returns : goal.returns
returns c =
    let e : c.loop-p.p ≡ (told c.args.book).sizes.n = omega arith in
    rw e at c.loop-p.invariant
