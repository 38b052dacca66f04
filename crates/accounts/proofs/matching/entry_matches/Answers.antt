-- `accounts::matching::entry_matches` meets its contract: both numbers are the entry's.
use Rattle.accounts.specs.Entries.{entry_matches}
use native.Mathlib.Omega.{arith}
use Rattle.accounts.proofs.matching.entry_matches.Goals as goal

pub count-requires : goal.count-requires
count-requires c =
    record { holds = c.requires.form_facts.holds; p_bound = c.requires.p_bound }

pub bounds-counts-at : goal.bounds-counts-at
bounds-counts-at c = omega (arith, c.requires.form_facts.holds.n, c.requires.p_bound)

pub expiry-requires : goal.expiry-requires
expiry-requires c =
    record { holds = c.requires.form_facts.holds; p_bound = c.requires.p_bound }

pub bounds-expiries-at : goal.bounds-expiries-at
bounds-expiries-at c = omega (arith, c.requires.form_facts.holds.n, c.requires.p_bound)

pub returns : goal.returns
unfolding entry_matches
returns c = rw (c.count.ensures, c.expiry.ensures)
