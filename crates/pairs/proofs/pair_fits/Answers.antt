-- `pairs::pair_fits`: the tests of the branches are those of `pair_fits`.
use native.Mathlib.Omega.{arith}
use borrow.Author.Tests.{le-leb, lt-leb, eq-eqb, ne_eqb}
use Rattle.runs.specs.Changes.{max_run}
use Rattle.pairs.proofs.pair_fits.Goals as goal

pub returns-then-many-eq0 : goal.returns-then-many-eq0
returns-then-many-eq0 c = rw (eq-eqb c.args.many 0 (omega arith))

pub returns-then-many-gt-MAX_RUN : goal.returns-then-many-gt-MAX_RUN
returns-then-many-gt-MAX_RUN c =
    let a = c.args in
    rw (ne_eqb a.many 0 (λ e. omega arith), lt-leb a.many max_run (omega arith))

pub returns-then-first-end : goal.returns-then-first-end
returns-then-first-end c =
    let a = c.args in
    rw (ne_eqb a.many 0 (λ e. omega arith), le-leb a.many max_run (omega arith), lt-leb a.end a.first (omega arith))

pub returns : goal.returns
returns c =
    let a = c.args in
    rw (ne_eqb a.many 0 (λ e. omega arith), le-leb a.many max_run (omega arith), le-leb a.end a.first (omega arith))
