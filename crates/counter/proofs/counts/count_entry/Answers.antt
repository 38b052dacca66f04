-- `count_entry`: a block that is free, waiting, or named.
use mathlib.Core.Bool.{not}
use mathlib.Core.Path.{ap}
use borrow.Author.Tests.{not-true, not-false}
use Rattle.counter.proofs.CountLaws.{counted-free, counted-waiting, counted-named}
use Rattle.counter.proofs.counts.count_entry.Goals as goal

pub returns-then-not-held : goal.returns-then-not-held
returns-then-not-held c =
    let a = c.args in
    counted-free a.t a.held a.count (not-true a.held (ap not c.if-not-held.true))

pub returns-then-count-eq0 : goal.returns-then-count-eq0
returns-then-count-eq0 c =
    let a = c.args in
    counted-waiting a.t a.held a.count (not-false a.held (ap not c.if-not-held.false)) c.if-count-eq0.true

pub returns : goal.returns
returns c =
    let a = c.args in
    counted-named a.t a.held a.count (not-false a.held (ap not c.if-not-held.false)) c.if-count-eq0.false
