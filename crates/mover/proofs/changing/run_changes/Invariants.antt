-- The loop's invariant: the whole run is the run of the changes that are left, from the work so far.
use mathlib.Core.Path.{◌≡◌}
use lib.ListN.{drop}
use Rattle.runs.specs.Changes.{changes}
use Rattle.list.specs.Readers.{index_of, Valid}
use Rattle.book.specs.Layout.{book_of, Holds}
use Rattle.model.specs.Backup.{run_changes}
use Rattle.finder.specs.Indexed.{Indexed}
use Rattle.mover.specs.Stepping.{no_tally}
use Rattle.placer.specs.Working.{work_of, Standing}
use Rattle.mover.proofs.changing.run_changes.Given as goal

abbrev pub invariant-loop-i : goal.invariant-loop-i
invariant-loop-i l =
    Holds l.work
    × Standing (book_of l.book) (book_of l.work) l.taker l.t l.i l.i
    × Valid l.list.bytes.now l.at
    × (index_of l.list.bytes.now l.at ≡ l.i)
    × (run_changes l.v l.until (changes l.list.bytes.now) (work_of (book_of l.book) l.pool l.list.bytes.now (book_of l.initial.work) l.initial.taker no_tally)
    ≡ run_changes l.v l.until (drop l.i (changes l.list.bytes.now)) (work_of (book_of l.book) l.pool l.list.bytes.now (book_of l.work) l.taker l.t))
    × Indexed (book_of l.work).entries l.index.heads l.index.nexts
