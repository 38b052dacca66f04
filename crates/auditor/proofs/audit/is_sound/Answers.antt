-- `auditor::audit::is_sound` meets its contract: what each pass decides on its way out.
use Rattle.auditor.proofs.WaysOut.{journal-no, maps-no, entries-no, prints-last}
use Rattle.auditor.proofs.audit.is_sound.Goals as goal

pub returns-then-not-take_journal : goal.returns-then-not-take_journal
returns-then-not-take_journal c =
    journal-no c.requires c.take_journal.ensures c.if-not-take_journal.true

pub returns-then-not-maps_match : goal.returns-then-not-maps_match
returns-then-not-maps_match c =
    maps-no c.requires c.take_journal.ensures c.if-not-take_journal.false
    c.maps_match.ensures c.if-not-maps_match.true

pub returns-then-not-entries_match : goal.returns-then-not-entries_match
returns-then-not-entries_match c =
    entries-no c.requires c.take_journal.ensures c.if-not-take_journal.false
    c.maps_match.ensures c.if-not-maps_match.false
    c.entries_match.ensures c.if-not-entries_match.true

pub returns : goal.returns
returns c =
    prints-last c.requires c.take_journal.ensures c.if-not-take_journal.false
    c.maps_match.ensures c.if-not-maps_match.false
    c.entries_match.ensures c.if-not-entries_match.false c.prints_sound.ensures
