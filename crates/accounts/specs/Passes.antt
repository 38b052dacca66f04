-- What the passes over maps and entries leave in the tables that they are lent; r is what a pass returns.
use Rattle.std.specs.Prelude.{ℕ, ◌≡◌, Bool, List}
use Rattle.words.specs.Lent.{Lent}
use Rattle.book.specs.Book.{Book}
use Rattle.book.specs.Layout.{told}
use Rattle.accounts.specs.Entries.{entry_matches, entries_match}
use Rattle.accounts.specs.MapsTaken.{RowTaken, MapsTaken}

module _ (book : Lent (List ℕ)) where
  abbrev x : Book
  x = told book.entry

  module _ (cells counts : Lent (List ℕ)) where
    abbrev pub TakesRow : ℕ → Bool → Type 0
    TakesRow v r = RowTaken x cells.entry.now v counts.entry.now r counts.exit.now

    abbrev pub TakesMaps : Bool → Type 0
    TakesMaps r = MapsTaken x cells.entry.now r counts.exit.now

  module _ (counts expiries : Lent (List ℕ)) where
    abbrev pub MatchesEntry : ℕ → Bool → Type 0
    MatchesEntry p r = r ≡ entry_matches x.entries counts.entry.now expiries.entry.now p

    abbrev pub MatchesEntries : Bool → Type 0
    MatchesEntries r = r ≡ entries_match x.entries counts.entry.now expiries.entry.now x.sizes.n
