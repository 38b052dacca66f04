-- The contracts of play: what a list of calls leaves (Promises.antt, Chain.antt) of the buffers that it was lent.
use Rattle.std.specs.Prelude.{ℕ, List, length}
use Rattle.words.specs.Lent.{Lent}
use Rattle.book.specs.Book.{Sizes}
use Rattle.calls.specs.Promises.{Played}
use Rattle.calls.specs.Chain.{PlayedFresh}

module _ (book pool spare : Lent (List ℕ)) where
  abbrev pub PlayedLent : Lent (List ℕ) → Lent (List ℕ) → Lent ℕ → ℕ → Type 0
  PlayedLent calls out written r =
      Played (length spare.entry.now) book.entry.now pool.entry.now calls.entry.now out.entry.now
      written.entry.now r book.exit.now pool.exit.now out.exit.now written.exit.now

  abbrev pub PlayedFreshLent : Sizes → Lent (List ℕ) → Lent (List ℕ) → Lent ℕ → ℕ → Type 0
  PlayedFreshLent z calls out written r =
      PlayedFresh book.entry.now pool.entry.now spare.entry.now z calls.entry.now out.entry.now r
      book.exit.now pool.exit.now out.exit.now written.exit.now
