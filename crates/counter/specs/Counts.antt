-- The counts of the entries as the code has them, one entry after the other.
use Rattle.std.specs.Prelude.{ℕ, ◌+◌, ◌*◌, ◌≤◌, Bool, not, ◌&&◌, List, eqb}
use Rattle.words.specs.Lists.{bit}
use Rattle.book.specs.Book.{Entry}
use Rattle.counter.specs.Sums.{held, free, waiting, references}
use Rattle.counter.specs.declared.counts.Counts.{Counts}

-- the four numbers of these entries
unfoldable pub counts_of : List Entry → Counts
counts_of es = record { held = held es; free = free es; waiting = waiting es; references = references es }

-- with one entry more, of which `h` says whether it is held
unfoldable pub counted : Counts → Bool → ℕ → Counts
counted t h c = record {
  held = t.held + bit h;
  free = t.free + bit (not h);
  waiting = t.waiting + bit (h && eqb c 0);
  references = t.references + c;
}

-- what n entries with counts of two bytes can come to at most
pub record Few (n : ℕ) (t : Counts) : Type 0 where
  pub held : t.held ≤ n
  pub free : t.free ≤ n
  pub waiting : t.waiting ≤ n
  pub references : t.references ≤ n * 65535
