-- Pass 2 of a backup: block after block, those that its changes took are written to the pool.
use Rattle.std.specs.Prelude.{ℕ, List, get_or}
use Rattle.words.specs.Choice.{when◌then◌else◌}
use Rattle.runs.specs.Changes.{change_at}
use Rattle.book.specs.Book.{Entry, entry_at}
use Rattle.model.specs.Pool.{with_block}

-- the pool with block p written, where it was free and is held now
unfoldable pub stored_block : List Entry → List Entry → List ℕ → List ℕ → List ℕ → ℕ → List ℕ
stored_block old new taker list pool p =
    when (entry_at old p).held then pool
    else when (entry_at new p).held then with_block pool p (change_at list (get_or taker p 0)).block else pool
