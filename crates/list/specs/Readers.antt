-- What a change list is, and where a cursor stands.
use Rattle.std.specs.Prelude.{ℕ, ◌+◌, ◌*◌, ◌≤◌, ◌<◌, ◌≡◌, List, length, take}
use Rattle.std.specs.Coded.{Coded-set, coded_ℕ, le_prop}
use Rattle.words.specs.Lists.{sum}
use Rattle.runs.specs.Changes.{pair_size, lengths, pair_at, pairs, pair_count, change_count}
use Rattle.words.specs.Blocks.{block_size, print_size}
use Rattle.pairs.specs.declared.Shape.{Shape}
use Rattle.list.specs.declared.Cursor.{Cursor}

-- the bytes are a whole list with these numbers, which follows from a good check
pub record Whole (b : List ℕ) (s : Shape) : Type 0 where
  pub pairs : s.pairs ≡ pair_count b
  pub changes : s.changes ≡ change_count b
  pub size : length b ≡ 2 + s.pairs * pair_size + s.changes * (print_size + block_size)
  pub some : (i : ℕ) → i < pair_count b → 0 < (pair_at b i).many
  pub bound : (i : ℕ) → i < pair_count b → (pair_at b i).first + (pair_at b i).many ≤ 65535

-- it has one proof at most, so it may be a ghost field
pub Whole-prop : (b : List ℕ) (s : Shape) → IsProp (Whole b s)
Whole-prop b s x y =
    λ i. record {
      pairs = Coded-set coded_ℕ _ _ x.pairs y.pairs i;
      changes = Coded-set coded_ℕ _ _ x.changes y.changes i;
      size = Coded-set coded_ℕ _ _ x.size y.size i;
      some = λ k h. le_prop (x.some k h) (y.some k h) i;
      bound = λ k h. le_prop (x.bound k h) (y.bound k h) i;
    }

-- how many changes lie before the cursor: it stands at the change with this index
unfoldable pub index_of : List ℕ → Cursor → ℕ
index_of b c = sum (lengths (take c.pair (pairs b))) + c.within

-- a cursor stands inside a pair, or past the last one
pub record Valid (b : List ℕ) (c : Cursor) : Type 0 where
  pub pair : c.pair ≤ pair_count b
  pub inside : c.pair < pair_count b → c.within < (pair_at b c.pair).many
  pub end : c.pair ≡ pair_count b → c.within ≡ 0

abbrev pub StandsAt : List ℕ → Cursor → ℕ → Type 0
StandsAt b c i = Valid b c × (index_of b c ≡ i)
