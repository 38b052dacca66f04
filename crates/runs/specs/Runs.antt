-- What the writer's runs are: no two longest runs touch, by proofs/RunLaws.antt, and each is cut into pieces, by proofs/PieceLaws.antt.
use Rattle.std.specs.Prelude.{ℕ, suc, ◌+◌, ◌≤◌, ◌<◌, ◌≡◌, Bool, true, ◌&&◌, List, [], ◌∷◌, map, ltb, length, get_or}
use Rattle.words.specs.Lists.{joined}
use Rattle.runs.specs.Changes.{Pair, run, max_run}
use Rattle.runs.specs.Writer.{pieces}

-- ---- "longest": no two runs touch

-- the first pair, if there is one, starts past this LBN
abbrev pub starts_past : ℕ → List Pair → Bool
starts_past end [] = true
starts_past end (p ∷ ps) = ltb end p.first

-- between each pair and the next at least one block is left out
abbrev pub apart : List Pair → Bool
apart [] = true
apart (p ∷ ps) = starts_past (p.first + p.many) ps && apart ps

-- ---- "pieces of 64 from its start, the rest last"

-- the pieces have the run's blocks in order, and each has from 1 to max_run of them, each but the last max_run; each ends where the next
-- one starts. What is read past the last one is d
pub record InPieces (p d : Pair) : Type 0 where
  pub blocks : joined (map run (pieces p)) ≡ run p
  pub sizes : (j : ℕ) → j < length (pieces p) → (0 < (get_or (pieces p) j d).many) × ((get_or (pieces p) j d).many ≤ max_run)
  pub full : (j : ℕ) → suc j < length (pieces p) → (get_or (pieces p) j d).many ≡ max_run
  pub touch : (j : ℕ) → suc j < length (pieces p)
      → (get_or (pieces p) j d).first + (get_or (pieces p) j d).many ≡ (get_or (pieces p) (suc j) d).first
