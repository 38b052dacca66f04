-- What a map of the plain store shows: at each LBN the bytes that the cell's block holds, if any.
use Prim.Native.Nat.{ℕ, ◌≤◌, ◌<◌}
use mathlib.Core.Path.{◌≡◌, refl, sym, ap, ◌∙◌}
use mathlib.Core.Bool.{Bool, true, false}
use mathlib.Core.List.{List, []}
use mathlib.Core.Option.{Option, none, some}
use native.Mathlib.Omega.{arith}
use lib.Dec.{eqb}
use lib.ListN.{length, get_or, set, get_or-eq_default}
use lib.Seq.{get_or-set_same, get_or-set_other}
use borrow.Author.Tests.{eqb-true, eqb-false, ne_eqb}
use Rattle.words.specs.Blocks.{unmapped}
use Rattle.words.specs.Choice.{when◌then◌else◌}
use Rattle.words.specs.Lists.{or_else}
use Rattle.model.specs.Plain.{Block, free, held, bytes_of}
use Rattle.model.specs.History.{is_none, block_or}

abbrev pub held_bytes : Block → Option (List ℕ)
held_bytes free = none
held_bytes (held f b) = some b

-- what block p holds
abbrev pub shown_at : List Block → ℕ → Option (List ℕ)
shown_at bs p = held_bytes (get_or bs p free)

pub held-bytes-or : (b : Block) → bytes_of b ≡ block_or [] (held_bytes b)
held-bytes-or free = refl
held-bytes-or (held f b) = refl

pub shown-past : (bs : List Block) (p : ℕ) → length bs ≤ p → shown_at bs p ≡ none
shown-past bs p h = ap held_bytes (get_or-eq_default bs free h)

-- ---- a map and what there is at each LBN below l

-- a cell is unmapped exactly where there is nothing
abbrev pub Maps : ℕ → List ℕ → (ℕ → Option (List ℕ)) → Type 0
Maps l m s = (lbn : ℕ) → lbn < l → eqb (get_or m lbn unmapped) unmapped ≡ is_none (s lbn)

-- its block holds what there is
abbrev pub Carries : ℕ → List Block → List ℕ → (ℕ → Option (List ℕ)) → Type 0
Carries l bs m s = (lbn : ℕ) → lbn < l → shown_at bs (get_or m lbn unmapped) ≡ s lbn

-- of the same map and the same blocks there
module _ (l : ℕ) (m m' : List ℕ) (s s' : ℕ → Option (List ℕ)) (e : m ≡ m') (f : (lbn : ℕ) → s lbn ≡ s' lbn) where
  pub maps-same : Maps l m s → Maps l m' s'
  maps-same maps lbn h = rw (← e) (maps lbn h ∙ ap is_none (f lbn))

  pub carries_same : (bs : List Block) → Carries l bs m s → Carries l bs m' s'
  carries_same bs carries lbn h = rw (← e) (carries lbn h ∙ f lbn)

-- other blocks do as well, if they hold what the mapped cells' blocks held
pub carries_over : (l : ℕ) (bs bs' : List Block) (m : List ℕ) (s : ℕ → Option (List ℕ)) → length bs' ≤ unmapped
    → Maps l m s → Carries l bs m s
    → ((lbn : ℕ) (b : List ℕ) → lbn < l → s lbn ≡ some b → shown_at bs (get_or m lbn unmapped) ≡ some b
    → shown_at bs' (get_or m lbn unmapped) ≡ some b)
    → Carries l bs' m s
carries_over l bs bs' m s room maps carries keeps lbn h = go (s lbn) refl
  where
    go : (o : Option (List ℕ)) → s lbn ≡ o → shown_at bs' (get_or m lbn unmapped) ≡ o
    go none e =
        let u : get_or m lbn unmapped ≡ unmapped = eqb-true (get_or m lbn unmapped) unmapped (maps lbn h ∙ ap is_none e) in
        rw u (shown-past bs' unmapped room)
    go (some b) e = keeps lbn b h e (carries lbn h ∙ e)

-- ---- one cell set

-- b at LBN i, elsewhere as before
abbrev pub changed : ℕ → List ℕ → (ℕ → Option (List ℕ)) → ℕ → Option (List ℕ)
changed i b s lbn = or_else (when eqb i lbn then some b else none) (s lbn)

cell_set : (m : List ℕ) (i p lbn : ℕ) → lbn < length m → get_or (set m i p) lbn unmapped ≡ (when eqb i lbn then p else get_or m lbn unmapped)
cell_set m i p lbn h = go (eqb i lbn) refl
  where
    go : (t : Bool) → eqb i lbn ≡ t → get_or (set m i p) lbn unmapped ≡ (when t then p else get_or m lbn unmapped)
    go true e = rw (eqb-true i lbn e) (get_or-set_same m lbn p unmapped h)
    go false e = get_or-set_other m i lbn p unmapped (λ q. eqb-false i lbn e (sym q))

module _ (l : ℕ) (m : List ℕ) (s : ℕ → Option (List ℕ)) (i p : ℕ) (b : List ℕ) (wide : length m ≡ l) where
  pub maps-set : p < unmapped → Maps l m s → Maps l (set m i p) (changed i b s)
  maps-set h maps lbn k = rw (cell_set m i p lbn (omega arith)) (go (eqb i lbn))
    where
      go : (t : Bool) → eqb (when t then p else get_or m lbn unmapped) unmapped ≡ is_none (or_else (when t then some b else none) (s lbn))
      go true = ne_eqb p unmapped (λ e. omega arith)
      go false = maps lbn k

  pub carries-set : (bs : List Block) → shown_at bs p ≡ some b → Carries l bs m s → Carries l bs (set m i p) (changed i b s)
  carries-set bs shows carries lbn k = rw (cell_set m i p lbn (omega arith)) (go (eqb i lbn))
    where
      go : (t : Bool) → shown_at bs (when t then p else get_or m lbn unmapped) ≡ or_else (when t then some b else none) (s lbn)
      go true = shows
      go false = carries lbn k
