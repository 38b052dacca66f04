-- What the functions that make calls leave and answer: one call, and a list of calls.
use Rattle.std.specs.Prelude.{ℕ, ◌≡◌, List, ◌++◌, length, drop}
use Rattle.words.specs.Laying.{Stored}
use Rattle.words.specs.Lent.{Lent}
use Rattle.calls.specs.Asked.{Asked, reply_to, next_after, left_by}
use Rattle.calls.specs.Answers.{reply_bytes}
use Rattle.calls.specs.Promises.{at, answered}

-- one call on book b and pool; its answer is stored at `to` in out, and r is the offset past it
pub record Did (spare : ℕ) (b pool : List ℕ) (a : Asked) (out : List ℕ) (to : ℕ) (b' pool' out' : List ℕ) (r : ℕ) : Type 0 where
  pub next : at b' pool' ≡ next_after spare (at b pool) a
  pub answer : Stored out to (reply_bytes (reply_to spare (at b pool) a)) out' r

-- a list of calls; its answers are stored at the front of out, and r is their length
pub record DidAll (spare : ℕ) (b pool : List ℕ) (xs : List Asked) (out b' pool' out' : List ℕ) (r : ℕ) : Type 0 where
  pub end : at b' pool' ≡ left_by spare (at b pool) xs
  pub answers : out' ≡ answered spare (at b pool) xs ++ drop (length (answered spare (at b pool) xs)) out
  pub written : r ≡ length (answered spare (at b pool) xs)

-- ---- of what was lent

-- a call that looks at the spare and not at the pool
abbrev pub DidSpared : Lent (List ℕ) → Lent (List ℕ) → Asked → Lent (List ℕ) → ℕ → ℕ → Type 0
DidSpared book spare a out to r =
    (pool : List ℕ)
    → Did (length spare.entry.now) book.entry.now pool a out.entry.now to book.exit.now pool out.exit.now r

module _ (book : Lent (List ℕ)) where
  -- a call that looks at neither spare nor pool, and one that doesn't look at the spare
  abbrev pub DidAnyPool : Asked → Lent (List ℕ) → ℕ → ℕ → Type 0
  DidAnyPool a out to r =
      (spare : ℕ) (pool : List ℕ)
      → Did spare book.entry.now pool a out.entry.now to book.exit.now pool out.exit.now r

  module _ (pool : Lent (List ℕ)) where
    abbrev pub DidAnySpare : Asked → Lent (List ℕ) → ℕ → ℕ → Type 0
    DidAnySpare a out to r =
        (spare : ℕ)
        → Did spare book.entry.now pool.entry.now a out.entry.now to book.exit.now pool.exit.now
        out.exit.now r

    module _ (spare : Lent (List ℕ)) where
      abbrev room : ℕ
      room = length spare.entry.now

      abbrev pub DidLent : Asked → Lent (List ℕ) → ℕ → ℕ → Type 0
      DidLent a out to r =
          Did room book.entry.now pool.entry.now a out.entry.now to book.exit.now pool.exit.now
          out.exit.now r

      abbrev pub DidAllLent : List Asked → Lent (List ℕ) → ℕ → Type 0
      DidAllLent xs out r =
          DidAll room book.entry.now pool.entry.now xs out.entry.now book.exit.now pool.exit.now
          out.exit.now r
