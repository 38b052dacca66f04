-- What days decide, in numbers (document 02, K4, "kept"; document 01, numbers 6 and 7).
use Prim.Native.Nat.{ℕ, zero, suc, ◌+◌, ◌≤◌, ◌<◌}
use mathlib.Core.Path.{◌≡◌, refl}
use mathlib.Core.Logic.{◌↔◌}
use mathlib.Core.Bool.{true, false, ◌||◌}
use mathlib.Core.List.{List, [], ◌∷◌}
use native.Mathlib.Omega.{arith}
use lib.ListN.{length, get_or, drop, drop_of_length-le}
use lib.Dec.{ltb, eqb}
use lib.Seq.{drop-cons}
use borrow.Author.Tests.{leb-true, leb-false, ltb-true, ltb-false, eqb-false, le-ltb, ne_eqb}
use Rattle.words.specs.Lists.{last_of}
use Rattle.words.proofs.Tests.{or_neither, surely, surely_not}
use Rattle.model.specs.Days.{kept_by, kept, bad_day, not_after, bad_retention}

-- "backup k is kept at day D if it is the newest"
pub kept_newest : (ds : List ℕ) (r d k : ℕ) → length ds ≤ k → kept ds r d k ≡ true
unfolding kept
kept_newest ds r d zero h = refl
kept_newest ds r d (suc k) h = rw (drop_of_length-le ds {i = suc k} h)

-- .. "or its own day plus retention is ≥ D": t is its own day, and others follow
pub kept-own : (t u : ℕ) (us : List ℕ) (r d : ℕ) → (kept_by t (u ∷ us) r d ≡ true) ↔ (d ≤ t + r)
kept-own t u us r d = (
  λ e. omega (arith, leb-true, ltb-true),
  λ h. surely (kept_by t (u ∷ us) r d) (λ e. omega (arith, leb-false, ltb-false)),
)

pub kept_older : (ds : List ℕ) (r d k : ℕ) → suc k < length ds → (kept ds r d (suc k) ≡ true) ↔ (d ≤ get_or ds k 0 + r)
unfolding kept
kept_older ds r d k h =
    rw (drop-cons ds (suc k) 0 h) (kept-own (get_or ds k 0) (get_or ds (suc k) 0) (drop (suc (suc k)) ds) r d)

-- number 7: "The day is above 60,000, below the header's"
pub good-day : (now t : ℕ) → (bad_day now t ≡ false) ↔ ((now ≤ t) × (t ≤ 60000))
unfolding bad_day
good-day now t = within now 60000
  where
    within : (low high : ℕ) → ((ltb high t || ltb t low) ≡ false) ↔ ((low ≤ t) × (t ≤ high))
    within low high = (
      λ e. let w = or_neither (ltb high t) (ltb t low) e in (ltb-false t low w.1, ltb-false high t w.0),
      λ g. rw (le-ltb high t g.1, le-ltb t low g.0),
    )

-- .. "or for backup not above the volume's last backup"
pub first-backup : (t : ℕ) → not_after [] t ≡ false
unfolding not_after
first-backup t = refl

pub later-backup : (ds : List ℕ) (t : ℕ) → 0 < length ds → (not_after ds t ≡ false) ↔ (last_of 0 ds < t)
unfolding not_after
later-backup ds t h =
    rw (ne_eqb (length ds) 0 (λ e. omega arith))
    (λ e. omega (arith, leb-false, ltb-false), λ g. surely_not _ (λ e. omega (arith, leb-true, ltb-true)))

-- so a backup's day isn't before the volume's last one, 0 standing for none
pub last-before : (ds : List ℕ) (t : ℕ) → not_after ds t ≡ false → last_of 0 ds ≤ t
last-before [] t e = omega arith
last-before (d ∷ ds) t e = let z = (later-backup (d ∷ ds) t (omega arith)).0 e in omega arith

-- number 6: "The retention is 0 or above 5,000"
pub good-retention : (r : ℕ) → (bad_retention r ≡ false) ↔ ((1 ≤ r) × (r ≤ 5000))
unfolding bad_retention
good-retention r = within 5000
  where
    within : (high : ℕ) → ((eqb r 0 || ltb high r) ≡ false) ↔ ((1 ≤ r) × (r ≤ high))
    within high = (
      λ e. let w = or_neither (eqb r 0) (ltb high r) e in (let z = eqb-false r 0 w.0 in omega arith, ltb-false high r w.1),
      λ g. rw (ne_eqb r 0 (λ e. omega arith), le-ltb high r g.1),
    )
