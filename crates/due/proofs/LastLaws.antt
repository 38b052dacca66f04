-- Laws of specs/Lasts.antt.
-- Each volume's last day before a slot: none at the start, one new day a slot, and no day above the book's.
use Prim.Native.Nat.{ℕ, zero, suc, ◌+◌, ◌≤◌, ◌<◌}
use mathlib.Core.Path.{◌≡◌, refl, ◌∙◌}
use mathlib.Core.Bool.{Bool, true, false}
use mathlib.Core.List.{List}
use native.Mathlib.Numerals.{add-one}
use native.Mathlib.Omega.{arith}
use lib.Dec.{eqb}
use lib.ListN.{length, get_or, set, replicate, length-set}
use Rattle.words.specs.Choice.{when◌then◌else◌}
use Rattle.words.proofs.Places.{get_or_replicated}
use Rattle.words.proofs.SetLaws.{get_d_set}
use Rattle.words.proofs.Tests.{eqb_swap}
use Rattle.book.specs.Book.{volumes, Book, slot_at, retention_of}
use Rattle.book.specs.FormFacts.{BookParts}
use Rattle.book.proofs.Conditions.{slot_in}
use Rattle.model.specs.JournalAt.{backup_at, last_before}
use Rattle.claims.proofs.kept.JournalAtLaws.{volume-at, since_at, last-next}
use Rattle.due.specs.Lasts.{LastsAre, due_in}

pub lasts-start : (x : Book) → LastsAre x 0 (replicate volumes 0)
lasts-start x = record { long = refl; at = λ v h. get_or_replicated {A = ℕ} volumes 0 v }

-- no last day is above the book's
last-low : (x : Book) → BookParts x → (v q : ℕ) → q ≤ length x.slots → last_before x q v ≤ x.day
last-low x p v zero h = omega arith
last-low x p v (suc q) h =
    rw (← (add-one q), last-next x q v (omega arith)) (go (eqb (slot_at x.slots q).volume v) (last-low x p v q (omega arith)))
  where
    go : (t : Bool) → last_before x q v ≤ x.day → (when t then (slot_at x.slots q).day else last_before x q v) ≤ x.day
    go true l = (slot_in x p q (omega arith)).1
    go false l = l

-- slot q, with its volume in v and its day in d
module _ (x : Book) (q : ℕ) (h : q < length x.slots) {a : List ℕ} (l : LastsAre x q a) {v : ℕ}
    (e : v ≡ (slot_at x.slots q).volume) (k : v < volumes) where
  pub last-bound : BookParts x → get_or a v 0 ≤ 60000
  last-bound p = omega (arith, l.at v k, last-low x p v q (omega arith), p.day)

  -- the last day in u, the retention in r
  pub due-is : {u r : ℕ} → u ≡ get_or a v 0 → r ≡ retention_of x v
      → u + r ≡ due_in x (backup_at x q)
  due-is f g = rw (f, g, l.at v k, since_at x q h, volume-at x q, e)

  pub lasts-next : {d : ℕ} → d ≡ (slot_at x.slots q).day → LastsAre x (q + 1) (set a v d)
  lasts-next {d} f =
      record {
        long = length-set a v d ∙ l.long;
        at = λ w m. get_d_set a v w d 0 (omega (arith, l.long))
            ∙ rw (last-next x q w h, ← e, ← f, eqb_swap w v) (go w m (eqb v w));
      }
    where
      go : (w : ℕ) → w < volumes → (t : Bool) → (when t then d else get_or a w 0) ≡ (when t then d else last_before x q w)
      go w m true = refl
      go w m false = l.at w m
