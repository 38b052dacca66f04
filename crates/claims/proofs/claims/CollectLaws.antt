-- When collect is accepted, what it does to each entry, in numbers, and what its answer counts: of every book, in form or not.
use Prim.Native.Nat.{ℕ, suc, ◌+◌, ◌≤◌, ◌<◌}
use mathlib.Core.Path.{◌≡◌, refl, sym, ◌∙◌}
use mathlib.Core.Logic.{◌↔◌}
use mathlib.Core.Bool.{Bool, true, false}
use mathlib.Core.List.{List, [], ◌∷◌, map}
use native.Mathlib.Omega.{arith}
use lib.ListN.{length}
use borrow.Author.Tests.{eqb-true, eq-eqb, leb-true, leb-false, ltb-true, ltb-false}
use Rattle.words.specs.Choice.{when◌then◌else◌}
use Rattle.words.proofs.ChoiceLaws.{and_true, not_both}
use Rattle.words.specs.Lists.{count_of}
use Rattle.words.proofs.Places.{get_d_map}
use Rattle.words.proofs.Tests.{surely}
use Rattle.book.specs.Book.{Entry, Book, entry_at, free_entry, no_print}
use Rattle.book.specs.Next.{with_day, with_entries, made_free}
use Rattle.model.specs.Days.{bad_day}
use Rattle.claims.proofs.kept.DayLaws.{good-day}
use Rattle.model.specs.Collect.{collect_number, is_over, swept_entry, collected}
use Rattle.claims.specs.Claims.{held_in}

-- ---- number 7

pub collect-days : (x : Book) (t : ℕ) → (collect_number x t ≡ 0) ↔ ((x.day ≤ t) × (t ≤ 60000))
unfolding collect_number
collect-days x t = (λ e. (good-day x.day t).0 (go (bad_day x.day t) e), λ g. rw ((good-day x.day t).1 g))
  where
    go : (a : Bool) → ◌≡◌ {A = ℕ} (when a then 7 else 0) 0 → a ≡ false
    go true e = absurd (omega arith)
    go false e = refl

-- ---- one entry

-- "each held block with count 0 and expiry < T"
over_iff : (t : ℕ) (e : Entry) → e.held ≡ true → (is_over t e ≡ true) ↔ ((e.count ≡ 0) × (e.expiry < t))
unfolding is_over
over_iff t e h = rw h (
  λ o. let w = and_true _ _ o in (eqb-true e.count 0 w.0, omega (arith, ltb-true, leb-true)),
  λ g. rw (eq-eqb e.count 0 g.0) (surely _ (λ n. omega (arith, ltb-false, leb-false))),
)

pub over-was-held : (t : ℕ) (e : Entry) → is_over t e ≡ true → e.held ≡ true
unfolding is_over
over-was-held t e o = (and_true _ _ (and_true _ _ o).0).0

after_iff : (t : ℕ) (e : Entry) → e.held ≡ true → ((swept_entry t e).held ≡ false) ↔ ((e.count ≡ 0) × (e.expiry < t))
unfolding swept_entry made_free
after_iff t e h = go (is_over t e) refl
  where
    go : (o : Bool) → is_over t e ≡ o → ((when o then made_free e else e).held ≡ false) ↔ ((e.count ≡ 0) × (e.expiry < t))
    go true f = (λ z. (over_iff t e h).0 f, λ g. refl)
    go false f = (λ z. absurd (not_both e.held h z), λ g. absurd (not_both (is_over t e) ((over_iff t e h).1 g) f))

-- ---- every entry of the book

-- what becomes of an entry that is freed: "free with a zero fingerprint and its expiry kept"
pub record Freed (e e' : Entry) : Type 0 where
  pub print : e'.print ≡ no_print
  pub expiry : e'.expiry ≡ e.expiry
  pub count : e'.count ≡ e.count

freed-entry : (t : ℕ) (e : Entry) → e.held ≡ true → (swept_entry t e).held ≡ false → Freed e (swept_entry t e)
unfolding swept_entry made_free
freed-entry t e h z = go (is_over t e) z
  where
    go : (o : Bool) → (when o then made_free e else e).held ≡ false → Freed e (when o then made_free e else e)
    go true z = record { print = refl; expiry = refl; count = refl }
    go false z = absurd (not_both e.held h z)

same-entry : (t : ℕ) (e : Entry) → (swept_entry t e).held ≡ e.held → swept_entry t e ≡ e
unfolding swept_entry made_free
same-entry t e z = go (is_over t e) refl z
  where
    go : (o : Bool) → is_over t e ≡ o → (when o then made_free e else e).held ≡ e.held → (when o then made_free e else e) ≡ e
    go true f z = absurd (not_both e.held (over-was-held t e f) (sym z))
    go false f z = refl

module _ (x : Book) (t p : ℕ) (h : p < length x.entries) where
  abbrev was : Entry
  was = entry_at x.entries p

  abbrev is : Entry
  is = entry_at (collected x t).book.entries p

  entry-after : is ≡ swept_entry t was
  unfolding collected with_day with_entries
  entry-after = get_d_map (swept_entry t) x.entries p free_entry free_entry h

  -- "each held block with count 0 and expiry < T becomes free", and no other
  pub collect-frees : was.held ≡ true → (is.held ≡ false) ↔ ((was.count ≡ 0) × (was.expiry < t))
  collect-frees k = rw entry-after (after_iff t was k)

  pub collect_clears : was.held ≡ true → is.held ≡ false → Freed was is
  collect_clears k z = rw entry-after (freed-entry t was k (rw entry-after at z))

  pub collect-leaves : is.held ≡ was.held → is ≡ was
  collect-leaves z = entry-after ∙ same-entry t was (rw entry-after at z)

-- ---- "The answer is how many"

freed-some : (t : ℕ) (es : List Entry) → count_of (is_over t) es + held_in (map (swept_entry t) es) ≡ held_in es
unfolding swept_entry made_free
freed-some t [] = refl
freed-some t (e ∷ es) = go (is_over t e) e.held refl refl (freed-some t es)
  where
    go : (o h : Bool) → is_over t e ≡ o → e.held ≡ h → count_of (is_over t) es + held_in (map (swept_entry t) es) ≡ held_in es
        → (when o then suc (count_of (is_over t) es) else count_of (is_over t) es)
        + held_in ((when o then made_free e else e) ∷ map (swept_entry t) es)
        ≡ (when h then suc (held_in es) else held_in es)
    go true true f k ih = omega arith
    go true false f k ih = absurd (not_both e.held (over-was-held t e f) k)
    go false true f k ih = rw k (omega arith)
    go false false f k ih = rw k ih

pub freed-counted : (x : Book) (t : ℕ) → (collected x t).freed + held_in (collected x t).book.entries ≡ held_in x.entries
unfolding collected with_day with_entries
freed-counted x t = freed-some t x.entries
