-- Laws of specs/Days.antt.
-- The rule of days in one pass: with each volume's last day + 1 (0 for none), which volumes are retired, and the last slot's day, no slot is
-- looked at twice.
use Prim.Native.Nat.{ℕ, ◌+◌, ◌≤◌, ◌<◌}
use mathlib.Core.Path.{◌≡◌, refl, sym, ◌∙◌}
use mathlib.Core.Bool.{Bool, true, false, not, ◌&&◌, ◌||◌}
use mathlib.Core.List.{List, [], ◌∷◌}
use native.Mathlib.Omega.{arith}
use lib.Dec.{leb, ltb, eqb}
use lib.ListN.{length, get_or, set, length-set, get_or-replicate}
use lib.Seq.{get_or-set_same, get_or-set_other}
use borrow.Author.Tests.{leb-true, ltb-true, ltb-false, le-leb, lt-leb, eqb-true, eqb-false, not-true}
use Rattle.words.proofs.All.{all-and, all_same}
use Rattle.words.proofs.Places.{all_weaker}
use Rattle.words.proofs.ChoiceLaws.{and_true, and_false, and_yes, and_assoc}
use Rattle.words.specs.Lists.{all}
use Rattle.book.specs.Book.{volumes, Slot}
use Rattle.book.specs.Form.{later_ok, days_ok}
use Rattle.slots.specs.Days.{day_ok, days_from, no_lasts, none_gone}

abbrev pub volume_ok : Slot → Bool
volume_ok t = ltb t.volume volumes

-- ---- the pass says what the rule says

-- what is known of a slot that may follow here
pub record DayParts (lasts : List ℕ) (gone : List Bool) (prev : ℕ) (t : Slot) : Type 0 where
  pub low : prev ≤ t.day
  pub last : get_or lasts t.volume 0 ≤ t.day
  pub living : get_or gone t.volume false ≡ false

pub day-parts : (lasts : List ℕ) (gone : List Bool) (prev : ℕ) (t : Slot) → day_ok lasts gone prev t ≡ true → DayParts lasts gone prev t
unfolding day_ok
day-parts lasts gone prev t e =
    let last = leb (get_or lasts t.volume 0) t.day in
    let dead = get_or gone t.volume false in
    let p = and_true (leb prev t.day) (last && not dead) e in
    let r = and_true last (not dead) p.1 in
    record {
      low = leb-true prev t.day p.0;
      last = leb-true (get_or lasts t.volume 0) t.day r.0;
      living = not-true dead r.1;
    }

module _ (lasts : List ℕ) (gone : List Bool) (prev : ℕ) (t : Slot) (inside : t.volume < length lasts) (within : t.volume < length gone)
    (here : DayParts lasts gone prev t) where
  abbrev days : List ℕ
  days = set lasts t.volume (t.day + 1)

  abbrev dead : List Bool
  dead = set gone t.volume t.retire

  -- the tables of a slot u of t's volume, and of one of another
  new : (u : Slot) → t.volume ≡ u.volume → (get_or days u.volume 0 ≡ t.day + 1) × (get_or dead u.volume false ≡ t.retire)
  new u v =
      rw (← v) (get_or-set_same lasts t.volume (t.day + 1) 0 inside, get_or-set_same gone t.volume t.retire false within)

  old : (u : Slot) → (t.volume ≡ u.volume → ⊥)
      → (get_or days u.volume 0 ≡ get_or lasts u.volume 0) × (get_or dead u.volume false ≡ get_or gone u.volume false)
  old u v =
      let other : u.volume ≡ t.volume → ⊥ = λ e. v (sym e) in (
        get_or-set_other lasts t.volume u.volume (t.day + 1) 0 other,
        get_or-set_other gone t.volume u.volume t.retire false other,
      )

  same-volume : (u : Slot) → t.volume ≡ u.volume → (a : Bool) → ltb t.day u.day ≡ a
      → day_ok days dead t.day u ≡ (day_ok lasts gone prev u && (leb t.day u.day && (a && not t.retire)))
  unfolding day_ok
  same-volume u v true e =
      let h = ltb-true t.day u.day e in
      let low = here.low in
      let last : get_or lasts u.volume 0 ≤ t.day = rw v at here.last in
      let living : get_or gone u.volume false ≡ false = rw v at here.living in
      rw (
        (new u v).0,
        (new u v).1,
        living,
        le-leb t.day u.day (omega arith),
        le-leb (t.day + 1) u.day (omega arith),
        le-leb prev u.day (omega arith),
        le-leb (get_or lasts u.volume 0) u.day (omega arith),
      )
  same-volume u v false e =
      let h = ltb-false t.day u.day e in
      simp ((new u v).0, lt-leb (t.day + 1) u.day (omega arith), and_false)

  other-volume : (u : Slot) → (t.volume ≡ u.volume → ⊥) → (a : Bool) → leb t.day u.day ≡ a
      → (a && (leb (get_or days u.volume 0) u.day && not (get_or dead u.volume false))) ≡ (day_ok lasts gone prev u && (a && true))
  unfolding day_ok
  other-volume u v true e =
      let h = leb-true t.day u.day e in
      let low = here.low in
      rw (
        (old u v).0,
        (old u v).1,
        le-leb prev u.day (omega arith),
        and_yes (leb (get_or lasts u.volume 0) u.day && not (get_or gone u.volume false)),
      )
  other-volume u v false e = simp and_false

  -- after t, a slot u may follow exactly when it might before and t lets it
  step : (u : Slot) → day_ok days dead t.day u ≡ (day_ok lasts gone prev u && later_ok t u)
  unfolding day_ok later_ok
  step u = go (eqb t.volume u.volume) refl
    where
      go : (s : Bool) → eqb t.volume u.volume ≡ s
          → day_ok days dead t.day u
          ≡ (day_ok lasts gone prev u && (leb t.day u.day && (not s || (ltb t.day u.day && not t.retire))))
      go true e = same-volume u (eqb-true t.volume u.volume e) (ltb t.day u.day) refl
      go false e = other-volume u (eqb-false t.volume u.volume e) (leb t.day u.day) refl

-- what is left of the pass: what may follow here, and the rule
from-here : (ts : List Slot) (lasts : List ℕ) (gone : List Bool) (prev : ℕ) → length lasts ≡ volumes → length gone ≡ volumes
    → all volume_ok ts ≡ true → days_from lasts gone prev ts ≡ (all (day_ok lasts gone prev) ts && days_ok ts)
from-here [] lasts gone prev n m v = refl
from-here (t ∷ ts) lasts gone prev n m v =
    let w = and_true (volume_ok t) (all volume_ok ts) v in
    go (ltb-true t.volume volumes w.0)
    (from-here ts days' dead' t.day (length-set lasts t.volume (t.day + 1) ∙ n) (length-set gone t.volume t.retire ∙ m) w.1)
    (day_ok lasts gone prev t) refl
  where
    days' : List ℕ
    days' = set lasts t.volume (t.day + 1)

    dead' : List Bool
    dead' = set gone t.volume t.retire

    rest : Bool
    rest = days_from days' dead' t.day ts

    go : t.volume < volumes → rest ≡ (all (day_ok days' dead' t.day) ts && days_ok ts)
        → (s : Bool) → day_ok lasts gone prev t ≡ s
        → (s && rest) ≡ ((s && all (day_ok lasts gone prev) ts) && (all (later_ok t) ts && days_ok ts))
    go i ih true e =
        let s = step lasts gone prev t (omega arith) (omega arith) (day-parts lasts gone prev t e) in
        let a = all_same (day_ok days' dead' t.day) (λ u. day_ok lasts gone prev u && later_ok t u) ts s in
        ih ∙ rw (a, all-and (day_ok lasts gone prev) (later_ok t) ts)
        (and_assoc (all (day_ok lasts gone prev) ts) (all (later_ok t) ts) (days_ok ts))
    go i ih false e = refl

pub days-pass : (ts : List Slot) → all volume_ok ts ≡ true → days_from no_lasts none_gone 0 ts ≡ days_ok ts
unfolding day_ok
days-pass ts v = from-here ts no_lasts none_gone 0 refl refl v ∙ rw (all_weaker volume_ok (day_ok no_lasts none_gone 0) ts first v)
  where
    first : (t : Slot) → volume_ok t ≡ true → day_ok no_lasts none_gone 0 t ≡ true
    first t e =
        let h = ltb-true t.volume volumes e in
        rw (
          get_or-replicate {A = ℕ} volumes t.volume 0 0 h,
          get_or-replicate volumes t.volume false false h,
          le-leb 0 t.day (omega arith),
        )
