-- Laws of specs/First.antt.
-- The lowest place from a place on where a test holds.
use Prim.Native.Nat.{ℕ, suc, ◌+◌, ◌-◌, ◌≤◌, ◌<◌}
use mathlib.Core.Path.{◌≡◌, refl, sym, ap, ◌∙◌}
use mathlib.Core.Bool.{Bool, true, false, not, ◌||◌}
use mathlib.Core.List.{List, [], ◌∷◌}
use mathlib.Core.Option.{Option, none, some}
use native.Mathlib.Decide.{dec_lt}
use native.Mathlib.Omega.{arith}
use lib.Dec.{eqb}
use lib.ListN.{length, get_or, drop, length-drop}
use lib.Seq.{get_or-drop}
use borrow.Author.Tests.{eq-eqb, ne_eqb}
use Rattle.words.specs.Choice.{when◌then◌else◌}
use Rattle.words.proofs.ChoiceLaws.{not_both}
use Rattle.words.proofs.FoundPlaces.{place_found, place-first, place_none}
use Rattle.words.specs.Lists.{some_of, place_from}
use Rattle.finder.specs.First.{place_or, first_from}

abbrev found : Option ℕ → Bool
found none = false
found (some p) = true

-- what r is then
pub record First {A : Type 0} (f : A → Bool) (xs : List A) (d : A) (a r : ℕ) : Type 0 where
  pub above : a ≤ r
  pub within : r ≤ length xs
  pub skips : (q : ℕ) → a ≤ q → q < r → f (get_or xs q d) ≡ false
  pub passes : r < length xs → f (get_or xs r d) ≡ true

module _ {A : Type 0} (f : A → Bool) (xs : List A) (d : A) where
  pub first-is : (a : ℕ) → a ≤ length xs → First f xs d a (first_from f xs a)
  unfolding first_from
  first-is a h = go (place_from a f (drop a xs)) refl
    where
      past : (q : ℕ) → a ≤ q → f (get_or (drop a xs) (q - a) d) ≡ f (get_or xs q d)
      past q l = let e : a + (q - a) ≡ q = omega arith in ap f (get_or-drop a xs (q - a) d ∙ rw e)

      go : (o : Option ℕ) → place_from a f (drop a xs) ≡ o → First f xs d a (place_or (length xs) o)
      go none e = record {
        above = h;
        within = omega arith;
        skips = λ q l m. sym (past q l) ∙ place_none f d a (drop a xs) e (q - a) (omega (arith, length-drop a xs));
        passes = λ l. absurd (omega arith);
      }
      go (some p) e =
          let r = place_found f d a (drop a xs) p e in
          record {
            above = omega (arith, r.place);
            within = omega (arith, r.place, r.inside, length-drop a xs);
            skips = λ q l m. sym (past q l) ∙ place-first f d a (drop a xs) p e (q - a) (omega arith);
            passes = λ l. let k : p - a ≡ r.index = omega (arith, r.place) in sym (past p (omega (arith, r.place))) ∙ rw k r.passes;
          }

  pub first-only : {a r s : ℕ} → First f xs d a r → First f xs d a s → r ≡ s
  first-only {a} {r} {s} m n = go (dec_lt r s) (dec_lt s r)
    where
      go : Dec (r < s) → Dec (s < r) → r ≡ s
      go (yes l) t = absurd (not_both (f (get_or xs r d)) (m.passes (omega (arith, n.within))) (n.skips r m.above l))
      go (no l) (yes k) = absurd (not_both (f (get_or xs s d)) (n.passes (omega (arith, m.within))) (m.skips s n.above k))
      go (no l) (no k) = omega arith

  pub first-at : {a r : ℕ} → First f xs d a r → first_from f xs a ≡ r
  first-at {a} {r} m = first-only (first-is a (omega (arith, m.above, m.within))) m

  -- a place that fails is passed over, and so is a row of them; one that passes is the first
  pub first-skip : (a b : ℕ) → a ≤ b → b ≤ length xs → ((q : ℕ) → a ≤ q → q < b → f (get_or xs q d) ≡ false)
      → first_from f xs a ≡ first_from f xs b
  first-skip a b h l s =
      let m = first-is b l in
      first-at (record {
        above = omega (arith, m.above);
        within = m.within;
        skips = λ q i k. go q i (m.skips q) k (dec_lt q b);
        passes = m.passes;
      })
    where
      go : (q : ℕ) → a ≤ q → (b ≤ q → q < first_from f xs b → f (get_or xs q d) ≡ false) → q < first_from f xs b
          → Dec (q < b) → f (get_or xs q d) ≡ false
      go q i t k (yes e) = s q i e
      go q i t k (no e) = t (omega arith) k

  pub first_past : (a : ℕ) → a < length xs → f (get_or xs a d) ≡ false → first_from f xs a ≡ first_from f xs (a + 1)
  first_past a l k = first-skip a (a + 1) (omega arith) (omega arith) (λ q i j. let z : q ≡ a = omega arith in rw z k)

  pub first-here : (a : ℕ) → a < length xs → f (get_or xs a d) ≡ true → first_from f xs a ≡ a
  first-here a l k = first-at (record { above = omega arith; within = omega arith; skips = λ q i j. absurd (omega arith); passes = λ i. k })

  pub first-end : first_from f xs (length xs) ≡ length xs
  first-end = let m = first-is (length xs) (omega arith) in omega (arith, m.above, m.within)

  -- it is the length exactly where no place from a on passes
  some-found : (i : ℕ) (ys : List A) (o : Option ℕ) → place_from i f ys ≡ o → some_of f ys ≡ found o
  some-found i [] o e = ap found e
  some-found i (y ∷ ys) o e = go (f y) e (some-found (suc i) ys o)
    where
      go : (t : Bool) → (when t then some i else place_from (suc i) f ys) ≡ o
          → (place_from (suc i) f ys ≡ o → some_of f ys ≡ found o) → (t || some_of f ys) ≡ found o
      go true k ih = ap found k
      go false k ih = ih k

  pub first-none : (a : ℕ) → a ≤ length xs → eqb (first_from f xs a) (length xs) ≡ not (some_of f (drop a xs))
  unfolding first_from
  first-none a h = go (place_from a f (drop a xs)) refl
    where
      go : (o : Option ℕ) → place_from a f (drop a xs) ≡ o → eqb (place_or (length xs) o) (length xs) ≡ not (some_of f (drop a xs))
      go none e = eq-eqb (length xs) (length xs) refl ∙ ap not (sym (some-found a (drop a xs) none e))
      go (some p) e =
          let r = place_found f d a (drop a xs) p e in
          ne_eqb p (length xs) (λ z. absurd (omega (arith, r.place, r.inside, length-drop a xs)))
          ∙ ap not (sym (some-found a (drop a xs) (some p) e))
