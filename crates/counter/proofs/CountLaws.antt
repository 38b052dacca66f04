-- Laws of specs/Counts.antt.
-- The counts of the entries as the code has them, one entry after the other.
use Prim.Native.Nat.{ℕ, ◌+◌, ◌<◌}
use mathlib.Core.Path.{◌≡◌, refl, sym, ap, ◌∙◌}
use mathlib.Core.Bool.{Bool, true, false, not, ◌&&◌}
use mathlib.Core.List.{List, map}
use native.Mathlib.Numerals.{add-one}
use native.Mathlib.Omega.{arith}
use lib.Dec.{eqb}
use lib.ListN.{length, take}
use borrow.Author.Tests.{eq-eqb, ne_eqb}
use Rattle.words.specs.Lists.{sum}
use Rattle.words.proofs.Prefixes.{bit-one, count-take}
use Rattle.words.proofs.Ranges.{sum-take}
use Rattle.book.specs.Book.{Entry, free_entry, entry_at, is_free}
use Rattle.counter.specs.Sums.{held, free, waiting, references}
use Rattle.counter.specs.declared.counts.Counts.{Counts}
use Rattle.counter.specs.Counts.{counts_of, counted, Few}

-- ---- one entry more, by what the code tells of it

alike : {a b c d a' b' c' d' : ℕ} → a ≡ a' → b ≡ b' → c ≡ c' → d ≡ d'
    → ◌≡◌ {A = Counts} (record { held = a; free = b; waiting = c; references = d })
    (record { held = a'; free = b'; waiting = c'; references = d' })
alike p q r s = λ i. record { held = p i; free = q i; waiting = r i; references = s i }

module _ (t : Counts) (h : Bool) (c : ℕ) where
  pub counted-free : h ≡ false → record
      { held = t.held; free = t.free + 1; waiting = t.waiting; references = t.references + c } ≡ counted t h c
  unfolding counted
  counted-free e = rw e (alike (omega arith) refl (omega arith) refl)

  pub counted-waiting : h ≡ true → c ≡ 0
      → record { held = t.held + 1; free = t.free; waiting = t.waiting + 1; references = t.references + c }
      ≡ counted t h c
  unfolding counted
  counted-waiting e z = rw (e, eq-eqb c 0 z) (alike refl (omega arith) refl refl)

  pub counted-named : h ≡ true → (c ≡ 0 → ⊥)
      → record { held = t.held + 1; free = t.free; waiting = t.waiting; references = t.references + c }
      ≡ counted t h c
  unfolding counted
  counted-named e z = rw (e, ne_eqb c 0 z) (alike refl (omega arith) (omega arith) refl)

few-more : (t : Counts) (h : Bool) (c n : ℕ) → c < 65536 → Few n t → Few (n + 1) (counted t h c)
unfolding counted
few-more t h c n b f =
    record {
      held = omega (arith, f.held, bit-one h);
      free = omega (arith, f.free, bit-one (not h));
      waiting = omega (arith, f.waiting, bit-one (h && eqb c 0));
      references = omega (arith, f.references);
    }

-- ---- the entries before p, and the one at p

counts-more : (es : List Entry) (p : ℕ) → p < length es
    → counts_of (take (p + 1) es) ≡ counted (counts_of (take p es)) (entry_at es p).held (entry_at es p).count
unfolding counts_of counted held free waiting references
counts-more es p b =
    alike
    (count-take (λ e. e.held) es p free_entry b)
    (count-take is_free es p free_entry b)
    (count-take (λ e. e.held && eqb e.count 0) es p free_entry b)
    (ap (λ (k : ℕ). sum (map (λ (e : Entry). e.count) (take k es))) (add-one p) ∙ sum-take (λ e. e.count) es p free_entry b)

-- ---- a pass over the entries: those before p are counted

pub record Passing (es : List Entry) (p : ℕ) (t : Counts) : Type 0 where
  pub counts : t ≡ counts_of (take p es)
  pub few : Few p t

pub passing_none : (es : List Entry) → Passing es 0 (record { held = 0; free = 0; waiting = 0; references = 0 })
unfolding counts_of held free waiting references
passing_none es =
    record {
      counts = refl;
      few = record
          { held = omega arith; free = omega arith; waiting = omega arith; references = omega arith };
    }

pub passing_more : {es : List Entry} {p : ℕ} {t t' : Counts} {h : Bool} {c : ℕ} → p < length es → c < 65536
    → h ≡ (entry_at es p).held → c ≡ (entry_at es p).count → t' ≡ counted t h c → Passing es p t → Passing es (p + 1) t'
passing_more {es} {p} {t} {t'} {h} {c} b s u v e l =
    record { counts = e ∙ rw (l.counts, u, v) (sym (counts-more es p b)); few = rw e (few-more t h c p s l.few) }
