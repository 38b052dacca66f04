-- Laws of specs/Expiries.antt.
-- An expiry for each block of the pool, raised record by record.
use Prim.Native.Nat.{ℕ, suc, ◌+◌, ◌≤◌, ◌<◌, max}
use mathlib.Core.Path.{◌≡◌, refl, ◌∙◌}
use mathlib.Core.Bool.{Bool, true, false, ◌||◌}
use mathlib.Core.List.{List, []}
use native.Mathlib.Numerals.{add-one}
use native.Mathlib.Omega.{arith}
use lib.Dec.{eqb}
use lib.ListN.{length, get_or, drop, set, length-set}
use lib.Seq.{slice, slice-cons, slice_empty}
use borrow.Author.Tests.{eqb-true, ne_eqb}
use Rattle.words.specs.Choice.{when◌then◌else◌}
use Rattle.words.proofs.SetLaws.{get_d_set}
use Rattle.words.proofs.Tests.{eqb_swap}
use Rattle.book.specs.Book.{Rec, Book, no_rec, rec_at}
use Rattle.model.specs.Audit.{has_before, until_in}
use Rattle.model.specs.Journal.{journal}
use Rattle.model.specs.JournalAt.{backup_at}
use Rattle.claims.proofs.kept.JournalAtLaws.{journal-next, journal-end}
use Rattle.due.specs.Pool.{pool_blocks}
use Rattle.due.specs.Expiries.{Raised, until_one, until_each}
use Rattle.due.specs.Lasts.{due_in}

pub raised-none : (a : List ℕ) (f : ℕ → ℕ) → ((p : ℕ) → p < pool_blocks → f p ≤ get_or a p 0) → Raised a f a
raised-none a f h = record { long = refl; at = λ p k. omega (arith, h p k) }

pub raised-past : (a : List ℕ) (u c : ℕ) → pool_blocks ≤ c → Raised a (until_one u c) a
raised-past a u c h = raised-none a (until_one u c) (λ p k. rw (ne_eqb c p (λ q. absurd (omega arith))) (omega arith))

pub raised-kept : (a : List ℕ) (u c : ℕ) → u ≤ get_or a c 0 → Raised a (until_one u c) a
raised-kept a u c h = raised-none a (until_one u c) (λ p k. go p (eqb c p) refl)
  where
    go : (p : ℕ) (t : Bool) → eqb c p ≡ t → (when t then u else 0) ≤ get_or a p 0
    go p true e = rw (← (eqb-true c p e)) h
    go p false e = omega arith

pub raised-set : (a : List ℕ) (u c : ℕ) → c < length a → get_or a c 0 ≤ u → Raised a (until_one u c) (set a c u)
raised-set a u c h k = record { long = length-set a c u; at = λ p _. rw (get_d_set a c p u 0 h, eqb_swap p c) (go p (eqb c p) refl) }
  where
    go : (p : ℕ) (t : Bool) → eqb c p ≡ t → (when t then u else get_or a p 0) ≡ max (get_or a p 0) (when t then u else 0)
    go p true e = rw (← (eqb-true c p e)) (omega arith)
    go p false e = omega arith

-- ---- what is left: f is to come, f₀ is the whole

pub record Raising (a₀ : List ℕ) (f₀ : ℕ → ℕ) (a : List ℕ) (f : ℕ → ℕ) : Type 0 where
  pub long : length a ≡ length a₀
  pub at : (p : ℕ) → p < pool_blocks → max (get_or a₀ p 0) (f₀ p) ≡ max (get_or a p 0) (f p)

module _ {a₀ : List ℕ} {f₀ : ℕ → ℕ} where
  pub raising_start : Raising a₀ f₀ a₀ f₀
  raising_start = record { long = refl; at = λ p h. refl }

  raising_more : {a a' : List ℕ} {f : ℕ → ℕ} (g f' : ℕ → ℕ) → ((p : ℕ) → f p ≡ max (g p) (f' p)) → Raised a g a'
      → Raising a₀ f₀ a f → Raising a₀ f₀ a' f'
  raising_more g f' e r w = record { long = r.long ∙ w.long; at = λ p h. omega (arith, e p, r.at p h, w.at p h) }

  raising_end : {a : List ℕ} {f : ℕ → ℕ} → ((p : ℕ) → f p ≡ 0) → Raising a₀ f₀ a f → Raised a₀ f₀ a
  raising_end e w = record { long = w.long; at = λ p h. omega (arith, e p, w.at p h) }

until-more : (u : ℕ) (rs : List Rec) (q e : ℕ) → q < e → e ≤ length rs → (p : ℕ)
    → until_each u (slice q e rs) p ≡ max (until_one u (rec_at rs q).before p) (until_each u (slice (q + 1) e rs) p)
until-more u rs q e h k p =
    rw (slice-cons q e rs no_rec h k, add-one q) (go (eqb (rec_at rs q).before p) (has_before p (slice (suc q) e rs)))
  where
    go : (s t : Bool) → (when s || t then u else 0) ≡ max (when s then u else 0) (when t then u else 0)
    go true true = omega arith
    go true false = omega arith
    go false t = omega arith

module _ {a₀ : List ℕ} {f₀ : ℕ → ℕ} {a : List ℕ} where
  -- the next record of a backup, its before in c
  pub raising_record : {a' : List ℕ} (u : ℕ) (rs : List Rec) (q e : ℕ) {c : ℕ} → q < e → e ≤ length rs → Raised a (until_one u c) a' → c ≡ (rec_at rs q).before
      → Raising a₀ f₀ a (until_each u (slice q e rs)) → Raising a₀ f₀ a' (until_each u (slice (q + 1) e rs))
  raising_record u rs q e {c} h k r i w =
      raising_more (until_one u c) (until_each u (slice (q + 1) e rs)) (λ p. rw i (until-more u rs q e h k p)) r w

  pub raising_records : (u : ℕ) (rs : List Rec) (q e : ℕ) → q ≡ e → Raising a₀ f₀ a (until_each u (slice q e rs)) → Raised a₀ f₀ a
  raising_records u rs q e h w = let z : slice q e rs ≡ [] = rw h (slice_empty e rs) in raising_end (λ p. rw z) w

  -- the next backup of a journal
  pub raising_slot : {a' : List ℕ} (x : Book) (q : ℕ) → q < length x.slots
      → Raised a (until_each (due_in x (backup_at x q)) (backup_at x q).records) a'
      → Raising a₀ f₀ a (λ p. until_in x p (drop q (journal x))) → Raising a₀ f₀ a' (λ p. until_in x p (drop (q + 1) (journal x)))
  raising_slot x q h r w =
      raising_more (until_each (due_in x (backup_at x q)) (backup_at x q).records) (λ p. until_in x p (drop (q + 1) (journal x)))
      (λ p. rw (journal-next x q h)) r w

  pub raising_journal : (x : Book) (q : ℕ) → length x.slots ≤ q → Raising a₀ f₀ a (λ p. until_in x p (drop q (journal x))) → Raised a₀ f₀ a
  raising_journal x q h w = raising_end (λ p. rw (journal-end x q h)) w
