-- Audit says yes wherever both sides stand alike.
use Prim.Native.Nat.{ℕ, zero, suc, ◌≤◌, ◌<◌}
use mathlib.Core.Path.{◌≡◌, sym, ap, ◌∙◌}
use mathlib.Core.Bool.{true}
use mathlib.Core.List.{List, [], ◌∷◌}
use native.Mathlib.Omega.{arith}
use lib.ListN.{length, get_or, set}
use Rattle.words.specs.Blocks.{unmapped}
use Rattle.words.specs.Lists.{all}
use Rattle.words.proofs.Places.{all-place}
use Rattle.book.specs.Book.{volumes, Rec, Book, cell_at, retention_of}
use Rattle.book.specs.Form.{pbn_ok}
use Rattle.book.proofs.Clauses.{book-parts}
use Rattle.model.specs.Days.{kept}
use Rattle.model.specs.Journal.{Backup, journal, days, backup_count}
use Rattle.model.specs.Read.{image}
use Rattle.model.specs.Audit.{applied, no_maps, prints_sound, cell_sound, audit}
use Rattle.claims.specs.Claims.{BeforesIn, Befores, Holds}
use Rattle.claims.proofs.claims.AuditMeans.{cell_holds, prints-differ, audit-means}
use Rattle.model.specs.Plain.{Plain}
use Rattle.claims.proofs.agreement.Agree.{Agree, named}
use Rattle.claims.proofs.kept.Sound.{Sound, SoundAll}
use Rattle.claims.proofs.kept.KeptHeld.{current-held, kept-held}
use Rattle.claims.proofs.agreement.ReadAgree.{image-agree}

-- "each before being the cell that it replaces"

sound_befores_in : (m : List ℕ) (rs : List Rec) → Sound m rs → BeforesIn m rs
unfolding Sound
sound_befores_in m [] s = tt
sound_befores_in m (r ∷ rs) s = (sym s.1, sound_befores_in (set m r.lbn r.after) rs s.2)

sound-befores : (ms : List (List ℕ)) (bs : List Backup) → SoundAll ms bs → Befores ms bs
unfolding SoundAll
sound-befores ms [] s = tt
sound-befores ms (b ∷ bs) s = (
  sound_befores_in (get_or ms b.volume []) b.records s.1,
  sound-befores (set ms b.volume (applied (get_or ms b.volume []) b.records)) bs s.2,
)

module _ {x : Book} {pool : List ℕ} {q : Plain} (g : Agree x pool q) where
  current-holds : (v l : ℕ) → v < length x.maps → l < length (get_or x.maps v []) → Holds x (cell_at x.maps v l)
  current-holds v l h k =
      let ok =
      all-place (pbn_ok x.sizes.n) (get_or x.maps v []) unmapped l
      (all-place (all (pbn_ok x.sizes.n)) x.maps [] v (book-parts x g.fit.form).maps h)
      k
      in
      (cell_holds x (cell_at x.maps v l)).0 (current-held g v l (rw g.fit.sized.maps at h) ok)

  kept-holds : (v k l : ℕ) → v < volumes → 1 ≤ k → k ≤ backup_count x v
      → kept (days x v) (retention_of x v) x.day k ≡ true → Holds x (image x v k l)
  kept-holds v zero l h a b e = absurd (omega arith)
  kept-holds v (suc k) l h a b e =
      (cell_holds x (image x v (suc k) l)).0 (ap (cell_sound x) (image-agree g v (suc k) l h a b) ∙ kept-held g v k l h (omega arith) e)

  pub audit-agree : audit x ≡ true
  unfolding named prints_sound
  audit-agree = (audit-means x).1 (record {
    befores = sound-befores (no_maps x) (journal x) g.sound;
    maps = λ v h. ap (λ (ms : List (List ℕ)). get_or ms v []) g.maps;
    counts = g.counts;
    expiries = g.expiries;
    prints = (prints-differ x.entries).0 g.prints;
    current = current-holds;
    kept = λ v k l h a b e z. kept-holds v k l h a b e;
  })
