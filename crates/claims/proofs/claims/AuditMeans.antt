-- What audit's yes says, clause by clause, in facts (document 01, "Audit says yes exactly when").
use Prim.Native.Nat.{ℕ, zero, suc, ◌≤◌, ◌<◌}
use mathlib.Core.Path.{◌≡◌, refl, sym, ap}
use mathlib.Core.Logic.{◌↔◌}
use mathlib.Core.Bool.{Bool, true, false, not, ◌&&◌, ◌||◌}
use mathlib.Core.List.{List, [], ◌∷◌, map}
use native.Mathlib.Omega.{arith}
use lib.Dec.{eqb}
use lib.ListN.{length, get_or, set}
use borrow.Author.Tests.{eqb-true, eq-eqb, eqb-false, not-true}
use Rattle.words.specs.Blocks.{unmapped}
use Rattle.words.specs.Choice.{when◌then◌else◌}
use Rattle.words.proofs.ChoiceLaws.{and_true, true_and, not_both}
use Rattle.words.specs.Lists.{all, those, count_of, joined, same, differ, up_from}
use Rattle.words.proofs.Places.{all-place, place-all, all-up_from, up_from-all}
use Rattle.words.proofs.Same.{same_self, same_equal}
use Rattle.words.proofs.Tests.{surely_not}
use Rattle.book.specs.Book.{volumes, Entry, Rec, Book, entry_at, cell_at, retention_of}
use Rattle.model.specs.Days
use Rattle.model.specs.Journal.{Backup, journal, days, backup_count}
use Rattle.model.specs.Read.{image}
use Rattle.model.specs.Audit.{applied, replayed, befores_in, befores, no_maps, same_map, maps_sound, count_sound, until_in, expiry_sound}
use Rattle.model.specs.Audit.{prints_sound, cell_sound, current_sound, backup_sound, backups_sound, audit}
use Rattle.claims.specs.Claims.{BeforesIn, Befores, Holds, Differ, Means}

-- ---- tests and facts

befores_in_lem : (m : List ℕ) (rs : List Rec) → (befores_in m rs ≡ true) ↔ BeforesIn m rs
befores_in_lem m [] = (λ e. tt, λ g. refl)
befores_in_lem m (r ∷ rs) =
    let ih = befores_in_lem (set m r.lbn r.after) rs in
    (λ e. let w = and_true _ _ e in (eqb-true _ _ w.0, ih.0 w.1), λ g. true_and _ _ (eq-eqb _ _ g.0) (ih.1 g.1))

befores-all : (ms : List (List ℕ)) (bs : List Backup) → (befores ms bs ≡ true) ↔ Befores ms bs
befores-all ms [] = (λ e. tt, λ g. refl)
befores-all ms (b ∷ bs) =
    let one = befores_in_lem (get_or ms b.volume []) b.records in
    let ih = befores-all (set ms b.volume (applied (get_or ms b.volume []) b.records)) bs in
    (λ e. let w = and_true _ _ e in (one.0 w.0, ih.0 w.1), λ g. true_and _ _ (one.1 g.0) (ih.1 g.1))

pub cell_holds : (x : Book) (p : ℕ) → (cell_sound x p ≡ true) ↔ Holds x p
unfolding cell_sound
cell_holds x p = go (eqb p unmapped) refl
  where
    go : (t : Bool) → eqb p unmapped ≡ t → ((t || (entry_at x.entries p).held) ≡ true) ↔ Holds x p
    go true e = (λ o n. absurd (n (eqb-true p unmapped e)), λ g. refl)
    go false e = (λ o n. o, λ g. g (eqb-false p unmapped e))

-- ---- "held fingerprints differ"

abbrev pub held_prints : List Entry → List (List ℕ)
held_prints es = map (λ (e : Entry). e.print) (those (λ (e : Entry). e.held) es)

-- a test of every held entry's fingerprint
abbrev Every : (List ℕ → Bool) → List Entry → Type 0
Every f es = (q : ℕ) → q < length es → (entry_at es q).held ≡ true → f (entry_at es q).print ≡ true

held-every : (f : List ℕ → Bool) (es : List Entry) → (all f (held_prints es) ≡ true) ↔ Every f es
held-every f [] = (λ e q h. absurd (omega arith), λ g. refl)
held-every f (e ∷ es) = go e.held refl (held-every f es)
  where
    go : (t : Bool) → e.held ≡ t → (all f (held_prints es) ≡ true) ↔ Every f es
        → (all f (map (λ (e : Entry). e.print)
        (when t then e ∷ those (λ (e : Entry). e.held) es
        else those (λ (e : Entry). e.held) es)) ≡ true) ↔ Every f (e ∷ es)
    go true k ih = (to, λ g. true_and _ _ (g 0 (omega arith) k) (ih.1 (λ q h. g (suc q) (omega arith))))
      where
        to : (f e.print && all f (held_prints es)) ≡ true → Every f (e ∷ es)
        to a zero h n = (and_true (f e.print) (all f (held_prints es)) a).0
        to a (suc q) h n = ih.0 (and_true (f e.print) (all f (held_prints es)) a).1 q (omega arith) n
    go false k ih = (to, λ g. ih.1 (λ q h. g (suc q) (omega arith)))
      where
        to : all f (held_prints es) ≡ true → Every f (e ∷ es)
        to a zero h n = absurd (not_both e.held n k)
        to a (suc q) h n = ih.0 a q (omega arith) n

pub prints-differ : (es : List Entry) → (differ (held_prints es) ≡ true) ↔ Differ es
prints-differ [] = (λ e p q h k. absurd (omega arith), λ g. refl)
prints-differ (e ∷ es) = go e.held refl (prints-differ es)
  where
    go : (t : Bool) → e.held ≡ t → (differ (held_prints es) ≡ true) ↔ Differ es
        → (differ (map (λ (e : Entry). e.print)
        (when t then e ∷ those (λ (e : Entry). e.held) es
        else those (λ (e : Entry). e.held) es)) ≡ true) ↔ Differ (e ∷ es)
    go true k ih = (to, from)
      where
        to : (all (λ y. not (same e.print y)) (held_prints es) && differ (held_prints es)) ≡ true → Differ (e ∷ es)
        to a p zero h = absurd (omega arith)
        to a zero (suc q) h = λ l m n z.
            let w = and_true (all (λ y. not (same e.print y)) (held_prints es)) (differ (held_prints es)) a in
            let o =
            not-true (same e.print (entry_at es q).print)
            ((held-every (λ y. not (same e.print y)) es).0 w.0 q (omega arith) n) in
            not_both (same e.print (entry_at es q).print) (rw (sym z) (same_self e.print)) o
        to a (suc p) (suc q) h =
            let w = and_true (all (λ y. not (same e.print y)) (held_prints es)) (differ (held_prints es)) a in
            λ l. ih.0 w.1 p q (omega arith) (omega arith)

        from : Differ (e ∷ es) → (all (λ y. not (same e.print y)) (held_prints es) && differ (held_prints es)) ≡ true
        from g =
            true_and (all (λ y. not (same e.print y)) (held_prints es)) (differ (held_prints es))
            ((held-every (λ y. not (same e.print y)) es).1
            (λ q h n. ap not (surely_not (same e.print (entry_at es q).print)
            (λ o. g 0 (suc q) (omega arith) (omega arith) k n (same_equal e.print (entry_at es q).print o)))))
            (ih.1 (λ p q h l. g (suc p) (suc q) (omega arith) (omega arith)))
    go false k ih = (to, λ g. ih.1 (λ p q h l. g (suc p) (suc q) (omega arith) (omega arith)))
      where
        to : differ (held_prints es) ≡ true → Differ (e ∷ es)
        to a p zero h = absurd (omega arith)
        to a zero (suc q) h = λ l m. absurd (not_both e.held m k)
        to a (suc p) (suc q) h = λ l. ih.0 a p q (omega arith) (omega arith)

-- ---- the whole

module _ (x : Book) where
  maps-mean : (maps_sound x ≡ true)
      ↔ (Befores (no_maps x) (journal x)
      × ((v : ℕ) → v < volumes → get_or x.maps v [] ≡ get_or (replayed (no_maps x) (journal x)) v []))
  unfolding maps_sound
  maps-mean =
      let ms = replayed (no_maps x) (journal x) in
      let b = befores-all (no_maps x) (journal x) in (
        λ e. let w = and_true (befores (no_maps x) (journal x)) (all (same_map x.maps ms) (up_from 0 volumes)) e in (
          b.0 w.0,
          λ v h. same_equal (get_or x.maps v []) (get_or ms v [])
              (up_from-all (same_map x.maps ms) 0 volumes w.1 v (omega arith) (omega arith)),
        ),
        λ g. true_and (befores (no_maps x) (journal x)) (all (same_map x.maps ms) (up_from 0 volumes)) (b.1 g.0)
            (all-up_from (same_map x.maps ms) 0 volumes (λ v _ h. rw (g.1 v (omega arith)) (same_self (get_or ms v [])))),
      )

  counts-mean : (all (count_sound x) (up_from 0 x.sizes.n) ≡ true)
      ↔ ((p : ℕ) → p < x.sizes.n → (entry_at x.entries p).count ≡ count_of (eqb p) (joined x.maps))
  unfolding count_sound
  counts-mean = (
    λ e p h. eqb-true _ _ (up_from-all (count_sound x) 0 x.sizes.n e p (omega arith) (omega arith)),
    λ g. all-up_from (count_sound x) 0 x.sizes.n (λ p _ h. eq-eqb _ _ (g p (omega arith))),
  )

  expiries-mean : (all (expiry_sound x) (up_from 0 x.sizes.n) ≡ true)
      ↔ ((p : ℕ) → p < x.sizes.n → (entry_at x.entries p).expiry ≡ until_in x p (journal x))
  unfolding expiry_sound
  expiries-mean = (
    λ e p h. eqb-true _ _ (up_from-all (expiry_sound x) 0 x.sizes.n e p (omega arith) (omega arith)),
    λ g. all-up_from (expiry_sound x) 0 x.sizes.n (λ p _ h. eq-eqb _ _ (g p (omega arith))),
  )

  current-means : (current_sound x ≡ true)
      ↔ ((v l : ℕ) → v < length x.maps → l < length (get_or x.maps v []) → Holds x (cell_at x.maps v l))
  unfolding current_sound
  current-means = (
    λ e v l h k. (cell_holds x _).0
        (all-place (cell_sound x) (get_or x.maps v []) unmapped l (all-place (all (cell_sound x)) x.maps [] v e h) k),
    λ g. place-all (all (cell_sound x)) x.maps []
        (λ v h. place-all (cell_sound x) (get_or x.maps v []) unmapped (λ l k. (cell_holds x _).1 (g v l h k))),
  )

  backup-means : (v k : ℕ) → (backup_sound x v k ≡ true)
      ↔ ((l : ℕ) → Days.kept (days x v) (retention_of x v) x.day k ≡ true → l < x.sizes.l → Holds x (image x v k l))
  unfolding backup_sound
  backup-means v k = go (Days.kept (days x v) (retention_of x v) x.day k)
    where
      go : (t : Bool) → ((not t || all (λ l. cell_sound x (image x v k l)) (up_from 0 x.sizes.l)) ≡ true)
          ↔ ((l : ℕ) → t ≡ true → l < x.sizes.l → Holds x (image x v k l))
      go true = (
        λ e l z h. (cell_holds x _).0 (up_from-all (λ l. cell_sound x (image x v k l)) 0 x.sizes.l e l (omega arith) (omega arith)),
        λ g. all-up_from (λ l. cell_sound x (image x v k l)) 0 x.sizes.l (λ l _ h. (cell_holds x _).1 (g l refl (omega arith))),
      )
      go false = (λ e l z. absurd (not_both false z refl), λ g. refl)

  backups-mean : (backups_sound x ≡ true)
      ↔ ((v k l : ℕ) → v < volumes → 1 ≤ k → k ≤ backup_count x v
      → Days.kept (days x v) (retention_of x v) x.day k ≡ true → l < x.sizes.l → Holds x (image x v k l))
  unfolding backups_sound
  backups-mean = (
    λ e v k l h a b z. (backup-means v k).0
        (up_from-all (backup_sound x v) 1 (backup_count x v)
        (up_from-all (λ v. all (backup_sound x v) (up_from 1 (backup_count x v))) 0 volumes e v (omega arith)
        (omega arith)) k a (omega arith))
        l z,
    λ g. all-up_from (λ v. all (backup_sound x v) (up_from 1 (backup_count x v))) 0 volumes
        (λ v _ h. all-up_from (backup_sound x v) 1 (backup_count x v)
        (λ k a b. (backup-means v k).1 (λ l. g v k l (omega arith) a (omega arith)))),
  )

  -- "Audit says yes exactly when"
  pub audit-means : (audit x ≡ true) ↔ Means x
  unfolding audit prints_sound
  audit-means = (
    λ e.
        let f = and_true _ (backups_sound x) e in
        let c = and_true _ (current_sound x) f.0 in
        let d = and_true _ (prints_sound x) c.0 in
        let b = and_true _ (all (expiry_sound x) (up_from 0 x.sizes.n)) d.0 in
        let a = and_true (maps_sound x) (all (count_sound x) (up_from 0 x.sizes.n)) b.0 in
        record {
          befores = (maps-mean.0 a.0).0;
          maps = (maps-mean.0 a.0).1;
          counts = counts-mean.0 a.1;
          expiries = expiries-mean.0 b.1;
          prints = (prints-differ x.entries).0 d.1;
          current = current-means.0 c.1;
          kept = backups-mean.0 f.1;
        },
    λ g. rw (
      maps-mean.1 (g.befores, g.maps),
      counts-mean.1 g.counts,
      expiries-mean.1 g.expiries,
      (prints-differ x.entries).1 g.prints,
      current-means.1 g.current,
    ) (backups-mean.1 g.kept),
  )
