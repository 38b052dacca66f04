-- A book that was sound by the rules of layout 2 is sound by today's, once its expiries are worked out afresh (document 02, K4).
use Prim.Native.Nat.{ℕ, zero, suc, ◌+◌, ◌≤◌}
use mathlib.Core.Path.{◌≡◌, refl, sym, ap, ◌∙◌}
use mathlib.Core.Bool.{Bool, true, false, not, ◌&&◌, ◌||◌}
use mathlib.Core.List.{List, [], ◌∷◌, map}
use native.Mathlib.Nat.{suc_inj, suc-ne-zero}
use native.Mathlib.Omega.{arith}
use lib.Dec.{leb, eqb}
use lib.ListN.{length}
use borrow.Author.Tests.{leb-true, le-leb, eq-eqb}
use Rattle.words.proofs.ChoiceLaws.{and_true, true_and, not_both}
use Rattle.words.proofs.Places.{all_weaker, all-up_from, up_from-all}
use Rattle.words.specs.Blocks.{unmapped}
use Rattle.words.specs.Choice.{when◌then◌else◌}
use Rattle.words.specs.Lists.{all, those, count_of, joined, differ, up_from}
use Rattle.book.specs.Book.{volumes, Entry, Slot, Book, Sized, entry_at, retention_of}
use Rattle.book.specs.Form.{later_ok, days_ok}
use Rattle.book.specs.Next.{with_entries}
use Rattle.model.specs.Audit.{maps_sound, no_maps, count_sound, until_in, expiry_sound, prints_sound, cell_sound}
use Rattle.model.specs.Audit.{current_sound, backup_sound, backups_sound, audit}
use Rattle.model.specs.AuditTwo.{kept_two, expiry_two, backup_two, backups_two, audit_two}
use Rattle.model.specs.Convert.{refreshed}
use Rattle.model.specs.Days.{kept}
use Rattle.model.specs.Journal.{journal, slots_of, days, backup_count}
use Rattle.model.specs.Read.{image}
use Rattle.claims.proofs.form.Refreshed.{AllButExpiries, expiry-fresh, refreshed-others}
use Rattle.claims.proofs.form.SlotsFit.{days_in, days-journal, days-above}
use Rattle.claims.proofs.kept.JournalLaws.{until_in-book}
use Rattle.claims.proofs.kept.Retirements.{count-within}

-- ---- what is kept by today's rule was kept by that of layout 2, since a volume's days never fall

abbrev never_fall : List ℕ → Bool
never_fall [] = true
never_fall (d ∷ ds) = all (leb d) ds && never_fall ds

volume-days : (v : ℕ) (ts : List Slot) → days_ok ts ≡ true → never_fall (days_in v ts) ≡ true
volume-days v [] ok = refl
volume-days v (t ∷ ts) ok =
    let w = and_true (all (later_ok t) ts) (days_ok ts) ok in
    go (eqb t.volume v) (days-above v t ts w.0) (volume-days v ts w.1)
  where
    us : List Slot
    us = those (λ (u : Slot). eqb u.volume v) ts

    go : (own : Bool) → all (leb t.day) (days_in v ts) ≡ true → never_fall (days_in v ts) ≡ true
        → never_fall (map (λ (u : Slot). u.day) (when own then t ∷ us else us)) ≡ true
    go true h ih = true_and (all (leb t.day) (days_in v ts)) (never_fall (days_in v ts)) h ih
    go false h ih = ih

kept-was : (ds : List ℕ) (r d k : ℕ) → never_fall ds ≡ true → kept ds r d (suc k) ≡ true → kept_two ds r d (suc k) ≡ true
unfolding kept kept_two
kept-was [] r d k n e = refl
kept-was (t ∷ []) r d zero n e = refl
kept-was (t ∷ u ∷ us) r d zero n e =
    let h = (and_true (leb t u) (all (leb t) us) (and_true (all (leb t) (u ∷ us)) (never_fall (u ∷ us)) n).0).0 in
    le-leb d (u + r) (omega (arith, leb-true t u h, leb-true d (t + r) e))
kept-was (t ∷ ds) r d (suc k) n e = kept-was ds r d k (and_true (all (leb t) ds) (never_fall ds) n).1 e

-- ---- audit, by what it looks at

-- fingerprints of held entries
prints-same : (es fs : List Entry) → length es ≡ length fs → ((p : ℕ) → (entry_at es p).held ≡ (entry_at fs p).held)
    → ((p : ℕ) → (entry_at es p).print ≡ (entry_at fs p).print)
    → map (λ (e : Entry). e.print) (those (λ e. e.held) es) ≡ map (λ (e : Entry). e.print) (those (λ e. e.held) fs)
prints-same [] [] n h k = refl
prints-same [] (f ∷ fs) n h k = absurd (suc-ne-zero (length fs) (sym n))
prints-same (e ∷ es) [] n h k = absurd (suc-ne-zero (length es) n)
prints-same (e ∷ es) (f ∷ fs) n h k =
    ap (λ (t : Bool). prints (when t then e ∷ held es else held es)) (h 0)
    ∙ go f.held (prints-same es fs (suc_inj n) (λ p. h (suc p)) (λ p. k (suc p)))
  where
    prints : List Entry → List (List ℕ)
    prints gs = map (λ (g : Entry). g.print) gs

    held : List Entry → List Entry
    held gs = those (λ g. g.held) gs

    go : (t : Bool) → prints (held es) ≡ prints (held fs)
        → prints (when t then e ∷ held es else held es) ≡ prints (when t then f ∷ held fs else held fs)
    go true ih = λ i. k 0 i ∷ ih i
    go false ih = ih

pub fresh_audited : (x : Book) → all (expiry_sound (refreshed x)) (up_from 0 (refreshed x).sizes.n) ≡ true
unfolding refreshed with_entries expiry_sound journal
fresh_audited x =
    all-up_from (expiry_sound (refreshed x)) 0 x.sizes.n (λ p lo hi.
    eq-eqb (entry_at (refreshed x).entries p).expiry (until_in (refreshed x) p (journal x))
    (expiry-fresh x p (omega arith) ∙ sym (until_in-book x (refreshed x) p (journal x) refl)))

module _ (x : Book) (s : Sized x) where
  abbrev y : Book
  y = refreshed x

  others : AllButExpiries x (refreshed x)
  others = refreshed-others x s

  maps-sound : maps_sound y ≡ maps_sound x
  unfolding refreshed with_entries maps_sound no_maps journal
  maps-sound = refl

  count_same : (p : ℕ) → count_sound y p ≡ count_sound x p
  unfolding refreshed with_entries count_sound
  count_same p = ap (λ (c : ℕ). eqb c (count_of (eqb p) (joined x.maps))) (others.counts p)

  prints-sound : prints_sound y ≡ prints_sound x
  unfolding prints_sound
  prints-sound = ap differ (prints-same y.entries x.entries others.entry_count others.states others.prints)

  cell_same : cell_sound y ≡ cell_sound x
  unfolding cell_sound
  cell_same = λ i p. eqb p unmapped || others.states p i

  current-sound : current_sound y ≡ current_sound x
  unfolding refreshed with_entries current_sound
  current-sound = ap (λ (f : ℕ → Bool). all (all f) x.maps) cell_same

  module _ (ok : days_ok x.slots ≡ true) where
    days-rise : (v : ℕ) → never_fall (days x v) ≡ true
    unfolding days slots_of journal
    days-rise v = rw (days-journal v [] x.slots x.records) (volume-days v x.slots ok)

    backup-sound : (v k : ℕ) → backup_two x v (suc k) ≡ true → backup_sound y v (suc k) ≡ true
    unfolding refreshed with_entries backup_two backup_sound image days slots_of journal
    backup-sound v k e =
        let ds = days x v in
        let r = retention_of x v in
        let cells : (ℕ → Bool) → Bool = λ f. all (λ lbn. f (image x v (suc k) lbn)) (up_from 0 x.sizes.l) in
        ap (λ (f : ℕ → Bool). not (kept ds r x.day (suc k)) || cells f) cell_same
        ∙ go (kept ds r x.day (suc k)) (kept_two ds r x.day (suc k)) (cells (cell_sound x)) (kept-was ds r x.day k (days-rise v)) e
      where
        go : (now was rest : Bool) → (now ≡ true → was ≡ true) → (not was || rest) ≡ true → (not now || rest) ≡ true
        go false was rest h e = refl
        go true true rest h e = e
        go true false rest h e = absurd (not_both false (h refl) refl)

    backups-sound : backups_two x ≡ true → backups_sound y ≡ true
    unfolding refreshed with_entries backups_two backups_sound backup_count days slots_of journal
    backups-sound e =
        all_weaker (λ v. all (backup_two x v) (up_from 1 (length (days x v)))) (λ v. all (backup_sound y v) (up_from 1 (backup_count x v)))
        (up_from 0 volumes) numbers e
      where
        numbers : (v : ℕ) → all (backup_two x v) (up_from 1 (length (days x v))) ≡ true
            → all (backup_sound y v) (up_from 1 (backup_count x v)) ≡ true
        numbers v h =
            all-up_from (backup_sound y v) 1 (backup_count x v) (λ k lo hi.
            number v k lo (up_from-all (backup_two x v) 1 (length (days x v)) h k lo (omega (arith, count-within x v))))
          where
            number : (v k : ℕ) → 1 ≤ k → backup_two x v k ≡ true → backup_sound y v k ≡ true
            number v zero lo h = absurd (omega arith)
            number v (suc k) lo h = backup-sound v k h

    pub audit-stays : audit_two x ≡ true → audit y ≡ true
    unfolding refreshed with_entries audit_two audit
    audit-stays e =
        let c₁ = maps_sound x in
        let c₂ = c₁ && all (count_sound x) (up_from 0 x.sizes.n) in
        let c₃ = c₂ && all (expiry_two x) (up_from 0 x.sizes.n) in
        let c₄ = c₃ && prints_sound x in
        let c₅ = c₄ && current_sound x in
        let t₆ = and_true c₅ (backups_two x) e in
        let t₅ = and_true c₄ (current_sound x) t₆.0 in
        let t₄ = and_true c₃ (prints_sound x) t₅.0 in
        let t₃ = and_true c₂ (all (expiry_two x) (up_from 0 x.sizes.n)) t₄.0 in
        let t₂ = and_true c₁ (all (count_sound x) (up_from 0 x.sizes.n)) t₃.0 in
        rw (
          maps-sound ∙ t₂.0,
          ap (λ (f : ℕ → Bool). all f (up_from 0 x.sizes.n)) (λ i p. count_same p i) ∙ t₂.1,
          fresh_audited x,
          prints-sound ∙ t₄.1,
          current-sound ∙ t₅.1,
        ) (backups-sound t₆.1)
