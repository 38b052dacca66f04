-- Enrol keeps both sides alike: a volume that isn't enrolled has no backup, so its retention counts nowhere yet.
use Prim.Native.Nat.{ℕ, ◌<◌}
use mathlib.Core.Path.{◌≡◌, refl, sym, ap, ◌∙◌}
use mathlib.Core.Logic.{◌≢◌}
use mathlib.Core.Bool.{Bool, true, false, ◌||◌}
use mathlib.Core.List.{List, [], ◌∷◌}
use native.Mathlib.Omega.{arith}
use lib.Dec.{ltb}
use lib.ListN.{set, drop}
use lib.Seq.{get_or-set_other}
use borrow.Author.Tests.{ltb-false}
use Rattle.words.specs.Choice.{when◌then◌else◌}
use Rattle.words.proofs.ChoiceLaws.{and_true, not_both}
use Rattle.words.specs.Lists.{all, some_of}
use Rattle.book.specs.Book.{volumes, Slot, Rec, Book}
use Rattle.book.specs.Form.{enrolled, slot_ok}
use Rattle.book.specs.Next.{with_retention}
use Rattle.book.proofs.Clauses.{book-parts}
use Rattle.book.proofs.Conditions.{slot-facts}
use Rattle.model.specs.Days.{bad_retention}
use Rattle.model.specs.Journal.{Backup, journal_of, journal}
use Rattle.model.specs.Enrol.{enrol_number}
use Rattle.model.specs.Audit.{no_maps, until_in, prints_sound}
use Rattle.model.specs.Plain
use Rattle.model.specs.Plain.{Plain}
use Rattle.claims.proofs.agreement.Agree.{Fit, Agree, named, reaches}
use Rattle.claims.proofs.agreement.AgreeLaws.{enrolled-agree}
use Rattle.claims.proofs.kept.Reaches.{reaches_by}

-- ---- the backups of other volumes

Apart : ℕ → List Backup → Type 0
Apart v [] = Unit {0}
Apart v (b ∷ bs) = (b.volume ≢ v) × Apart v bs

-- the retention of a volume without backups counts nowhere
module _ (x : Book) (v r : ℕ) where
  apart-until : (p : ℕ) (bs : List Backup) → Apart v bs → until_in (with_retention v r x) p bs ≡ until_in x p bs
  unfolding Apart with_retention
  apart-until p [] a = refl
  apart-until p (b ∷ bs) a = rw (apart-until p bs a.1, get_or-set_other x.retentions v b.volume r 0 a.0)

  apart-reaches : (d p : ℕ) (bs : List Backup) → Apart v bs → some_of (reaches_by (with_retention v r x) d p) bs ≡ some_of (reaches_by x d p) bs
  unfolding Apart with_retention
  apart-reaches d p [] a = refl
  apart-reaches d p (b ∷ bs) a = rw (apart-reaches d p bs a.1, get_or-set_other x.retentions v b.volume r 0 a.0)

-- "used slots name enrolled volumes"
slots_apart : (x : Book) (v : ℕ) (gone ts : List Slot) (rs : List Rec) → enrolled x v ≡ false → all (slot_ok x) ts ≡ true
    → Apart v (journal_of gone ts rs)
unfolding Apart
slots_apart x v gone [] rs n e = tt
slots_apart x v gone (t ∷ ts) rs n e =
    let w = and_true (slot_ok x t) (all (slot_ok x) ts) e in
    let on = (slot-facts x t w.0).0 in
    (λ q. not_both (enrolled x v) (rw q at on) n, slots_apart x v (t ∷ gone) ts (drop t.number rs) n w.1)

-- ---- enrol

pub enrol-volume : (x : Book) (v r : ℕ) → enrol_number x v r ≡ 0 → (v < volumes) × (enrolled x v ≡ false)
unfolding enrol_number
enrol-volume x v r e = go (ltb 7 v) (enrolled x v) (bad_retention r) refl refl e
  where
    go : (a b c : Bool) → ltb 7 v ≡ a → enrolled x v ≡ b → ◌≡◌ {A = ℕ} (when a || b then 5 else when c then 6 else 0) 0
        → (v < volumes) × (b ≡ false)
    go true b c f h e = absurd (omega arith)
    go false true c f h e = absurd (omega arith)
    go false false c f h e = (omega (arith, ltb-false 7 v f), refl)

module _ {x : Book} {pool : List ℕ} {q : Plain} (g : Agree x pool q) where
  pub enrol-number : (v r : ℕ) → enrol_number x v r ≡ Plain.enrol_number q v r
  unfolding enrol_number Plain.enrol_number
  enrol-number v r = rw (enrolled-agree g v)

  pub enrol-agree : (v r : ℕ) → enrol_number x v r ≡ 0 → Fit (with_retention v r x)
      → Agree (with_retention v r x) pool (Plain.with_retention v r q)
  unfolding with_retention Plain.with_retention journal no_maps named reaches prints_sound
  enrol-agree v r ok fit = record {
    fit = fit;
    pool_long = g.pool_long;
    sizes = g.sizes;
    day = g.day;
    cursor = g.cursor;
    blocks = g.blocks;
    retentions = ap (λ (rs : List ℕ). set rs v r) g.retentions;
    taken = g.taken;
    maps = g.maps;
    sound = g.sound;
    days = g.days;
    rising = g.rising;
    emptied = g.emptied;
    counts = g.counts;
    expiries = λ p h. g.expiries p h ∙ sym (apart-until x v r p (journal x) apart);
    used = λ z p h k n. apart-reaches x v r 0 p (journal x) apart ∙ g.used z p h k n;
    free = λ p h k. let w = g.free p h k in (w.0, apart-reaches x v r x.day p (journal x) apart ∙ w.1);
    prints = g.prints;
  }
    where
      apart : Apart v (journal x)
      apart = slots_apart x v [] x.slots x.records (enrol-volume x v r ok).1 (book-parts x g.fit.form).slots
