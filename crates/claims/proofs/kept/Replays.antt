-- One volume's part of a journal: its map after its backups, their images, and what holds of them because it holds of the journal.
use Prim.Native.Nat.{ℕ, suc, ◌≤◌, ◌<◌}
use mathlib.Core.Path.{◌≡◌, refl, sym, ap, ap₂, ◌∙◌}
use mathlib.Core.Bool.{Bool, true, false}
use mathlib.Core.List.{List, [], ◌∷◌, ◌++◌, map}
use mathlib.Core.Option.{Option, none, some}
use native.Mathlib.Omega.{arith}
use lib.Dec.{eqb}
use lib.ListN.{length, get_or, set, take, drop, length-set}
use lib.Seq.{get_or-set_same, get_or-set_other}
use borrow.Author.Tests.{eqb-true, eqb-false}
use Rattle.words.specs.Choice.{when◌then◌else◌}
use Rattle.words.proofs.ChoiceLaws.{not_both}
use Rattle.words.specs.Lists.{last_of}
use Rattle.book.specs.Book.{Slot, Rec, Book}
use Rattle.model.specs.Journal.{Backup, last_day, since_of, journal_of, journal, slots_in}
use Rattle.model.specs.JournalAt.{gone_after}
use Rattle.model.specs.Audit.{applied, replayed}
use Rattle.model.specs.Plain.{Taken, taken_of, days_of, maps_of}
use Rattle.claims.proofs.agreement.Agree.{taken_by, taken_from, images_of, taken_in}
use Rattle.claims.proofs.kept.Sound.{Sound, SoundAll, Days, EmptiedAll, Emptied}
use Rattle.claims.proofs.kept.JournalLaws.{length-applied}
use Rattle.claims.proofs.kept.TakenLaws.{Ends}

-- the map after a volume's backups
abbrev pub map_after : List ℕ → List Backup → List ℕ
map_after m [] = m
map_after m (b ∷ bs) = map_after (applied m b.records) bs

-- a volume's backups are sound over the map that they start from
unfoldable pub Sounds : List ℕ → List Backup → Type 0
Sounds m [] = Unit {0}
Sounds m (b ∷ bs) = Sound m b.records × Sounds (applied m b.records) bs

-- each backup notes the day of the one before it
unfoldable pub Linked : Option ℕ → List Backup → Type 0
Linked prev [] = Unit {0}
Linked prev (b ∷ bs) = (b.prev ≡ prev) × Linked (some b.day) bs

-- ---- images

pub taken_from_append : (ms : List (List ℕ)) (bs cs : List Backup)
    → taken_from ms (bs ++ cs) ≡ taken_from ms bs ++ taken_from (replayed ms bs) cs
taken_from_append ms [] cs = refl
taken_from_append ms (b ∷ bs) cs =
    ap (λ (is : List Taken). taken_by (get_or ms b.volume []) b ∷ is)
    (taken_from_append (set ms b.volume (applied (get_or ms b.volume []) b.records)) bs cs)

pub length_images_of : (m : List ℕ) (bs : List Backup) → length (maps_of (images_of m bs)) ≡ length bs
length_images_of m [] = refl
length_images_of m (b ∷ bs) = ap suc (length_images_of (applied m b.records) bs)

pub days_images_of : (m : List ℕ) (bs : List Backup) → days_of (images_of m bs) ≡ map (λ b. b.day) bs
days_images_of m [] = refl
days_images_of m (b ∷ bs) = ap (λ (r : List ℕ). b.day ∷ r) (days_images_of (applied m b.records) bs)

-- nothing follows a retirement, of which there is none here
pub images_of_ends : (m : List ℕ) (bs : List Backup) → Ends (images_of m bs)
images_of_ends m [] = tt
images_of_ends m (b ∷ bs) = (λ f. absurd (not_both true refl f), images_of_ends (applied m b.records) bs)

pub length_map_after : (m : List ℕ) (bs : List Backup) → length (map_after m bs) ≡ length m
length_map_after m [] = refl
length_map_after m (b ∷ bs) = length_map_after (applied m b.records) bs ∙ length-applied m b.records

-- ---- from the journal to a volume's part

pub slots_in-replayed : (v : ℕ) (ms : List (List ℕ)) (bs : List Backup) → v < length ms
    → get_or (replayed ms bs) v [] ≡ map_after (get_or ms v []) (slots_in v bs)
slots_in-replayed v ms [] h = refl
slots_in-replayed v ms (b ∷ bs) h =
    slots_in-replayed v (set ms b.volume (applied (get_or ms b.volume []) b.records)) bs (simp length-set h)
    ∙ go (eqb b.volume v) refl
  where
    go : (t : Bool) → eqb b.volume v ≡ t
        → map_after (get_or (set ms b.volume (applied (get_or ms b.volume []) b.records)) v []) (slots_in v bs)
        ≡ map_after (get_or ms v []) (when t then b ∷ slots_in v bs else slots_in v bs)
    go true e = rw (eqb-true b.volume v e, get_or-set_same)
    go false e =
        rw (get_or-set_other ms b.volume v (applied (get_or ms b.volume []) b.records) [] (λ q. eqb-false b.volume v e (sym q)))

-- what was taken of a volume, from what was taken of all
pub slots_in-taken : (v : ℕ) (ms : List (List ℕ)) (bs : List Backup) → v < length ms
    → taken_of v (taken_from ms bs) ≡ taken_in (get_or ms v []) (slots_in v bs)
slots_in-taken v ms [] h = refl
slots_in-taken v ms (b ∷ bs) h =
    go (eqb b.volume v) refl
    (slots_in-taken v (set ms b.volume (applied (get_or ms b.volume []) b.records)) bs (simp length-set h))
  where
    next : List (List ℕ)
    next = set ms b.volume (applied (get_or ms b.volume []) b.records)

    rest : List Taken
    rest = taken_of v (taken_from next bs)

    go : (t : Bool) → eqb b.volume v ≡ t → rest ≡ taken_in (get_or next v []) (slots_in v bs)
        → (when t then taken_by (get_or ms b.volume []) b ∷ rest else rest)
        ≡ taken_in (get_or ms v []) (when t then b ∷ slots_in v bs else slots_in v bs)
    go true e ih =
        let q = eqb-true b.volume v e in
        let same : get_or next v [] ≡ applied (get_or ms v []) b.records = rw (q, get_or-set_same) in
        ap₂ (λ (m : List ℕ) (is : List Taken). taken_by m b ∷ is) (ap (λ (w : ℕ). get_or ms w []) q)
        (ih ∙ ap (λ (m : List ℕ). taken_in m (slots_in v bs)) same)
    go false e ih =
        ih
        ∙ ap (λ (m : List ℕ). taken_in m (slots_in v bs))
        (get_or-set_other ms b.volume v (applied (get_or ms b.volume []) b.records) [] (λ q. eqb-false b.volume v e (sym q)))

pub slots_in-sound : (v : ℕ) (ms : List (List ℕ)) (bs : List Backup) → SoundAll ms bs → Sounds (get_or ms v []) (slots_in v bs)
unfolding SoundAll Sounds
slots_in-sound v ms [] s = tt
slots_in-sound v ms (b ∷ bs) s =
    go (eqb b.volume v) refl (slots_in-sound v (set ms b.volume (applied (get_or ms b.volume []) b.records)) bs s.2)
  where
    go : (t : Bool) → eqb b.volume v ≡ t
        → Sounds (get_or (set ms b.volume (applied (get_or ms b.volume []) b.records)) v []) (slots_in v bs)
        → Sounds (get_or ms v []) (when t then b ∷ slots_in v bs else slots_in v bs)
    go true e ih =
        let q = eqb-true b.volume v e in
        let k : v < length ms = rw q at s.0 in
        (rw q at s.1, rw (q, get_or-set_same) at ih)
    go false e ih =
        rw (get_or-set_other ms b.volume v (applied (get_or ms b.volume []) b.records) []
        (λ q. eqb-false b.volume v e (sym q))) at ih

pub slots_in_emptied : (l v : ℕ) (ms : List (List ℕ)) (bs : List Backup) → v < length ms → EmptiedAll l ms bs
    → Emptied l (get_or ms v []) (slots_in v bs)
unfolding EmptiedAll Emptied
slots_in_emptied l v ms [] h s = tt
slots_in_emptied l v ms (b ∷ bs) h s =
    go (eqb b.volume v) refl
    (slots_in_emptied l v (set ms b.volume (applied (get_or ms b.volume []) b.records)) bs (simp length-set h) s.1)
  where
    go : (t : Bool) → eqb b.volume v ≡ t
        → Emptied l (get_or (set ms b.volume (applied (get_or ms b.volume []) b.records)) v []) (slots_in v bs)
        → Emptied l (get_or ms v []) (when t then b ∷ slots_in v bs else slots_in v bs)
    go true e ih =
        let q = eqb-true b.volume v e in
        (rw q at s.0, rw (q, get_or-set_same) at ih)
    go false e ih =
        rw (get_or-set_other ms b.volume v (applied (get_or ms b.volume []) b.records) []
        (λ q. eqb-false b.volume v e (sym q))) at ih

days_sooner : (c d e : ℕ) (bs : List Backup) → c ≤ d → Days d bs e → Days c bs e
unfolding Days
days_sooner c d e [] h f = omega arith
days_sooner c d e (b ∷ bs) h f = (let k = f.0 in omega arith, f.1)

pub slots_in-days : (v d e : ℕ) (bs : List Backup) → Days d bs e → Days d (slots_in v bs) e
unfolding Days
slots_in-days v d e [] f = f
slots_in-days v d e (b ∷ bs) f = go (eqb b.volume v) (slots_in-days v b.day e bs f.1)
  where
    go : (t : Bool) → Days b.day (slots_in v bs) e → Days d (when t then b ∷ slots_in v bs else slots_in v bs) e
    go true ih = (f.0, ih)
    go false ih = days_sooner d b.day e (slots_in v bs) f.0 ih

-- ---- the day before a backup

pub journal-linked : (v : ℕ) (gone ts : List Slot) (rs : List Rec) → Linked (last_day v gone) (slots_in v (journal_of gone ts rs))
unfolding Linked
journal-linked v gone [] rs = tt
journal-linked v gone (t ∷ ts) rs = go (eqb t.volume v) refl (journal-linked v (t ∷ gone) ts (drop t.number rs))
  where
    rest : List Backup
    rest = slots_in v (journal_of (t ∷ gone) ts (drop t.number rs))

    b : Backup
    b = record { volume = t.volume; day = t.day; retire = t.retire; prev = last_day t.volume gone; records = take t.number rs }

    go : (s : Bool) → eqb t.volume v ≡ s → Linked (when s then some t.day else last_day v gone) rest
        → Linked (last_day v gone) (when s then b ∷ rest else rest)
    go true e ih = (ap (λ (w : ℕ). last_day w gone) (eqb-true t.volume v e), ih)
    go false e ih = ih

pub backups-linked : (x : Book) (v : ℕ) → Linked none (slots_in v (journal x))
unfolding journal
backups-linked x v = journal-linked v [] x.slots x.records

-- the last day of all slots is that of the volume's last backup
pub last-day : (v : ℕ) (gone ts : List Slot) (rs : List Rec)
    → since_of (last_day v (gone_after gone ts))
    ≡ last_of (since_of (last_day v gone)) (map (λ (b : Backup). b.day) (slots_in v (journal_of gone ts rs)))
last-day v gone [] rs = refl
last-day v gone (t ∷ ts) rs = last-day v (t ∷ gone) ts (drop t.number rs) ∙ go (eqb t.volume v)
  where
    rest : List Backup
    rest = slots_in v (journal_of (t ∷ gone) ts (drop t.number rs))

    b : Backup
    b = record { volume = t.volume; day = t.day; retire = t.retire; prev = last_day t.volume gone; records = take t.number rs }

    go : (s : Bool) → last_of (since_of (when s then some t.day else last_day v gone)) (map (λ (b : Backup). b.day) rest)
        ≡ last_of (since_of (last_day v gone)) (map (λ (b : Backup). b.day) (when s then b ∷ rest else rest))
    go true = refl
    go false = refl
