-- Laws of journals where backups are added behind the others: what a backup's proof needs.
use Prim.Native.Nat.{ℕ, suc, ◌+◌, ◌≤◌, max}
use mathlib.Core.Path.{◌≡◌, refl, ◌∙◌}
use mathlib.Core.Bool.{true, ◌&&◌, ◌||◌}
use mathlib.Core.List.{List, [], ◌∷◌, ◌++◌}
use native.Mathlib.Nat.{zero-add}
use native.Mathlib.Omega.{arith}
use lib.Dec.{leb, ltb, eqb}
use lib.ListN.{length, get_or, set, drop, length-set, length-drop}
use lib.Seq.{take-append-le, drop-append-le, take-length}
use borrow.Author.Tests.{eqb-true, ltb-true}
use Rattle.words.proofs.ChoiceLaws.{and_true, or_no}
use Rattle.words.proofs.Appends.{those_append, some_of_append}
use Rattle.words.specs.Lists.{all}
use Rattle.book.specs.Book.{Slot, Rec, Book, retention_of}
use Rattle.book.specs.Form.{pairs_ok}
use Rattle.model.specs.Journal.{Backup, last_day, journal_of, journal, slots_in}
use Rattle.model.specs.JournalAt.{gone_after}
use Rattle.model.specs.Audit.{applied, replayed, has_before, due_of, until_in}
use Rattle.claims.proofs.agreement.Agree.{reaches}
use Rattle.claims.proofs.kept.Sound.{Sound, SoundAll, Days, Rising, AllRise, EmptiedAll}

-- ---- one slot more, with its records behind the others

-- the last pair ends where the records end
pub pairs_end : (at : ℕ) (ts : List Slot) (u : ℕ) → pairs_ok at ts u ≡ true → at ≤ u
pairs_end at [] u e = omega (arith, eqb-true at u e)
pairs_end at (t ∷ ts) u e =
    let z = pairs_end (at + t.number) ts u (and_true (eqb t.first at) (pairs_ok (at + t.number) ts u) e).1 in
    omega arith

-- the backup that a slot adds behind slots ts, with its records
abbrev pub added : List Slot → Slot → List Rec → Backup
added ts t qs = record { volume = t.volume; day = t.day; retire = t.retire; prev = last_day t.volume (gone_after [] ts); records = qs }

journal_of_append : (gone ts : List Slot) (rs : List Rec) (t : Slot) (qs : List Rec) (at : ℕ)
    → pairs_ok at ts (at + length rs) ≡ true → length qs ≡ t.number
    → journal_of gone (ts ++ (t ∷ [])) (rs ++ qs)
    ≡ journal_of gone ts rs
    ++ (record { volume = t.volume; day = t.day; retire = t.retire; prev = last_day t.volume (gone_after gone ts); records = qs } ∷ [])
journal_of_append gone [] [] t qs at e f = rw (← f, take-length)
journal_of_append gone [] (r ∷ rs) t qs at e f = absurd (omega (arith, eqb-true at (at + suc (length rs)) e))
journal_of_append gone (a ∷ ts) rs t qs at e f =
    let ok = (and_true (eqb a.first at) (pairs_ok (at + a.number) ts (at + length rs)) e).1 in
    let end = pairs_end (at + a.number) ts (at + length rs) ok in
    let h : a.number ≤ length rs = omega arith in
    let left : at + length rs ≡ at + a.number + length (drop a.number rs) = rw length-drop (omega arith) in
    rw (take-append-le, drop-append-le, journal_of_append (a ∷ gone) ts (drop a.number rs) t qs (at + a.number) (rw left at ok) f)

pub journal_append : (ts : List Slot) (rs : List Rec) (t : Slot) (qs : List Rec) → pairs_ok 0 ts (length rs) ≡ true → length qs ≡ t.number
    → journal_of [] (ts ++ (t ∷ [])) (rs ++ qs) ≡ journal_of [] ts rs ++ (added ts t qs ∷ [])
journal_append ts rs t qs e f = journal_of_append [] ts rs t qs 0 (rw zero-add e) f

-- ---- records put into a map

pub applied_append : (m : List ℕ) (rs qs : List Rec) → applied m (rs ++ qs) ≡ applied (applied m rs) qs
applied_append m [] qs = refl
applied_append m (r ∷ rs) qs = applied_append (set m r.lbn r.after) rs qs

pub length-applied : (m : List ℕ) (rs : List Rec) → length (applied m rs) ≡ length m
length-applied m [] = refl
length-applied m (r ∷ rs) = length-applied (set m r.lbn r.after) rs ∙ length-set m r.lbn r.after

pub sound_append : (m : List ℕ) (rs qs : List Rec) → Sound m rs → Sound (applied m rs) qs → Sound m (rs ++ qs)
unfolding Sound
sound_append m [] qs s t = t
sound_append m (r ∷ rs) qs s t = (s.0, s.1, sound_append (set m r.lbn r.after) rs qs s.2 t)

-- records that rise from a and stay below e, and then one at e or above
pub rising_append : (a e : ℕ) (rs : List Rec) (r : Rec) → Rising a rs → all (λ q. ltb q.lbn e) rs ≡ true → a ≤ r.lbn → e ≤ r.lbn
    → Rising a (rs ++ (r ∷ []))
unfolding Rising
rising_append a e [] r s b h k = (h, tt)
rising_append a e (q ∷ rs) r s b h k =
    let w = and_true (ltb q.lbn e) (all (λ q. ltb q.lbn e) rs) b in
    let l = ltb-true q.lbn e w.0 in
    (s.0, rising_append (suc q.lbn) e rs r s.1 w.1 (omega arith) k)

-- ---- backups

pub slots_in_append : (v : ℕ) (bs cs : List Backup) → slots_in v (bs ++ cs) ≡ slots_in v bs ++ slots_in v cs
slots_in_append v bs cs = those_append (λ (b : Backup). eqb b.volume v) bs cs

pub replayed_append : (ms : List (List ℕ)) (bs cs : List Backup) → replayed ms (bs ++ cs) ≡ replayed (replayed ms bs) cs
replayed_append ms [] cs = refl
replayed_append ms (b ∷ bs) cs = replayed_append (set ms b.volume (applied (get_or ms b.volume []) b.records)) bs cs

pub length-replayed : (ms : List (List ℕ)) (bs : List Backup) → length (replayed ms bs) ≡ length ms
length-replayed ms [] = refl
length-replayed ms (b ∷ bs) =
    length-replayed (set ms b.volume (applied (get_or ms b.volume []) b.records)) bs
    ∙ length-set ms b.volume (applied (get_or ms b.volume []) b.records)

pub sound_all_append : (ms : List (List ℕ)) (bs cs : List Backup) → SoundAll ms bs → SoundAll (replayed ms bs) cs → SoundAll ms (bs ++ cs)
unfolding SoundAll
sound_all_append ms [] cs s t = t
sound_all_append ms (b ∷ bs) cs s t =
    (s.0, s.1, sound_all_append (set ms b.volume (applied (get_or ms b.volume []) b.records)) bs cs s.2 t)

pub emptied_append : (l : ℕ) (ms : List (List ℕ)) (bs cs : List Backup) → EmptiedAll l ms bs → EmptiedAll l (replayed ms bs) cs
    → EmptiedAll l ms (bs ++ cs)
unfolding EmptiedAll
emptied_append l ms [] cs s t = t
emptied_append l ms (b ∷ bs) cs s t =
    (s.0, emptied_append l (set ms b.volume (applied (get_or ms b.volume []) b.records)) bs cs s.1 t)

pub days_append : (d e : ℕ) (bs : List Backup) (b : Backup) → Days d bs e → e ≤ b.day → Days d (bs ++ (b ∷ [])) b.day
unfolding Days
days_append d e [] b f h = (omega arith, omega arith)
days_append d e (a ∷ bs) b f h = (f.0, days_append a.day e bs b f.1 h)

pub days-later : (d e e' : ℕ) (bs : List Backup) → Days d bs e → e ≤ e' → Days d bs e'
unfolding Days
days-later d e e' [] f h = omega arith
days-later d e e' (a ∷ bs) f h = (f.0, days-later a.day e e' bs f.1 h)

pub all_rise_append : (bs : List Backup) (b : Backup) → AllRise bs → Rising 0 b.records → AllRise (bs ++ (b ∷ []))
unfolding AllRise
all_rise_append [] b s r = (r, tt)
all_rise_append (a ∷ bs) b s r = (s.0, all_rise_append bs b s.1 r)

-- ---- befores

pub has_before_append : (p : ℕ) (rs qs : List Rec) → has_before p (rs ++ qs) ≡ (has_before p rs || has_before p qs)
has_before_append p rs qs = some_of_append (λ (r : Rec). eqb r.before p) rs qs

pub until_in_append : (x : Book) (p : ℕ) (bs cs : List Backup) → until_in x p (bs ++ cs) ≡ max (until_in x p bs) (until_in x p cs)
until_in_append x p [] cs = omega arith
until_in_append x p (b ∷ bs) cs = let ih = until_in_append x p bs cs in omega arith

-- by the retentions alone
pub until_in-book : (x y : Book) (p : ℕ) (bs : List Backup) → y.retentions ≡ x.retentions → until_in y p bs ≡ until_in x p bs
until_in-book x y p [] e = refl
until_in-book x y p (b ∷ bs) e = rw (until_in-book x y p bs e, e)

pub reaches_append : (x y : Book) (d p : ℕ) (b : Backup) → y.retentions ≡ x.retentions → journal y ≡ journal x ++ (b ∷ [])
    → reaches y d p ≡ (reaches x d p || (leb d (due_of (retention_of x b.volume) b) && has_before p b.records))
unfolding reaches
reaches_append x y d p b e f = simp (e, f, some_of_append, or_no)
