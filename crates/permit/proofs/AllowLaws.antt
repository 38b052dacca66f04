-- Laws of numbers 1 to 10: what each test that the code makes says of the whole call.
use Prim.Native.Nat.{ℕ, suc, ◌+◌, ◌*◌, ◌≤◌, ◌<◌}
use mathlib.Core.Path.{◌≡◌, refl, sym, ap, ◌∙◌}
use mathlib.Core.Bool.{Bool, true, false}
use mathlib.Core.List.{List, [], ◌∷◌}
use native.Mathlib.Omega.{arith}
use lib.Dec.{eqb}
use lib.ListN.{length, length-map}
use borrow.Author.Tests.{lt-ltb, le-ltb, le-leb, lt-leb, eq-eqb, ne_eqb, ltb-false}
use Rattle.words.proofs.Refused.{unless-number, unless-refusal}
use Rattle.words.proofs.Tests.{or_neither}
use Rattle.words.specs.Blocks.{block_size}
use Rattle.words.specs.Choice.{when◌then◌else◌}
use Rattle.words.specs.Lists.{those, last_of}
use Rattle.words.specs.Outcome.{Outcome, refused, accepted, and_then, unless}
use Rattle.words.specs.Refusals.{number}
use Rattle.words.specs.declared.refusals.Refusal.{Refusal}
use Rattle.runs.specs.Changes.{change_count, changes, list_number}
use Rattle.book.specs.Book.{Book, retention_of}
use Rattle.book.specs.Layout.{book_of}
use Rattle.book.specs.Form.{form_number}
use Rattle.model.specs.Days.{bad_day, not_after}
use Rattle.model.specs.Journal.{Backup, journal, slots_of, days, is_retired, no_volume, no_living}
use Rattle.model.specs.Backup.{until_next, Work, Backed, run_changes, begun, closed, backup_number, backup}
use Rattle.claims.proofs.kept.DayLaws.{good-day, last-before}
use Rattle.claims.proofs.kept.JournalAtLaws.{length-journal}
use Rattle.model.specs.OnBytes.{spare_number, BackedBytes, backed_bytes, backup_bytes}
use Rattle.buffers.specs.Buffers.{or_number, buffers_number}
use Rattle.buffers.proofs.BuffersLaws.{or-first, or-zero, if_zero, unless-or, buffers_facts, buffers_order}
use Rattle.permit.specs.Allowing.{lent_number, day_refused, day_number, volume_number, room_number, goes_on}

-- ---- numbers 1 to 4

module _ (b pool : List ℕ) (spare : ℕ) where
  pub lent-first : (k : ℕ) → k ≡ buffers_number b pool → (k ≡ 0 → ⊥) → k ≡ lent_number b pool spare
  unfolding lent_number
  lent-first k e n = e ∙ sym (or-first (buffers_number b pool) _ (λ z. n (e ∙ z)))

  module _ (good : buffers_number b pool ≡ 0) where
    pub lent_four : spare < length b → 4 ≡ lent_number b pool spare
    unfolding lent_number spare_number
    lent_four h = rw (good, lt-ltb _ _ h)

    pub lent_none : length b ≤ spare → 0 ≡ lent_number b pool spare
    unfolding lent_number spare_number
    lent_none h = rw (good, le-ltb _ _ h)

  pub lent-facts : lent_number b pool spare ≡ 0 → (form_number b ≡ 0) × (length pool ≡ (book_of b).sizes.n * block_size) × (length b ≤ spare)
  unfolding lent_number spare_number
  lent-facts e =
      let f = or-zero (buffers_number b pool) (spare_number b spare) e in
      let g = buffers_facts b pool f.0 in
      (g.0, g.1, ltb-false _ _ (if_zero _ 3 f.1))

-- ---- numbers 5 and 7, with the volume's next slot

module _ (x : Book) (v t : ℕ) where
  pub five-above : 7 < v → 5 ≡ volume_number x v t
  unfolding volume_number no_living no_volume
  five-above h = rw (lt-ltb 7 v h)

  module _ (high : v ≤ 7) where
    pub five-none : retention_of x v ≡ 0 → 5 ≡ volume_number x v t
    unfolding volume_number no_living no_volume
    five-none e = rw (le-ltb 7 v high, eq-eqb (retention_of x v) 0 e)

    module _ (own : retention_of x v ≡ 0 → ⊥) where
      pub five-retired : is_retired x v ≡ true → 5 ≡ volume_number x v t
      unfolding volume_number no_living no_volume
      five-retired e = rw (le-ltb 7 v high, ne_eqb (retention_of x v) 0 own, e)

      pub by-day : is_retired x v ≡ false → day_number x v t ≡ volume_number x v t
      unfolding volume_number no_living no_volume
      by-day e = rw (le-ltb 7 v high, ne_eqb (retention_of x v) 0 own, e)

  -- it is a day, and the volume's last slot isn't after it
  pub day-facts : day_number x v t ≡ 0 → (t ≤ 60000) × (last_of 0 (days x v) ≤ t)
  unfolding day_refused
  day-facts e =
      let d = or_neither (bad_day x.day t) (not_after (days x v) t) (if_zero (day_refused x v t) 6 e) in
      (((good-day x.day t).0 d.0).1, last-before (days x v) t d.1)

-- ---- numbers 5 to 10, in order

in_order : (a b : Bool) (k : ℕ) → (when a then 5 else when b then 7 else k) ≡ or_number (when a then 5 else when b then 7 else 0) k
in_order true b k = refl
in_order false true k = refl
in_order false false k = refl

-- 5 and 7, and k is whatever comes after them
module _ (x : Book) (v t k : ℕ) where
  pub two-first : (volume_number x v t ≡ 0 → ⊥)
      → (when no_living x v then 5 else when day_refused x v t then 7 else k) ≡ volume_number x v t
  unfolding volume_number
  two-first n = in_order (no_living x v) (day_refused x v t) k ∙ or-first (volume_number x v t) k n

  pub two_past : volume_number x v t ≡ 0 → (when no_living x v then 5 else when day_refused x v t then 7 else k) ≡ k
  unfolding volume_number
  two_past e = in_order (no_living x v) (day_refused x v t) k ∙ rw e

module _ (x : Book) (v t : ℕ) (list : List ℕ) where
  pub by-volume : (volume_number x v t ≡ 0 → ⊥) → backup_number x v t list ≡ volume_number x v t
  unfolding backup_number day_refused
  by-volume n = two-first x v t _ n

  module _ (allowed : volume_number x v t ≡ 0) where
    pub eight : list_number x.sizes.l list ≡ 8 → backup_number x v t list ≡ 8
    unfolding backup_number day_refused
    eight e = two_past x v t _ allowed ∙ rw e

    pub by-room : list_number x.sizes.l list ≡ 0 → backup_number x v t list ≡ room_number x (change_count list)
    unfolding backup_number day_refused room_number
    by-room e = two_past x v t _ allowed ∙ rw e

-- ---- number 7, with the volume's backups

module _ (x : Book) (v t : ℕ) where
  pub day-late : 60000 < t → 7 ≡ day_number x v t
  unfolding day_refused bad_day
  day-late h = rw (lt-ltb 60000 t h)

  module _ (late : t ≤ 60000) where
    pub day-early : t < x.day → 7 ≡ day_number x v t
    unfolding day_refused bad_day
    day-early h = rw (le-ltb 60000 t late, lt-ltb t x.day h)

    module _ (early : x.day ≤ t) where
      pub day-first : length (days x v) ≡ 0 → 0 ≡ day_number x v t
      unfolding day_refused bad_day not_after
      day-first e = rw (le-ltb 60000 t late, le-ltb t x.day early, eq-eqb (length (days x v)) 0 e)

      module _ (some : length (days x v) ≡ 0 → ⊥) where
        pub day-again : t ≤ last_of 0 (days x v) → 7 ≡ day_number x v t
        unfolding day_refused bad_day not_after
        day-again h = rw (le-ltb 60000 t late, le-ltb t x.day early, ne_eqb (length (days x v)) 0 some, le-leb t _ h)

        pub day-next : last_of 0 (days x v) < t → 0 ≡ day_number x v t
        unfolding day_refused bad_day not_after
        day-next h = rw (le-ltb 60000 t late, le-ltb t x.day early, ne_eqb (length (days x v)) 0 some, lt-leb t _ h)

-- ---- numbers 9 and 10

module _ (x : Book) (n : ℕ) where
  pub room-nine : x.sizes.s ≤ length x.slots → 9 ≡ room_number x n
  unfolding room_number
  room-nine h = rw (le-leb x.sizes.s (length x.slots) h)

  pub room_ten : length x.slots < x.sizes.s → x.sizes.j < length x.records + n → 10 ≡ room_number x n
  unfolding room_number
  room_ten h k = rw (lt-leb x.sizes.s (length x.slots) h, lt-ltb x.sizes.j (length x.records + n) k)

  pub room-none : length x.slots < x.sizes.s → length x.records + n ≤ x.sizes.j → 0 ≡ room_number x n
  unfolding room_number
  room-none h k = rw (lt-leb x.sizes.s (length x.slots) h, le-ltb x.sizes.j (length x.records + n) k)

-- ---- the call

-- what is made of an outcome twice is made of it at once
pub then-then : {A B C : Type 0} (o : Outcome A) (f : A → B) (g : B → C)
    → and_then (and_then o (λ a. accepted (f a))) (λ b. accepted (g b)) ≡ and_then o (λ a. accepted (g (f a)))
then-then (refused k) f g = refl
then-then (accepted a) f g = refl

module _ (b pool : List ℕ) (spare v t : ℕ) (list : List ℕ) where
  abbrev inner : Outcome BackedBytes
  inner = and_then (backup (book_of b) pool v t list) (λ (d : Backed). accepted (backed_bytes d))

  by-lent : backup_bytes b pool spare v t list
      ≡ unless (lent_number b pool spare)
      (and_then (backup (book_of b) pool v t list) (λ (d : Backed). accepted (backed_bytes d)))
  unfolding backup_bytes lent_number
  by-lent = buffers_order b pool (unless (spare_number b spare) inner) ∙ unless-or (buffers_number b pool) (spare_number b spare) inner

  pub lent-refused : (e : Refusal) → number e ≡ lent_number b pool spare → backup_bytes b pool spare v t list ≡ refused (number e)
  lent-refused e h = by-lent ∙ unless-refusal e inner h

  module _ (e : lent_number b pool spare ≡ 0) where
    pub number-refused : (r : Refusal) → backup_number (book_of b) v t list ≡ number r → backup_bytes b pool spare v t list ≡ refused (number r)
    unfolding backup
    number-refused r f =
        by-lent ∙ rw (e, f)
        (ap (λ (o : Outcome Backed). and_then o (λ (d : Backed). accepted (backed_bytes d)))
        (unless-number r (and_then (run_changes v (until_next (book_of b) v) (changes list) (begun (book_of b) pool))
        (λ (w : Work). accepted (closed (book_of b) v t (change_count list) w)))))

    pub goes_on_lem : backup_number (book_of b) v t list ≡ 0 → backup_bytes b pool spare v t list ≡ goes_on (book_of b) pool v t list
    unfolding backup
    goes_on_lem f =
        by-lent ∙ rw (e, f)
        (then-then (run_changes v (until_next (book_of b) v) (changes list) (begun (book_of b) pool))
        (closed (book_of b) v t (change_count list)) backed_bytes)

-- ---- a volume has no more slots than are used

length-those : {A : Type 0} (f : A → Bool) (xs : List A) → length (those f xs) ≤ length xs
length-those f [] = omega arith
length-those f (x ∷ xs) = go (f x) (length-those f xs)
  where
    go : (t : Bool) → length (those f xs) ≤ length xs → length (when t then x ∷ those f xs else those f xs) ≤ suc (length xs)
    go true h = omega arith
    go false h = omega arith

pub days-bound : (x : Book) (v : ℕ) → length (days x v) ≤ length x.slots
unfolding days slots_of
days-bound x v =
    omega (arith, length-map (slots_of x v) (λ b. b.day), length-those (λ (b : Backup). eqb b.volume v) (journal x), length-journal x)
