-- Laws of specs/Chain.antt.
-- The chain: what is played on a fresh book is answered with what is owed and shows what the plain store shows, and the box goes on from
-- there as the claims say.
use Prim.Native.Nat.{ℕ, ◌+◌, ◌*◌}
use mathlib.Core.Path.{◌≡◌, refl, sym, ap, ap₂, ◌∙◌}
use mathlib.Core.Bool.{Bool, true, false, not, ◌||◌}
use mathlib.Core.List.{List, [], ◌∷◌, ◌++◌}
use lib.Dec.{ltb, eqb}
use lib.ListN.{length}
use Rattle.words.specs.Blocks.{block_size}
use Rattle.words.specs.Choice.{when◌then◌else◌}
use Rattle.words.specs.Lists.{all, some_of, up_from}
use Rattle.words.specs.Outcome.{accepted, unless}
use Rattle.book.specs.Book.{Sizes}
use Rattle.model.specs.Calls.{Call, backup, collect}
use Rattle.claims.specs.Claims.{Fresh, begin, our_end, says_damage}
use Rattle.model.specs.Days.{kept}
use Rattle.model.specs.History.{History, days_noted, sent_block, is_none, history_of, day_of, history_run_number, history_restore}
use Rattle.claims.proofs.claims.Proved.{lists, images, corollaries, end_append, next-alike}
use Rattle.model.specs.Sides.{end_of, Ours, ours, ours_shown}
use Rattle.calls.specs.Asked.{Asked, listed, restore, Reply, answer, restore_reply, reply_to, next_after, replies_of, left_by}
use Rattle.calls.specs.Doing.{DidAll}
use Rattle.calls.specs.Chain.{plain_answers, listed_of, owed, damage_reply, AsPlain, GoesOn}

-- restores leave book and pool to the calls
left-listed : (spare : ℕ) (o : Ours) (xs : List Asked) → left_by spare o xs ≡ end_of (ours spare) o (listed_of xs)
unfolding next_after
left-listed spare o [] = refl
left-listed spare o (listed c ∷ xs) = left-listed spare (ours spare o c).next xs
left-listed spare o (restore v k first many ∷ xs) = left-listed spare o xs

-- a restore isn't refused by a number of a damaged book
restore-undamaged : (l : ℕ) (h : History) (d k first many room : ℕ)
    → damage_reply (restore_reply many (history_restore l h d k first many room)) ≡ false
unfolding history_restore history_run_number restore_reply
restore-undamaged l h d k first many room =
    go (eqb h.retention 0) (eqb k 0 || ltb (length h.sent) k)
    (kept (days_noted h) h.retention d k)
    (ltb l (first + many) || ltb room (many * block_size)) (some_of (λ lbn. is_none (sent_block h k lbn)) (up_from first many)) _
  where
    go : (a b c e g : Bool) (blocks : List ℕ)
        → damage_reply (restore_reply many (unless
        (when a then 5 else when b then 15 else when not c then 16 else when e then 21 else when g then 18 else 0) (accepted blocks)))
        ≡ false
    go true b c e g blocks = refl
    go false true c e g blocks = refl
    go false false false e g blocks = refl
    go false false true true g blocks = refl
    go false false true false true blocks = refl
    go false false true false false blocks = refl

module _ (f : Fresh) where
  abbrev z : Sizes
  z = f.sizes

  -- after the calls cs, a list is told what is owed
  told-owed : (cs : List Call) (xs : List Asked) → replies_of f.spare (our_end f cs) xs ≡ owed z cs xs
  unfolding reply_to next_after
  told-owed cs [] = refl
  told-owed cs (listed c ∷ xs) =
      ap₂ (λ (r : Reply) (rs : List Reply). r ∷ rs) (ap answer (next-alike f cs c).answer)
      (ap (λ (o : Ours). replies_of f.spare o xs) (sym (end_append (ours f.spare) (begin f) cs (c ∷ [])))
      ∙ told-owed (cs ++ (c ∷ [])) xs)
  told-owed cs (restore v k first many ∷ xs) =
      ap₂ (λ (r : Reply) (rs : List Reply). r ∷ rs)
      (ap (restore_reply many) (rw (← (lists f cs).answers) ((images f cs).restores v k first many (many * block_size))))
      (told-owed cs xs)

  owed-undamaged : (cs : List Call) (xs : List Asked) → all (λ r. not (damage_reply r)) (owed z cs xs) ≡ true
  owed-undamaged cs [] = refl
  owed-undamaged cs (listed c ∷ xs) =
      rw (ap says_damage (sym (next-alike f cs c).answer) ∙ (next-alike f cs c).undamaged) (owed-undamaged (cs ++ (c ∷ [])) xs)
  owed-undamaged cs (restore v k first many ∷ xs) =
      rw (restore-undamaged z.l (history_of v cs (plain_answers z cs)) (day_of cs (plain_answers z cs)) k first many (many * block_size))
      (owed-undamaged cs xs)

  pub as_plain : (xs : List Asked) {out b' pool' out' : List ℕ} {w' : ℕ} → DidAll f.spare f.book f.pool xs out b' pool' out' w'
      → AsPlain z xs out b' pool' out' w'
  as_plain xs d = record {
    answers = rw (← told-owed [] xs) d.answers;
    written = rw (← told-owed [] xs) d.written;
    shown = ap ours_shown (d.end ∙ left-listed f.spare (begin f) xs) ∙ (lists f (listed_of xs)).shown;
    undamaged = owed-undamaged [] xs;
  }

  -- what holds of the next call, whichever it is, where the list left book and pool
  pub goes_on : (cs : List Call) → GoesOn z f.spare cs (our_end f cs)
  goes_on cs = record {
    freeing = λ t k p a h held. (lists f (cs ++ (collect t ∷ []))).freeing cs [] t k p refl a h held;
    touching = λ v t p list h n. (lists f (cs ++ (backup v t list ∷ []))).touching cs [] v t p list refl h n;
    reads = λ v k lbn. rw (← (lists f cs).answers) ((images f cs).reads v k lbn);
    restores = λ v k first many room. rw (← (lists f cs).answers) ((images f cs).restores v k first many room);
    audits = (corollaries f cs).audits;
    touches = (corollaries f cs).touches;
    collects = λ t k a.
        ap (λ (o : Ours). (ours f.spare o (collect t)).answer)
        (sym (end_append (ours f.spare) (record { book = f.book; pool = f.pool }) cs (collect t ∷ [])))
        ∙ (corollaries f cs).collects t k a;
  }

  pub played-on : (xs : List Asked) {b' pool' : List ℕ} → record { book = b'; pool = pool' } ≡ left_by f.spare (begin f) xs
      → GoesOn z f.spare (listed_of xs) (record { book = b'; pool = pool' })
  played-on xs e = rw (e ∙ left-listed f.spare (begin f) xs) (goes_on (listed_of xs))
