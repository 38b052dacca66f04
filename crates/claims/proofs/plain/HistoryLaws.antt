-- What a history says of a block after one more backup, of the days that backups are kept, and of the bytes that a read gives.
use Prim.Native.Nat.{ℕ, zero, suc, ◌≤◌}
use mathlib.Core.Path.{◌≡◌, refl, sym}
use mathlib.Core.Bool.{Bool, true, false, not, ◌||◌}
use mathlib.Core.List.{List, [], ◌∷◌, ◌++◌, map, append-nil}
use mathlib.Core.Option.{Option, none, some}
use native.Mathlib.Omega.{arith}
use lib.Dec.{leb, ltb, eqb}
use lib.ListN.{length, get_or, take, drop, length-append, get_or-append}
use lib.Seq.{take-append-le, take_all, take-length, drop-append-le}
use Rattle.words.specs.Choice.{when◌then◌else◌}
use Rattle.words.specs.Lists.{or_else, joined}
use Rattle.words.proofs.Appends.{map_append, joined_append}
use Rattle.words.specs.Outcome.{accepted, unless}
use Rattle.runs.specs.Changes.{Change}
use Rattle.model.specs.Days.{kept_by, kept}
use Rattle.claims.proofs.kept.DayLaws.{kept-own}
use Rattle.model.specs.Calls.{block}
use Rattle.model.specs.Sides.{read_answer}
use Rattle.model.specs.History.{Sent, History, with_sent, days_noted, last_block, sent_block, is_none, block_or, history_number, history_read}

-- ---- the last block sent

pub or_else_else : (a b c : Option (List ℕ)) → or_else a (or_else b c) ≡ or_else (or_else a b) c
or_else_else none b c = refl
or_else_else (some x) b c = refl

else_none : (a : Option (List ℕ)) → a ≡ or_else a none
else_none none = refl
else_none (some x) = refl

last_block_append : (lbn : ℕ) (xs ys : List Change) → last_block lbn (xs ++ ys) ≡ or_else (last_block lbn ys) (last_block lbn xs)
last_block_append lbn [] ys = else_none (last_block lbn ys)
last_block_append lbn (x ∷ xs) ys =
    rw (last_block_append lbn xs ys)
    (sym (or_else_else (last_block lbn ys) (last_block lbn xs) (when eqb x.lbn lbn then some x.block else none)))

module _ (h : History) (s : Sent) where
  -- an earlier backup keeps what it sent
  pub sent-earlier : (k lbn : ℕ) → k ≤ length h.sent → sent_block (with_sent s h) k lbn ≡ sent_block h k lbn
  unfolding sent_block with_sent
  sent-earlier k lbn e = rw (take-append-le k h.sent (s ∷ []) e)

  -- the new one has what it sent, or else what the one before it has
  pub sent_newest : (lbn : ℕ) → sent_block (with_sent s h) (suc (length h.sent)) lbn
      ≡ or_else (last_block lbn s.changes) (sent_block h (length h.sent) lbn)
  unfolding sent_block with_sent
  sent_newest lbn =
      let all : take (suc (length h.sent)) (h.sent ++ (s ∷ [])) ≡ h.sent ++ (s ∷ []) =
      take_all (suc (length h.sent)) (h.sent ++ (s ∷ [])) (rw length-append (omega arith)) in
      rw (all, take-length, map_append, joined_append, append-nil)
      (last_block_append lbn (joined (map (λ (s : Sent). s.changes) h.sent)) s.changes)

-- ---- the days that a backup is kept

-- kept later, kept earlier
pub kept-earlier : (ds : List ℕ) (r d t k : ℕ) → d ≤ t → kept ds r t k ≡ true → kept ds r d k ≡ true
unfolding kept
kept-earlier ds r d t zero h e = e
kept-earlier ds r d t (suc k) h e = go (get_or ds k 0) (drop (suc k) ds) e
  where
    go : (own : ℕ) (ts : List ℕ) → kept_by own ts r t ≡ true → kept_by own ts r d ≡ true
    go own [] e = refl
    go own (x ∷ ts) e = (kept-own own x ts r d).1 (let z = (kept-own own x ts r t).0 e in omega arith)

-- one more backup makes no other kept longer, and neither does a retirement
pub kept-shorter : (ds : List ℕ) (x r d k : ℕ) → k ≤ length ds → kept (ds ++ (x ∷ [])) r d k ≡ true → kept ds r d k ≡ true
unfolding kept
kept-shorter ds x r d zero h e = e
kept-shorter ds x r d (suc k) h e = go (drop (suc k) ds) (rw (drop-append-le (suc k) ds (x ∷ []) h) at e)
  where
    go : (ts : List ℕ) → kept_by (get_or (ds ++ (x ∷ [])) k 0) (ts ++ (x ∷ [])) r d ≡ true → kept_by (get_or ds k 0) ts r d ≡ true
    go [] e = refl
    go (y ∷ ts) e = rw (get_or-append ds (x ∷ []) 0 k (omega arith)) at e

-- ---- the read

-- the bytes that a read gives were sent: they are those of the LBN's last change in backups 1 to k
pub read-was-sent : (l : ℕ) (h : History) (d k lbn : ℕ) (b : List ℕ) → history_read l h d k lbn ≡ block b → sent_block h k lbn ≡ some b
unfolding history_read history_number read_answer
read-was-sent l h d k lbn b e =
    go (eqb h.retention 0) (eqb k 0 || ltb (length h.sent) k)
    (not (kept (days_noted h) h.retention d k)) (leb l lbn)
    (sent_block h k lbn) e
  where
    go : (t u v w : Bool) (o : Option (List ℕ))
        → read_answer (unless (when t then 5 else when u then 15 else when v then 16 else when w then 17 else when is_none o then 18
        else 0) (accepted (block_or [] o))) ≡ block b
        → o ≡ some b
    go true u v w o e = absurd (let z : ◌≡◌ {A = ℕ} 0 1 = cc in omega arith)
    go false true v w o e = absurd (let z : ◌≡◌ {A = ℕ} 0 1 = cc in omega arith)
    go false false true w o e = absurd (let z : ◌≡◌ {A = ℕ} 0 1 = cc in omega arith)
    go false false false true o e = absurd (let z : ◌≡◌ {A = ℕ} 0 1 = cc in omega arith)
    go false false false false none e = absurd (let z : ◌≡◌ {A = ℕ} 0 1 = cc in omega arith)
    go false false false false (some c) e = cc
