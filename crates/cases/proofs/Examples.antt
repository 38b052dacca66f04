-- The claims on cases a to j: a fresh book that meets their hypotheses, and what they say there.
use Prim.Native.Nat.{ℕ, ◌*◌, ◌≤◌, ◌<◌}
use mathlib.Core.Path.{◌≡◌, refl, ap, ◌∙◌}
use mathlib.Core.Bool.{true, false, not}
use mathlib.Core.List.{List, [], ◌∷◌, ◌++◌, map}
use native.Mathlib.Omega.{arith}
use lib.ListN.{get_or, take, drop, replicate}
use Rattle.runs.specs.Changes.{change_count}
use Rattle.book.specs.Book.{is_free}
use Rattle.book.specs.Layout.{bytes}
use Rattle.book.specs.Next.{fresh}
use Rattle.model.specs.Plain.{marked}
use Rattle.model.specs.Calls.{Call, backup, collect, read, audit, Answer, number, backed, freed, block, sound}
use Rattle.model.specs.History.{Sent, history_of, day_of, history_read}
use Rattle.claims.specs.Claims.{Fresh, our_answers, plain_answers, our_answer, plain_end, entry_before, entry_after, changes_name}
use Rattle.claims.proofs.claims.Proved.{lists, images}
use Rattle.cases.proofs.Open.{model}
use Rattle.cases.proofs.Letters.{B, C, E, block_of, over, list}
use Rattle.cases.proofs.Cases.{sizes, call_of, table, calls}

-- ---- the hypotheses can be met

unfoldable pub clinic : Fresh
unfolding model
clinic = record {
  sizes = sizes;
  given = replicate 280 170;
  book = bytes (fresh sizes);
  pool = replicate 2048 255;
  spare = 280;
  formatted = refl;
  pool_enough = refl;
  spare_enough = omega arith;
}

-- ---- Lists: what both sides answer, what collect on 18 frees, which entries backup d may move

unfoldable pub answers : List Answer
answers =
    number 0
    ∷ number 0
    ∷ backed 1 2 2
    ∷ backed 1 0 1
    ∷ backed 2 1 2
    ∷ backed 2 0 2
    ∷ freed 1
    ∷ number 16
    ∷ number 16
    ∷ freed 0
    ∷ number 16
    ∷ backed 3 2 2
    ∷ number 12
    ∷ number 11
    ∷ sound true
    ∷ []

-- the calls before e's collect, and before d
unfoldable pub before_e : List Call
before_e = take 6 calls

unfoldable pub before_d : List Call
before_d = take 5 calls

unfoldable pub backup_d : Call
backup_d = backup 1 9 (list 3 (B ∷ []))

pub record ListsSay : Type 0 where
  pub ours : our_answers clinic calls ≡ answers
  pub plain : plain_answers clinic calls ≡ answers
  -- the splits that `freeing` and `touching` speak of
  pub split_e : calls ≡ before_e ++ (collect 18 ∷ drop 7 calls)
  pub split_d : calls ≡ before_d ++ (backup_d ∷ drop 6 calls)
  pub collected : our_answer clinic before_e (collect 18) ≡ freed 1
  -- blocks 0 to 2 are held before; the plain store marks 1 and 2
  pub held : map (λ p. (entry_before clinic before_e p).held) (0 ∷ 1 ∷ 2 ∷ 3 ∷ []) ≡ true ∷ true ∷ true ∷ false ∷ []
  pub marks : map (marked (plain_end clinic before_e) 18) (0 ∷ 1 ∷ 2 ∷ []) ≡ false ∷ true ∷ true ∷ []
  -- backup d names its old block 0 and its new block 1
  pub names : map (changes_name (plain_end clinic before_d) 1 9 (list 3 (B ∷ []))) (0 ∷ 1 ∷ 2 ∷ 3 ∷ []) ≡ true ∷ true ∷ false ∷ false ∷ []
  -- .. and a refused one names none
  pub refused_names : map (changes_name (plain_end clinic before_d) 1 9 (list 3 (B ∷ B ∷ []))) (0 ∷ 1 ∷ 2 ∷ 3 ∷ [])
      ≡ false ∷ false ∷ false ∷ false ∷ []

pub lists_say : ListsSay
unfolding model over list call_of table calls clinic answers before_e before_d backup_d
lists_say = record {
  ours = refl;
  plain = refl;
  split_e = refl;
  split_d = refl;
  collected = refl;
  held = refl;
  marks = refl;
  names = refl;
  refused_names = refl;
}

-- ---- what follows there from `lists`: e frees block 0 and neither 1 nor 2, and d leaves the entries of 2 and 3

pub record ListsGive : Type 0 where
  pub freed0 : is_free (entry_after clinic before_e (collect 18) 0) ≡ true
  pub kept1 : is_free (entry_after clinic before_e (collect 18) 1) ≡ false
  pub kept2 : is_free (entry_after clinic before_e (collect 18) 2) ≡ false
  pub left2 : entry_after clinic before_d backup_d 2 ≡ entry_before clinic before_d 2
  pub left3 : entry_after clinic before_d backup_d 3 ≡ entry_before clinic before_d 3

in_e : (p : ℕ) → p < 4 → (entry_before clinic before_e p).held ≡ true
    → is_free (entry_after clinic before_e (collect 18) p) ≡ not (marked (plain_end clinic before_e) 18 p)
unfolding clinic sizes
in_e p h held = (lists clinic calls).freeing before_e (drop 7 calls) 18 1 p lists_say.split_e lists_say.collected h held

in_d : (p : ℕ) → p < 4 → changes_name (plain_end clinic before_d) 1 9 (list 3 (B ∷ [])) p ≡ false
    → entry_after clinic before_d backup_d p ≡ entry_before clinic before_d p
unfolding clinic sizes backup_d
in_d p h n = (lists clinic calls).touching before_d (drop 6 calls) 1 9 p (list 3 (B ∷ [])) lists_say.split_d h n

-- a list's element, from an equation of lists
abbrev nth : {A : Type 0} → A → ℕ → List A → A
nth d i l = get_or l i d

pub lists_give : ListsGive
lists_give =
    let h = lists_say.held in
    let m = lists_say.marks in
    let n = lists_say.names in
    record {
      freed0 = in_e 0 (omega arith) (ap (nth false 0) h) ∙ ap (λ t. not (nth true 0 t)) m;
      kept1 = in_e 1 (omega arith) (ap (nth false 1) h) ∙ ap (λ t. not (nth false 1 t)) m;
      kept2 = in_e 2 (omega arith) (ap (nth false 2) h) ∙ ap (λ t. not (nth false 2 t)) m;
      left2 = in_d 2 (omega arith) (ap (nth true 2) n);
      left3 = in_d 3 (omega arith) (ap (nth true 3) n);
    }

-- ---- Images: what volume 0 sent and when, and reads of it worked out from that

abbrev pub days : List Sent → List ℕ
days ss = map (λ (s : Sent). s.day) ss

unfoldable pub worked : ℕ → ℕ → Answer
worked k lbn = history_read 4 (history_of 0 calls answers) (day_of calls answers) k lbn

pub record ImagesSay : Type 0 where
  pub retention : (history_of 0 calls answers).retention ≡ 10
  pub sent : days (history_of 0 calls answers).sent ≡ 5 ∷ 8 ∷ 20 ∷ []
  pub header_day : day_of calls answers ≡ 20
  pub reads : worked 3 0 ∷ worked 3 1 ∷ worked 3 3 ∷ worked 3 4 ∷ worked 2 4 ∷ worked 1 0 ∷ worked 4 0 ∷ []
      ≡ block (block_of C) ∷ block (block_of B) ∷ block (block_of E) ∷ number 17 ∷ number 16 ∷ number 16 ∷ number 15 ∷ []
  -- volume 1 sent LBN 3 alone
  pub unsent : history_read 4 (history_of 1 calls answers) 20 2 0 ≡ number 18
  -- a volume that never enrolled
  pub absent : history_read 4 (history_of 2 calls answers) 20 1 0 ≡ number 5
  -- what the box answers to any read of volume 0 is worked out so
  pub ours : (k lbn : ℕ) → our_answer clinic calls (read 0 k lbn) ≡ worked k lbn

reads_worked : (k lbn : ℕ) → our_answer clinic calls (read 0 k lbn) ≡ worked k lbn
unfolding worked clinic sizes
reads_worked k lbn =
    (images clinic calls).reads 0 k lbn
    ∙ ap (λ (as₀ : List Answer). history_read 4 (history_of 0 calls as₀) (day_of calls as₀) k lbn) lists_say.ours

pub images_say : ImagesSay
unfolding model over list call_of table calls clinic answers worked
images_say = record { retention = refl; sent = refl; header_day = refl; reads = refl; unsent = refl; absent = refl; ours = reads_worked }

-- ---- Corollaries

pub record CorollariesSay : Type 0 where
  pub audits : our_answer clinic calls audit ≡ sound true
  pub backs : our_answer clinic before_d backup_d ≡ backed 2 0 2
  pub bound : 2 ≤ 2 * change_count (list 3 (B ∷ []))
  pub collects : our_answer clinic (before_e ++ (collect 18 ∷ [])) (collect 18) ≡ freed 0

pub corollaries_say : CorollariesSay
unfolding model over list call_of table calls clinic before_e before_d backup_d
corollaries_say = record { audits = refl; backs = refl; bound = omega arith; collects = refl }
