-- The claims, proved for every fresh book and every list of calls.
use Prim.Native.Nat.{ℕ, zero, suc, ◌*◌, ◌≤◌, ◌<◌}
use mathlib.Core.Path.{◌≡◌, refl, sym, ap, ◌∙◌}
use mathlib.Core.Bool.{true, false, not}
use mathlib.Core.List.{List, [], ◌∷◌, ◌++◌}
use native.Mathlib.Omega.{arith}
use Rattle.words.specs.Outcome.{Outcome, refused, accepted, and_then, unless}
use Rattle.runs.specs.Changes.{change_count}
use Rattle.book.specs.Book.{Sizes, Book, Entry, entry_at, is_free}
use Rattle.book.proofs.Bytes.{length-bytes}
use Rattle.book.specs.Form.{sizes_ok}
use Rattle.book.specs.Layout.{book_size, bytes, book_of}
use Rattle.book.specs.Next.{fresh}
use Rattle.claims.proofs.agreement.Agree.{Agree}
use Rattle.claims.proofs.agreement.AgreeLaws.{maps-agree}
use Rattle.model.specs.Backup
use Rattle.model.specs.Backup.{Backed}
use Rattle.claims.proofs.agreement.BackupAgree.{backup-touching}
use Rattle.claims.proofs.claims.BackupCounts.{touched-most}
use Rattle.claims.proofs.form.BackupFit.{backup-fit}
use Rattle.model.specs.Calls.{Call, backup, collect, read, audit, Answer, backed, freed}
use Rattle.claims.specs.Claims.{Fresh, begin, our_end, plain_answers, plain_end, changes_name, Lists, restored_at, Images, Corollaries}
use Rattle.model.specs.Collect
use Rattle.model.specs.Collect.{collected, collect_number}
use Rattle.claims.proofs.agreement.CollectAgree.{freeing}
use Rattle.claims.proofs.form.CollectFit.{collect-fit}
use Rattle.claims.proofs.claims.CollectTwice.{collect-twice, collect-twice-number}
use Rattle.claims.proofs.agreement.FreshAgree.{fresh-agree}
use Rattle.claims.proofs.form.FreshFit.{fresh-fit}
use Rattle.model.specs.History.{History, history_of, day_of, history_read, history_restore}
use Rattle.model.specs.OnBytes.{BackedBytes, CollectedBytes, backed_bytes, collected_bytes}
use Rattle.claims.proofs.form.OnBytesFit.{format_on_bytes, collect-on-bytes, backup-on-bytes, read-on-bytes, restore-on-bytes}
use Rattle.model.specs.Plain.{Plain, start, marked}
use Rattle.claims.proofs.plain.PlainReads.{plain-reads}
use Rattle.claims.proofs.plain.HistoryRestores.{history_restores}
use Rattle.model.specs.Sides.{Step, end_of, step_of, read_answer, Ours, backed_to, collected_to, ours, plain}
use Rattle.model.specs.Sides.{ours_shown, plain_shown}
use Rattle.claims.proofs.agreement.Standing.{Stand, stand, Alike, fit-form, fit-book, call-alike, list-answers, list-stands}
use Rattle.claims.proofs.agreement.Standing.{list-undamaged}

-- ---- what a call leaves of the entries, where both sides agree

module _ (spare : ℕ) {x : Book} {pool : List ℕ} {q : Plain} (g : Agree x pool q) where
  abbrev here : Ours
  here = record { book = bytes x; pool = pool }

  -- our book's entry p after a call
  abbrev entry_in : Ours → ℕ → Entry
  entry_in o p = entry_at (book_of o.book).entries p

  entry_here : (p : ℕ) → entry_in here p ≡ entry_at x.entries p
  entry_here p = ap (λ (y : Book). entry_at y.entries p) (fit-book g.fit)

  -- our side after a collect with this outcome on the book
  abbrev collect_step : Outcome Collect.Collected → Step Ours
  collect_step o = step_of here (and_then (and_then o (λ d. accepted (collected_bytes d))) (collected_to here))

  collect-says : (t : ℕ) → ours spare here (collect t) ≡ collect_step (Collect.collect x t)
  unfolding ours
  collect-says t =
      ap (λ (o : Outcome CollectedBytes). step_of here (and_then o (collected_to here)))
      (collect-on-bytes (fit-form g.fit) (fit-book g.fit) t)

  agree-freeing : (t k p : ℕ) → (ours spare here (collect t)).answer ≡ freed k → p < x.sizes.n → (entry_in here p).held ≡ true
      → is_free (entry_in (ours spare here (collect t)).next p) ≡ not (marked q t p)
  unfolding Collect.collect step_of collected_bytes
  agree-freeing t k p a h held = rw (collect-says t) (go (collect_number x t) refl (rw (collect-says t) at a))
    where
      left : ℕ → Step Ours
      left n = collect_step (unless n (accepted (collected x t)))

      go : (n : ℕ) → collect_number x t ≡ n → (left n).answer ≡ freed k → is_free (entry_in (left n).next p) ≡ not (marked q t p)
      go zero e b =
          ap (λ (y : Book). is_free (entry_at y.entries p)) (fit-book (collect-fit g.fit t e))
          ∙ freeing g t p e h (ap (λ (e : Entry). e.held) (sym (entry_here p)) ∙ held)
      go (suc n) e b = absurd (let z : ◌≡◌ {A = ℕ} 0 1 = cc in omega arith)

  -- a second collect on the day of the first
  agree-collects : (t k : ℕ) → (ours spare here (collect t)).answer ≡ freed k
      → (ours spare (ours spare here (collect t)).next (collect t)).answer ≡ freed 0
  unfolding Collect.collect step_of collected_bytes ours
  agree-collects t k a = rw (collect-says t) (go (collect_number x t) refl (rw (collect-says t) at a))
    where
      left : ℕ → Step Ours
      left n = collect_step (unless n (accepted (collected x t)))

      go : (n : ℕ) → collect_number x t ≡ n → (left n).answer ≡ freed k → (ours spare (left n).next (collect t)).answer ≡ freed 0
      go zero e b =
          let f = collect-fit g.fit t e in
          let end = (left zero).next in
          ap (λ (o : Outcome CollectedBytes). (step_of end (and_then o (collected_to end))).answer)
          (collect-on-bytes (fit-form f) (fit-book f) t)
          ∙ rw (collect-twice-number x t e) (ap freed (collect-twice x t))
      go (suc n) e b = absurd (let z : ◌≡◌ {A = ℕ} 0 1 = cc in omega arith)

  module _ (enough : book_size x.sizes ≤ spare) (v t : ℕ) (list : List ℕ) where
    -- our side after a backup with this outcome on the book
    abbrev backup_step : Outcome Backed → Step Ours
    backup_step o = step_of here (and_then (and_then o (λ d. accepted (backed_bytes d))) backed_to)

    backup-says : ours spare here (backup v t list) ≡ backup_step (Backup.backup x pool v t list)
    unfolding ours
    backup-says =
        ap (λ (o : Outcome BackedBytes). step_of here (and_then o backed_to))
        (backup-on-bytes (fit-form g.fit) (fit-book g.fit) pool g.pool_long (length-bytes x) spare enough v t list)

    agree-touching : (p : ℕ) → p < x.sizes.n → changes_name q v t list p ≡ false
        → entry_in (ours spare here (backup v t list)).next p ≡ entry_in here p
    unfolding step_of backed_bytes
    agree-touching p h n = rw backup-says (go (Backup.backup x pool v t list) refl)
      where
        go : (o : Outcome Backed) → Backup.backup x pool v t list ≡ o
            → entry_in (backup_step o).next p ≡ entry_in here p
        go (refused k) e = refl
        go (accepted d) e =
            ap (λ (y : Book). entry_at y.entries p) (fit-book (backup-fit g.fit pool v t list d g.pool_long e).fit)
            ∙ backup-touching g v t list d e p h n
            ∙ sym (entry_here p)

    agree-touches : (k taken touched : ℕ) → (ours spare here (backup v t list)).answer ≡ backed k taken touched
        → touched ≤ 2 * change_count list
    unfolding step_of backed_bytes
    agree-touches k taken touched a = go (Backup.backup x pool v t list) refl (rw backup-says at a)
      where
        go : (o : Outcome Backed) → Backup.backup x pool v t list ≡ o
            → (backup_step o).answer ≡ backed k taken touched
            → touched ≤ 2 * change_count list
        go (refused j) e b = absurd (let z : ◌≡◌ {A = ℕ} 0 1 = cc in omega arith)
        go (accepted d) e b = let same : d.touched ≡ touched = cc in omega (arith, touched-most x pool v t list d e)

-- ---- the same, where both sides stand alike

module _ (z : Sizes) (spare : ℕ) (enough : book_size z ≤ spare) where
  stands-freeing : {o : Ours} {q : Plain} → Stand z o q → (t k p : ℕ) → (ours spare o (collect t)).answer ≡ freed k → p < z.n
      → (entry_at (book_of o.book).entries p).held ≡ true
      → is_free (entry_at (book_of (ours spare o (collect t)).next.book).entries p) ≡ not (marked q t p)
  stands-freeing (stand x pool q g e) t k p a h held = agree-freeing spare g t k p a (rw e h) held

  stands-touching : {o : Ours} {q : Plain} → Stand z o q → (v t p : ℕ) (list : List ℕ) → p < z.n → changes_name q v t list p ≡ false
      → entry_at (book_of (ours spare o (backup v t list)).next.book).entries p ≡ entry_at (book_of o.book).entries p
  stands-touching (stand x pool q g e) v t p list h n = agree-touching spare g (rw e enough) v t list p (rw e h) n

  stands-touches : {o : Ours} {q : Plain} → Stand z o q → (v t : ℕ) (list : List ℕ) (k taken touched : ℕ)
      → (ours spare o (backup v t list)).answer ≡ backed k taken touched → touched ≤ 2 * change_count list
  stands-touches (stand x pool q g e) v t list = agree-touches spare g (rw e enough) v t list

  stands-collects : {o : Ours} {q : Plain} → Stand z o q → (t k : ℕ) → (ours spare o (collect t)).answer ≡ freed k
      → (ours spare (ours spare o (collect t)).next (collect t)).answer ≡ freed 0
  stands-collects (stand x pool q g e) = agree-collects spare g

  -- a restore gives what the history owes, where every read does
  pub stands-restores : {o : Ours} {q : Plain} → Stand z o q → (v k d : ℕ) (h : History)
      → ((lbn : ℕ) → (ours spare o (read v k lbn)).answer ≡ history_read z.l h d k lbn) → (first many room : ℕ)
      → restored_at o v k first many room ≡ history_restore z.l h d k first many room
  unfolding ours
  stands-restores (stand x pool q g e) v k d h reads first many room =
      let form = fit-form g.fit in
      let book = fit-book g.fit in
      restore-on-bytes form book pool g.pool_long v k first many room
      ∙ history_restores x pool v k d h
      (λ lbn.
      ap read_answer (sym (read-on-bytes form book pool g.pool_long v k lbn))
      ∙ reads lbn
      ∙ ap (λ (y : Sizes). history_read y.l h d k lbn) (sym e))
      first many room
      ∙ ap (λ (y : Sizes). history_restore y.l h d k first many room) e

  stands-shown : {o : Ours} {q : Plain} → Stand z o q → ours_shown o ≡ plain_shown q
  unfolding ours_shown plain_shown
  stands-shown (stand x pool q g e) = rw (fit-book g.fit) (λ i. record { blocks = sym g.blocks i; maps = sym (maps-agree g) i })

pub end_append : {S : Type 0} (step : S → Call → Step S) (s : S) (cs ds : List Call)
    → end_of step s (cs ++ ds) ≡ end_of step (end_of step s cs) ds
end_append step s [] ds = refl
end_append step s (c ∷ cs) ds = end_append step (step s c).next cs ds

-- ---- a fresh book, and the claims

sizes-fresh : (f : Fresh) → sizes_ok f.sizes ≡ true
sizes-fresh f = (format_on_bytes f.given f.sizes f.book f.formatted).0

pub fresh-stands : (f : Fresh) → Stand f.sizes (begin f) (start f.sizes)
unfolding fresh
fresh-stands f =
    let a = format_on_bytes f.given f.sizes f.book f.formatted in
    rw a.1
    (stand (fresh f.sizes) f.pool (start f.sizes)
    (fresh-agree f.sizes f.pool a.0 f.pool_enough (fresh-fit f.sizes a.0)) refl)

module _ (f : Fresh) (cs : List Call) where
  after : (before : List Call) → Stand f.sizes (our_end f before) (plain_end f before)
  after before = list-stands f.sizes f.spare f.spare_enough (fresh-stands f) before

  -- the next call, whichever it is
  pub next-alike : (c : Call) → Alike f.sizes (ours f.spare (our_end f cs) c) (plain (plain_end f cs) c)
  next-alike c = call-alike f.sizes f.spare f.spare_enough (after cs) c

  pub lists : Lists f cs
  lists = record {
    answers = list-answers f.sizes f.spare f.spare_enough (fresh-stands f) cs;
    shown = stands-shown f.sizes f.spare f.spare_enough (after cs);
    freeing = λ before rest t k p e a h held. stands-freeing f.sizes f.spare f.spare_enough (after before) t k p a h held;
    touching = λ before rest v t p list e h n. stands-touching f.sizes f.spare f.spare_enough (after before) v t p list h n;
  }

  -- a read wherever both sides stand alike after the list
  pub read-owed : {o : Ours} → Stand f.sizes o (plain_end f cs) → (v k lbn : ℕ) → (ours f.spare o (read v k lbn)).answer
      ≡ history_read f.sizes.l (history_of v cs (plain_answers f cs)) (day_of cs (plain_answers f cs)) k lbn
  unfolding plain
  read-owed s v k lbn =
      (call-alike f.sizes f.spare f.spare_enough s (read v k lbn)).answer ∙ plain-reads f.sizes (sizes-fresh f) cs v k lbn

  pub images : Images f cs
  images = record {
    reads = λ v k lbn.
        read-owed (after cs) v k lbn
        ∙ ap (λ (answers : List Answer). history_read f.sizes.l (history_of v cs answers) (day_of cs answers) k lbn)
        (sym lists.answers);
    restores = λ v k first many room.
        stands-restores f.sizes f.spare f.spare_enough (after cs) v k (day_of cs (plain_answers f cs))
        (history_of v cs (plain_answers f cs)) (λ lbn. read-owed (after cs) v k lbn) first many room
        ∙ ap (λ (answers : List Answer). history_restore f.sizes.l (history_of v cs answers) (day_of cs answers) k first many room)
        (sym lists.answers);
  }

  pub corollaries : Corollaries f cs
  unfolding plain
  corollaries = record {
    audits = (next-alike audit).answer;
    undamaged = list-undamaged f.sizes f.spare f.spare_enough (fresh-stands f) cs;
    touches = λ v t list k taken touched a. stands-touches f.sizes f.spare f.spare_enough (after cs) v t list k taken touched a;
    collects = λ t k a.
        ap (λ (o : Ours). (ours f.spare o (collect t)).answer) (end_append (ours f.spare) (begin f) cs (collect t ∷ []))
        ∙ stands-collects f.sizes f.spare f.spare_enough (after cs) t k a;
  }
