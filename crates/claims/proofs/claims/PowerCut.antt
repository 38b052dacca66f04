-- The claim about power cuts (`PowerCut` of specs/Claims.antt), proved for every fresh book, every list of calls and all cuts.
use Prim.Native.Nat.{ℕ, zero, suc, ◌+◌, ◌*◌, ◌≤◌, ◌<◌}
use mathlib.Core.Path.{◌≡◌, refl, sym, ap, ap₂, ◌∙◌}
use mathlib.Core.Bool.{Bool, true, false}
use mathlib.Core.List.{List, [], ◌∷◌}
use mathlib.Core.Option.{some}
use native.Mathlib.Omega.{arith}
use lib.ListN.{length, take, drop}
use lib.Seq.{drop-drop}
use Rattle.words.proofs.Accepted.{unless-accepted, then-accepted, accepted-same}
use Rattle.words.proofs.Options.{none_not, some_same}
use Rattle.words.specs.Blocks.{block_size}
use Rattle.words.specs.Choice.{when◌then◌else◌}
use Rattle.words.specs.Outcome.{Outcome, refused, accepted, and_then}
use Rattle.runs.specs.Changes.{Change, changes, change_count}
use Rattle.book.specs.Book.{Sizes, Entry, Book, entry_at}
use Rattle.book.proofs.Bytes.{length-bytes}
use Rattle.book.specs.Layout.{book_size, bytes}
use Rattle.claims.proofs.agreement.Agree.{Agree}
use Rattle.model.specs.Backup
use Rattle.model.specs.Backup.{Backed}
use Rattle.claims.proofs.agreement.BackupAgree.{BothBacked, stopped, backed, backup-agree}
use Rattle.claims.proofs.form.BackupFit.{backup-fit}
use Rattle.claims.proofs.agreement.BlocksIn.{blocks_in-at, length-blocks_in, held-inside}
use Rattle.model.specs.Calls.{Call, enrol, backup, collect, read, audit, retire}
use Rattle.claims.specs.Claims.{Fresh, plain_answers, plain_end}
use Rattle.model.specs.History.{history_of, day_of}
use Rattle.model.specs.OnBytes.{backed_bytes, enrol_bytes, collect_bytes, retire_bytes}
use Rattle.claims.proofs.form.OnBytesFit.{backup-on-bytes}
use Rattle.model.specs.Plain.{Block, free, held, Plain, start, at_day, with_blocks, with_taken}
use Rattle.model.specs.PlainBackup.{PlainWork, place, moved, change_step, run_changes, begun, closed, backup_number}
use Rattle.model.specs.PlainBackup.{PlainBacked}
use Rattle.model.specs.PlainBackup
use Rattle.claims.proofs.plain.PlainPlacing.{Grown, grown-self, grown-then, place-placed}
use Rattle.claims.proofs.plain.PlainShows.{held_bytes, shown_at}
use Rattle.model.specs.Pool.{pool_size, block_at}
use Rattle.claims.proofs.claims.Proved.{end_append, fresh-stands, stands-restores, read-owed}
use Rattle.model.specs.Sides.{blocks_in, became, step_of, Ours, with_book, backed_to, ours, plain}
use Rattle.claims.proofs.agreement.Standing.{Stand, stand, fit-form, fit-book, call-alike, list-answers}
use Rattle.claims.specs.Claims.{Serves, Reached, begins, calls, cut, PowerCut}

-- ---- what a pool has in free blocks doesn't show

block-next : (pool : List ℕ) (p : ℕ) → block_at (drop block_size pool) p ≡ block_at pool (suc p)
block-next pool p =
    let at : block_size + p * block_size ≡ suc p * block_size = omega arith in
    ap (λ (c : List ℕ). take block_size c) (drop-drop (p * block_size) block_size pool ∙ ap (λ k. drop k pool) at)

blocks-same : (es : List Entry) (pool pool' : List ℕ) → ((p : ℕ) → (entry_at es p).held ≡ true → block_at pool' p ≡ block_at pool p)
    → blocks_in es pool ≡ blocks_in es pool'
blocks-same [] pool pool' h = refl
blocks-same (e ∷ es) pool pool' h =
    ap₂ (λ (b : Block) (bs : List Block). b ∷ bs) (go e.held refl)
    (blocks-same es (drop block_size pool) (drop block_size pool') (λ p k. block-next pool' p ∙ h (suc p) k ∙ sym (block-next pool p)))
  where
    go : (t : Bool) → e.held ≡ t
        → (when t then held e.print (take block_size pool) else free) ≡ (when t then held e.print (take block_size pool') else free)
    go true k = ap (held e.print) (sym (h zero k))
    go false k = refl

agree-pool : {x : Book} {pool pool' : List ℕ} {q : Plain} → Agree x pool q → length pool' ≡ length pool
    → ((p : ℕ) → (entry_at x.entries p).held ≡ true → block_at pool' p ≡ block_at pool p) → Agree x pool' q
agree-pool {x} {pool} {pool'} {q} g l h = record {
  fit = g.fit;
  pool_long = l ∙ g.pool_long;
  sizes = g.sizes;
  day = g.day;
  cursor = g.cursor;
  blocks = g.blocks ∙ blocks-same x.entries pool pool' h;
  retentions = g.retentions;
  taken = g.taken;
  maps = g.maps;
  sound = g.sound;
  days = g.days;
  rising = g.rising;
  emptied = g.emptied;
  counts = g.counts;
  expiries = g.expiries;
  used = g.used;
  free = g.free;
  prints = g.prints;
}

stand_serves : {z : Sizes} {o : Ours} {q : Plain} (pool : List ℕ) → Stand z o q → Serves o pool
    → Stand z (record { book = o.book; pool = pool }) q
stand_serves pool' (stand x pool q g e) s =
    stand x pool' q
    (agree-pool g s.long (λ p k. s.holds p (ap (λ (y : Book). (entry_at y.entries p).held) (fit-book g.fit) ∙ k))) e

-- ---- a backup of the plain store leaves its held blocks

change_grown : (c : Change) (w w' : PlainWork) → change_step c w ≡ accepted w' → Grown w.blocks w'.blocks
unfolding change_step moved
change_grown c w w' e =
    let p = then-accepted (place c w) (λ d. accepted (moved c.lbn d)) w' e in
    let same = accepted-same (moved c.lbn p.0) w' p.2 in
    rw (← (ap (λ (w : PlainWork). w.blocks) same)) (place-placed c w p.0 p.1).grown

run-grown : (cs : List Change) (w w' : PlainWork) → run_changes cs w ≡ accepted w' → Grown w.blocks w'.blocks
run-grown [] w w' e = rw (← (accepted-same w w' e)) (grown-self w.blocks)
run-grown (c ∷ cs) w w' e =
    let p = then-accepted (change_step c w) (λ u. run_changes cs u) w' e in
    grown-then (change_grown c w p.0 p.1) (run-grown cs p.0 w' p.2)

backup-grown : (q : Plain) (v t : ℕ) (list : List ℕ) (d : PlainBacked) → PlainBackup.backup q v t list ≡ accepted d
    → Grown q.blocks d.store.blocks
unfolding PlainBackup.backup begun closed at_day with_blocks with_taken
backup-grown q v t list d e =
    let o = run_changes (changes list) (begun q v) in
    let f = unless-accepted (backup_number q v t list) (and_then o (λ w. accepted (closed q v t (change_count list) w))) d e in
    let p = then-accepted o (λ w. accepted (closed q v t (change_count list) w)) d f.1 in
    let same = accepted-same (closed q v t (change_count list) p.0) d p.2 in
    rw (← (ap (λ (b : PlainBacked). b.store.blocks) same)) (run-grown (changes list) (begun q v) p.0 p.1)

-- ---- so does a backup on our side

module _ {x : Book} {pool : List ℕ} {q : Plain} (g : Agree x pool q) where
  -- a held block, as the plain store has it
  block-shown : (p : ℕ) → (entry_at x.entries p).held ≡ true → shown_at q.blocks p ≡ some (block_at pool p)
  block-shown p k =
      ap (λ (bs : List Block). shown_at bs p) g.blocks
      ∙ ap held_bytes (blocks_in-at x.entries pool p (held-inside x.entries p k))
      ∙ rw k

  -- what the plain store shows is in the pool
  shown-block : (p : ℕ) (b : List ℕ) → p < length x.entries → shown_at q.blocks p ≡ some b → block_at pool p ≡ b
  shown-block p b h e =
      go (entry_at x.entries p).held
      (sym (ap (λ (bs : List Block). shown_at bs p) g.blocks ∙ ap held_bytes (blocks_in-at x.entries pool p h)) ∙ e)
    where
      go : (t : Bool) → held_bytes (when t then held (entry_at x.entries p).print (block_at pool p) else free) ≡ some b → block_at pool p ≡ b
      go true f = some_same (block_at pool p) b f
      go false f = absurd (none_not b f)

  blocks-long : length q.blocks ≡ length x.entries
  blocks-long = ap (λ (bs : List Block). length bs) g.blocks ∙ length-blocks_in x.entries pool

-- the same of two sides, of which the second has grown from the first
grown-leaves : {x x' : Book} {pool pool' : List ℕ} {q q' : Plain} → Agree x pool q → Agree x' pool' q' → Grown q.blocks q'.blocks
    → (p : ℕ) → (entry_at x.entries p).held ≡ true → block_at pool' p ≡ block_at pool p
grown-leaves {x} {x'} {pool} g g' w p k =
    shown-block g' p (block_at pool p)
    (omega (arith, held-inside x.entries p k, blocks-long g, blocks-long g', w.long))
    (w.keeps p (block_at pool p) (block-shown g p k))

module _ (spare : ℕ) {x : Book} {pool : List ℕ} {q : Plain} (g : Agree x pool q) (enough : book_size x.sizes ≤ spare) where
  abbrev here : Ours
  here = record { book = bytes x; pool = pool }

  -- a pool that serves the book, block by block
  serves : (pool' : List ℕ) → length pool' ≡ length pool
      → ((p : ℕ) → (entry_at x.entries p).held ≡ true → block_at pool' p ≡ block_at pool p)
      → Serves here pool'
  serves pool' l h = record {
    long = l;
    holds = λ p k. h p (ap (λ (y : Book). (entry_at y.entries p).held) (sym (fit-book g.fit)) ∙ k);
  }

  serves-same : Serves here pool
  serves-same = record { long = refl; holds = λ p k. refl }

  backup-serves : (v t : ℕ) (list : List ℕ) → Serves here (ours spare here (backup v t list)).next.pool
  unfolding ours step_of backed_bytes
  backup-serves v t list =
      rw (backup-on-bytes (fit-form g.fit) (fit-book g.fit) pool g.pool_long (length-bytes x) spare enough v t list)
      (go (Backup.backup x pool v t list) refl (PlainBackup.backup q v t list) refl (backup-agree g v t list))
    where
      go : (a : Outcome Backed) → Backup.backup x pool v t list ≡ a → (b : Outcome PlainBacked) → PlainBackup.backup q v t list ≡ b
          → BothBacked x q v list a b → Serves here (step_of here (and_then (and_then a (λ d. accepted (backed_bytes d))) backed_to)).next.pool
      go a e b e' (stopped k d) = serves-same
      go a e b e' (backed d f h) =
          let fits = backup-fit g.fit pool v t list d g.pool_long e in
          let after = h.agree fits.fit in
          serves d.pool (after.pool_long ∙ ap (λ (z : Sizes). pool_size z.n) fits.sizes ∙ sym g.pool_long)
          (grown-leaves g after (backup-grown q v t list f e'))

  -- a call on the book alone leaves the pool
  book-alone : {A : Type 0} (o : Outcome A) (b : A → List ℕ) (answers : A → List ℕ)
      → (step_of here (and_then o (λ a. became (with_book (b a) here) (answers a)))).next.pool ≡ pool
  unfolding step_of
  book-alone (refused k) b answers = refl
  book-alone (accepted a) b answers = refl

  call-serves : (c : Call) → Serves here (ours spare here c).next.pool
  unfolding ours
  call-serves (enrol v r) = rw (book-alone (enrol_bytes (bytes x) v r) (λ b. b) (λ b. [])) serves-same
  call-serves (backup v t list) = backup-serves v t list
  call-serves (collect t) = rw (book-alone (collect_bytes (bytes x) t) (λ d. d.book) (λ d. d.freed ∷ [])) serves-same
  call-serves (retire v t) = rw (book-alone (retire_bytes (bytes x) spare v t) (λ d. d.book) (λ d. d.cells ∷ [])) serves-same
  call-serves (read v k lbn) = serves-same
  call-serves audit = serves-same

stand_leaves : {z : Sizes} (spare : ℕ) → book_size z ≤ spare → {o : Ours} {q : Plain} → Stand z o q → (c : Call)
    → Serves o (ours spare o c).next.pool
stand_leaves spare enough (stand x pool q g e) c = call-serves spare g (rw e enough) c

-- ---- the claim, for every fresh book, every list of calls and all cuts

reached-stands : (f : Fresh) (cs : List Call) (o : Ours) → Reached f cs o → Stand f.sizes o (plain_end f cs)
reached-stands f cs o begins = fresh-stands f
reached-stands f cs o (calls cs' o' c r) =
    rw (end_append plain (start f.sizes) cs' (c ∷ []))
    (call-alike f.sizes f.spare f.spare_enough (reached-stands f cs' o' r) c).next
reached-stands f cs o (cut cs' o' pool s r) = stand_serves pool (reached-stands f cs o' r) s

pub power_cut : (f : Fresh) (cs : List Call) (o : Ours) → Reached f cs o → PowerCut f cs o
power_cut f cs o r =
    let s = reached-stands f cs o r in
    record {
      leaves = λ c. stand_leaves f.spare f.spare_enough s c;
      answers = λ ds. list-answers f.sizes f.spare f.spare_enough s ds;
      restores = λ v k first many room.
          stands-restores f.sizes f.spare f.spare_enough s v k (day_of cs (plain_answers f cs)) (history_of v cs (plain_answers f cs))
          (λ lbn. read-owed f cs s v k lbn) first many room;
    }
