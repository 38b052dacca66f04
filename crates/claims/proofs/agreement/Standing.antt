-- Our book and pool stand where the plain store stands, and every call keeps them so: one call, and lists of calls (a simulation,
-- in lock step).
use Prim.Native.Nat.{ℕ, zero, suc, ◌≤◌}
use mathlib.Core.Path.{◌≡◌, refl, sym, ap, ap₂, ◌∙◌}
use mathlib.Core.Bool.{Bool, true, false, not, ◌||◌}
use mathlib.Core.List.{List, [], ◌∷◌}
use lib.Dec.{leb, ltb, eqb}
use Rattle.words.specs.Blocks.{unmapped}
use Rattle.words.specs.Choice.{when◌then◌else◌}
use Rattle.words.specs.Lists.{all}
use Rattle.words.specs.Outcome.{Outcome, refused, accepted, and_then, unless}
use Rattle.book.specs.Book.{Sizes, Book, retention_of}
use Rattle.book.proofs.Bytes.{length-bytes}
use Rattle.book.specs.Form.{enrolled, form_number}
use Rattle.book.proofs.FormBytes.{form-bytes}
use Rattle.book.specs.Layout.{book_size, bytes, book_of}
use Rattle.book.proofs.Laws.{book-bytes}
use Rattle.book.specs.Next.{with_day, with_entries, with_retention}
use Rattle.claims.proofs.agreement.Agree.{Fit, Agree}
use Rattle.claims.proofs.agreement.AuditAgree.{audit-agree}
use Rattle.model.specs.Backup.{Backed}
use Rattle.model.specs.Backup
use Rattle.claims.proofs.agreement.BackupAgree.{BothBacked, backup-agree}
use Rattle.claims.proofs.form.BackupFit.{backup-fit}
use Rattle.model.specs.Calls.{Call, enrol, backup, collect, read, audit, Answer, retire}
use Rattle.claims.specs.Claims.{is_damage, says_damage}
use Rattle.model.specs.Collect
use Rattle.model.specs.Collect.{collected, collect_number}
use Rattle.claims.proofs.agreement.CollectAgree.{collect-number, collect-freed, collect-agree}
use Rattle.claims.proofs.form.CollectFit.{collect-fit}
use Rattle.model.specs.Days.{bad_day, bad_retention, kept}
use Rattle.model.specs.Enrol.{enrol_number}
use Rattle.model.specs.Enrol
use Rattle.claims.proofs.agreement.EnrolAgree.{enrol-number, enrol-agree}
use Rattle.claims.proofs.form.EnrolFit.{enrol-fit}
use Rattle.model.specs.Journal.{days, no_volume, backup_count}
use Rattle.model.specs.OnBytes.{backed_bytes, collected_bytes, retired_bytes}
use Rattle.claims.proofs.form.OnBytesFit.{enrol-on-bytes, collect-on-bytes, audit-on-bytes, read-on-bytes, backup-on-bytes, retire-on-bytes}
use Rattle.model.specs.Plain
use Rattle.model.specs.Plain.{Plain}
use Rattle.model.specs.PlainBackup
use Rattle.model.specs.PlainBackup.{PlainBacked}
use Rattle.claims.proofs.agreement.ReadAgree.{read-agree}
use Rattle.model.specs.Read
use Rattle.model.specs.Retire
use Rattle.model.specs.Retire.{Retired}
use Rattle.model.specs.PlainRetire
use Rattle.model.specs.PlainRetire.{PlainRetired}
use Rattle.model.specs.Sides.{Step, answers_of, end_of, Changed, answer_of, step_of, read_answer, audit_answer, retired_to, store_retired}
use Rattle.model.specs.Sides.{Ours, enrolled_to, backed_to, collected_to, ours, store_enrolled, store_backed, store_collected, plain}
use Rattle.claims.proofs.agreement.RetireAgree.{BothRetired, retire-agree}
use Rattle.claims.proofs.form.RetireFit.{retire-fit}

module _ (z : Sizes) where
  -- the book is the bytes of a book of these sizes that agrees with the plain store
  pub data Stand : Ours → Plain → Type 0 where
    stand : (x : Book) (pool : List ℕ) (q : Plain) → Agree x pool q → x.sizes ≡ z → Stand (record { book = bytes x; pool = pool }) q

  -- both sides answer alike, by no number of a damaged book, and stand alike after it
  pub record Alike (s : Step Ours) (t : Step Plain) : Type 0 where
    pub answer : s.answer ≡ t.answer
    pub undamaged : says_damage s.answer ≡ false
    pub next : Stand s.next t.next

  -- what a call that changes something makes of both sides: refused by the same number, which is none of a damaged book, or accepted with
  -- the same numbers as answer, and then both stand alike
  pub data BothChanged : Outcome (Changed Ours) → Outcome (Changed Plain) → Type 0 where
    stopped : (k : ℕ) → is_damage k ≡ false → BothChanged (refused k) (refused k)
    changed : (d : Changed Ours) (e : Changed Plain) → d.answers ≡ e.answers → Stand d.next e.next
        → BothChanged (accepted d) (accepted e)

  gave-undamaged : (ns : List ℕ) → says_damage (answer_of ns) ≡ false
  gave-undamaged [] = refl
  gave-undamaged (k ∷ ks) = refl

  changed_alike : {o : Ours} {q : Plain} → Stand o q → (a : Outcome (Changed Ours)) (b : Outcome (Changed Plain)) → BothChanged a b
      → Alike (step_of o a) (step_of q b)
  unfolding step_of
  changed_alike s a b (stopped k e) = record { answer = refl; undamaged = e; next = s }
  changed_alike s a b (changed d e n next) = record { answer = ap answer_of n; undamaged = gave-undamaged d.answers; next = next }

  -- a call that only its number k refuses: what it makes of the book is w, which goes to bytes and then to our side, and of the store u
  numbered : {W B U : Type 0} (k k' : ℕ) → k ≡ k' → is_damage k ≡ false
      → (w : W) (to_bytes : W → B) (to_ours : B → Outcome (Changed Ours)) (u : U) (to_plain : U → Outcome (Changed Plain))
      → (k ≡ 0 → BothChanged (to_ours (to_bytes w)) (to_plain u))
      → BothChanged (and_then (and_then (unless k (accepted w)) (λ x. accepted (to_bytes x))) to_ours)
      (and_then (unless k' (accepted u)) to_plain)
  numbered zero k' e n w to_bytes to_ours u to_plain both = rw (sym e) (both refl)
  numbered (suc k) k' e n w to_bytes to_ours u to_plain both = rw (sym e) (stopped (suc k) n)

-- ---- bytes of a fit book

module _ {x : Book} (f : Fit x) where
  pub fit-form : form_number (bytes x) ≡ 0
  fit-form = form-bytes x f.sized f.sizes f.form

  pub fit-book : book_of (bytes x) ≡ x
  fit-book = book-bytes x f.sized

collect-sizes : (x : Book) (t : ℕ) → (collected x t).book.sizes ≡ x.sizes
unfolding collected with_day with_entries
collect-sizes x t = refl

-- ---- the other calls' numbers are not those of a damaged book

enrol-undamaged : (x : Book) (v r : ℕ) → is_damage (enrol_number x v r) ≡ false
unfolding enrol_number
enrol-undamaged x v r = go (ltb 7 v || enrolled x v) (bad_retention r)
  where
    go : (a b : Bool) → is_damage (when a then 5 else when b then 6 else 0) ≡ false
    go true b = refl
    go false true = refl
    go false false = refl

collect-undamaged : (x : Book) (t : ℕ) → is_damage (collect_number x t) ≡ false
unfolding collect_number
collect-undamaged x t = go (bad_day x.day t)
  where
    go : (a : Bool) → is_damage (when a then 7 else 0) ≡ false
    go true = refl
    go false = refl

read-undamaged : (x : Book) (v k lbn : ℕ) → is_damage (Read.read_number x v k lbn) ≡ false
unfolding Read.read_number
read-undamaged x v k lbn =
    go (no_volume x v) (eqb k 0 || ltb (backup_count x v) k) (not (kept (days x v) (retention_of x v) x.day k)) (leb x.sizes.l lbn)
    (eqb (Read.image x v k lbn) unmapped)
  where
    go : (a b c d e : Bool) → is_damage (when a then 5 else when b then 15 else when c then 16 else when d then 17 else when e then 18 else 0) ≡ false
    go true b c d e = refl
    go false true c d e = refl
    go false false true d e = refl
    go false false false true e = refl
    go false false false false true = refl
    go false false false false false = refl

-- ---- one call

module _ (z : Sizes) (spare : ℕ) (enough : book_size z ≤ spare) {x : Book} {pool : List ℕ} {q : Plain}
    (g : Agree x pool q) (sizes : x.sizes ≡ z) where
  abbrev here : Ours
  here = record { book = bytes x; pool = pool }

  standing : Stand z here q
  standing = stand x pool q g sizes

  enrol-alike : (v r : ℕ) → Alike z (ours spare here (enrol v r)) (plain q (enrol v r))
  unfolding ours plain Enrol.enrol Plain.enrol with_retention
  enrol-alike v r =
      rw (enrol-on-bytes (fit-form g.fit) (fit-book g.fit) v r)
      (changed_alike z standing _ _
      (numbered z (enrol_number x v r) (Plain.enrol_number q v r) (enrol-number g v r) (enrol-undamaged x v r)
      (with_retention v r x) bytes (enrolled_to here) _ store_enrolled
      (λ e. changed _ _ refl (stand (with_retention v r x) pool _ (enrol-agree g v r e (enrol-fit g.fit v r e)) sizes))))

  collect-alike : (t : ℕ) → Alike z (ours spare here (collect t)) (plain q (collect t))
  unfolding ours plain Collect.collect Plain.collect collected_bytes
  collect-alike t =
      rw (collect-on-bytes (fit-form g.fit) (fit-book g.fit) t)
      (changed_alike z standing _ _
      (numbered z (collect_number x t) (Plain.collect_number q t) (collect-number g t) (collect-undamaged x t)
      (collected x t) collected_bytes (collected_to here) (Plain.collected q t) store_collected
      (λ e. changed _ _ (ap (λ (k : ℕ). k ∷ []) (collect-freed g t e))
      (stand (collected x t).book pool _ (collect-agree g t e (collect-fit g.fit t e)) (collect-sizes x t ∙ sizes)))))

  read_alike : (v k lbn : ℕ) → Alike z (ours spare here (read v k lbn)) (plain q (read v k lbn))
  unfolding ours plain Read.read read_answer
  read_alike v k lbn =
      let e = read-on-bytes (fit-form g.fit) (fit-book g.fit) pool g.pool_long v k lbn in
      record {
        answer = ap read_answer (e ∙ read-agree g v k lbn);
        undamaged = rw e (read-says (Read.read_number x v k lbn) refl);
        next = standing;
      }
    where
      read-says : (n : ℕ) → Read.read_number x v k lbn ≡ n → says_damage (read_answer (Read.read x pool v k lbn)) ≡ false
      read-says zero e = rw e
      read-says (suc n) e = rw e (rw e at (read-undamaged x v k lbn))

  audit-alike : Alike z (ours spare here audit) (plain q audit)
  unfolding ours plain audit_answer
  audit-alike =
      let e = audit-on-bytes (fit-form g.fit) (fit-book g.fit) in
      record { answer = rw (e, audit-agree g); undamaged = rw e; next = standing }

  backup-alike : (v t : ℕ) (list : List ℕ) → Alike z (ours spare here (backup v t list)) (plain q (backup v t list))
  unfolding ours plain backed_bytes
  backup-alike v t list =
      rw (backup-on-bytes (fit-form g.fit) (fit-book g.fit) pool g.pool_long (length-bytes x) spare (rw sizes enough) v t list)
      (changed_alike z standing _ _
      (go (Backup.backup x pool v t list) refl (PlainBackup.backup q v t list) (backup-agree g v t list)))
    where
      go : (a : Outcome Backed) → Backup.backup x pool v t list ≡ a → (b : Outcome PlainBacked) → BothBacked x q v list a b
          → BothChanged z (and_then (and_then a (λ d. accepted (backed_bytes d))) backed_to) (and_then b store_backed)
      go a e b (BothBacked.stopped k d) = stopped k d
      go a e b (BothBacked.backed d f h) =
          let fits = backup-fit g.fit pool v t list d g.pool_long e in
          changed _ _ (λ i. sym h.number i ∷ sym h.taken i ∷ sym h.touched i ∷ [])
          (stand d.book d.pool f.store (h.agree fits.fit) (fits.sizes ∙ sizes))

  retire-alike : (v t : ℕ) → Alike z (ours spare here (retire v t)) (plain q (retire v t))
  unfolding ours plain retired_bytes
  retire-alike v t =
      rw (retire-on-bytes (fit-form g.fit) (fit-book g.fit) (length-bytes x) spare (rw sizes enough) v t)
      (changed_alike z standing _ _ (go (Retire.retire x v t) refl (PlainRetire.retire q v t) (retire-agree g v t)))
    where
      go : (a : Outcome Retired) → Retire.retire x v t ≡ a → (b : Outcome PlainRetired) → BothRetired pool a b
          → BothChanged z (and_then (and_then a (λ d. accepted (retired_bytes d))) (retired_to here)) (and_then b store_retired)
      go a e b (BothRetired.stopped k d) = stopped k d
      go a e b (BothRetired.retires d f h) =
          let fits = retire-fit g.fit v t d e in
          changed _ _ (ap (λ (k : ℕ). k ∷ []) h.cells) (stand d.book pool f.store (h.agree fits.fit) (fits.sizes ∙ sizes))

module _ (z : Sizes) (spare : ℕ) (enough : book_size z ≤ spare) where
  pub call-alike : {o : Ours} {q : Plain} → Stand z o q → (c : Call) → Alike z (ours spare o c) (plain q c)
  call-alike (stand x pool q g e) (enrol v r) = enrol-alike z spare enough g e v r
  call-alike (stand x pool q g e) (backup v t list) = backup-alike z spare enough g e v t list
  call-alike (stand x pool q g e) (collect t) = collect-alike z spare enough g e t
  call-alike (stand x pool q g e) (retire v t) = retire-alike z spare enough g e v t
  call-alike (stand x pool q g e) (read v k lbn) = read_alike z spare enough g e v k lbn
  call-alike (stand x pool q g e) audit = audit-alike z spare enough g e

  -- ---- lists of calls

  pub list-answers : {o : Ours} {q : Plain} → Stand z o q → (cs : List Call) → answers_of (ours spare) o cs ≡ answers_of plain q cs
  list-answers s [] = refl
  list-answers {o = o} {q = q} s (c ∷ cs) =
      let a = call-alike s c in
      ap₂ (λ (x : Answer) (xs : List Answer). x ∷ xs) a.answer (list-answers {o = (ours spare o c).next} a.next cs)

  pub list-stands : {o : Ours} {q : Plain} → Stand z o q → (cs : List Call) → Stand z (end_of (ours spare) o cs) (end_of plain q cs)
  list-stands s [] = s
  list-stands {o = o} {q = q} s (c ∷ cs) = list-stands {o = (ours spare o c).next} (call-alike s c).next cs

  pub list-undamaged : {o : Ours} {q : Plain} → Stand z o q → (cs : List Call)
      → all (λ a. not (says_damage a)) (answers_of (ours spare) o cs) ≡ true
  list-undamaged s [] = refl
  list-undamaged {o = o} {q = q} s (c ∷ cs) =
      let a = call-alike s c in rw a.undamaged (list-undamaged {o = (ours spare o c).next} a.next cs)
