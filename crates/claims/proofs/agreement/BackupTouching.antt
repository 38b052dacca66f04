-- A backup whose changes were all made leaves every entry that they don't name.
use Prim.Native.Nat.{ℕ, ◌<◌}
use mathlib.Core.Path.{◌≡◌, refl, sym, ap, subst, ◌∙◌}
use mathlib.Core.Bool.{Bool, false, ◌||◌}
use mathlib.Core.List.{List, [], ◌∷◌, ◌++◌, map}
use lib.Dec.{eqb}
use lib.ListN.{get_or}
use borrow.Author.Tests.{eq-eqb}
use Rattle.words.proofs.Appends.{those_append, map_append, last_of_append}
use Rattle.words.specs.Blocks.{unmapped}
use Rattle.words.specs.Choice.{when◌then◌else◌}
use Rattle.words.specs.Lists.{some_of, last_of}
use Rattle.runs.specs.Changes.{changes, change_count, lbns}
use Rattle.runs.proofs.Laws.{changes-lbns}
use Rattle.book.specs.Book.{volumes, Rec, Book, entry_at}
use Rattle.book.specs.Next.{with_day, with_slot}
use Rattle.model.specs.Audit.{applied}
use Rattle.model.specs.Backup.{Work, until_next, closed}
use Rattle.model.specs.Plain
use Rattle.model.specs.Plain.{image, Taken, Plain, with_blocks, with_taken, taken_of, no_map, leaves, current, current_of}
use Rattle.model.specs.PlainBackup
use Rattle.model.specs.PlainBackup.{PlainWork}
use Rattle.claims.specs.Claims.{is_old_or_new}
use Rattle.claims.proofs.agreement.Agree.{Agree}
use Rattle.claims.proofs.agreement.AgreeLaws.{current-agree}
use Rattle.claims.proofs.form.BackupAllowed.{Allowed}
use Rattle.claims.proofs.agreement.Level.{Level}
use Rattle.claims.proofs.agreement.Trail.{Trail}
use Rattle.claims.proofs.agreement.Touching.{unnamed}
use Rattle.claims.proofs.agreement.BackupAfter.{rising_new}

module _ {x : Book} {pool : List ℕ} {q : Plain} (g : Agree x pool q) (v t : ℕ) (list : List ℕ) (ok : Allowed x v t list)
    (inside : v < volumes)
    (w : Work) (u : PlainWork) (a : Level x v w u) (r : Trail x v (until_next x v) (changes list) w u) where
  -- the image that is added
  abbrev added : Taken
  added = record { volume = v; day = t; what = image u.copy; changes = change_count list }

  -- the current map after is the copy
  current-after : current q.sizes (taken_of v (q.taken ++ (added ∷ []))) ≡ applied (get_or x.maps v []) r.new
  current-after =
      ap (current q.sizes) (those_append (λ (i : Taken). eqb i.volume v) q.taken (added ∷ []))
      ∙ ap (λ (s : Bool). current q.sizes (taken_of v q.taken ++ (when s then added ∷ [] else []))) (eq-eqb v v refl)
      ∙ ap (λ (ms : List (List ℕ)). last_of (no_map q.sizes) ms)
      (map_append (λ (i : Taken). leaves q.sizes i.what) (taken_of v q.taken) (added ∷ []))
      ∙ last_of_append (no_map q.sizes) (map (λ (i : Taken). leaves q.sizes i.what) (taken_of v q.taken)) (u.copy ∷ [])
      ∙ r.copy

  -- p is in no cell that the changes set, before or after
  abbrev in_none : ℕ → List ℕ → List ℕ → List ℕ → Type 0
  in_none p old new ls = some_of (λ l. eqb p (get_or old l unmapped) || eqb p (get_or new l unmapped)) ls ≡ false

  pub touching : (p : ℕ) → p < x.sizes.n
      → some_of (is_old_or_new q (PlainBackup.closed q v t (change_count list) u).store v p) (lbns list) ≡ false
      → entry_at (closed x v t (change_count list) w).book.entries p ≡ entry_at x.entries p
  unfolding closed with_day with_slot PlainBackup.closed Plain.at_day with_blocks with_taken
  touching p h e =
      let n = unnamed p (get_or x.maps v []) r.new r.sound (rising_new g v t list ok inside w u a r) (renamed e) in
      r.kept p h n.0 n.1
    where
      renamed : in_none p (current_of q v) (current q.sizes (taken_of v (q.taken ++ (added ∷ [])))) (lbns list)
          → in_none p (get_or x.maps v []) (applied (get_or x.maps v []) r.new) (map (λ (r : Rec). r.lbn) r.new)
      renamed n =
          subst (in_none p (get_or x.maps v []) (applied (get_or x.maps v []) r.new)) (sym (changes-lbns list) ∙ sym r.lbns)
          (subst (λ (m : List ℕ). in_none p (get_or x.maps v []) m (lbns list)) current-after
          (subst (λ (m : List ℕ). in_none p m (current q.sizes (taken_of v (q.taken ++ (added ∷ [])))) (lbns list))
          (current-agree g v inside) n))
