-- What the plain store took and its changes so far are the book's slots and records.
use Prim.Native.Nat.{ℕ, suc, ◌+◌}
use mathlib.Core.Path.{◌≡◌, refl, ap, ◌∙◌}
use mathlib.Core.Bool.{true}
use mathlib.Core.List.{List, [], ◌∷◌, map}
use native.Mathlib.Omega.{arith}
use lib.Dec.{eqb}
use lib.ListN.{length, get_or, set, take, drop, length-drop}
use lib.Seq.{length-take-le}
use borrow.Author.Tests.{eqb-true}
use Rattle.words.proofs.ChoiceLaws.{and_true}
use Rattle.words.specs.Lists.{sum}
use Rattle.book.specs.Book.{Slot, Rec, Book}
use Rattle.book.specs.Form.{pairs_ok}
use Rattle.book.proofs.Clauses.{book-parts}
use Rattle.model.specs.Journal.{journal_of, journal}
use Rattle.model.specs.Audit.{applied, no_maps}
use Rattle.model.specs.Plain.{Plain}
use Rattle.model.specs.PlainBackup.{changes_in}
use Rattle.claims.proofs.agreement.Agree.{Agree, taken_from}

-- the maps after a slot's backup
abbrev after : List (List ℕ) → Slot → List Rec → List (List ℕ)
after ms t rs = set ms t.volume (applied (get_or ms t.volume []) (take t.number rs))

length_taken : (ms : List (List ℕ)) (gone ts : List Slot) (rs : List Rec) → length (taken_from ms (journal_of gone ts rs)) ≡ length ts
length_taken ms gone [] rs = refl
length_taken ms gone (t ∷ ts) rs = ap suc (length_taken (after ms t rs) (t ∷ gone) ts (drop t.number rs))

-- the last pair ends at U
pairs-sum : (at : ℕ) (ts : List Slot) (u : ℕ) → pairs_ok at ts u ≡ true → at + sum (map (λ (t : Slot). t.number) ts) ≡ u
pairs-sum at [] u e = omega (arith, eqb-true at u e)
pairs-sum at (t ∷ ts) u e =
    omega (arith, pairs-sum (at + t.number) ts u (and_true (eqb t.first at) (pairs_ok (at + t.number) ts u) e).1)

changes-taken : (ms : List (List ℕ)) (gone ts : List Slot) (rs : List Rec) → sum (map (λ (t : Slot). t.number) ts) ≡ length rs
    → changes_in (taken_from ms (journal_of gone ts rs)) ≡ length rs
changes-taken ms gone [] rs e = e
changes-taken ms gone (t ∷ ts) rs e =
    let k : sum (map (λ (t : Slot). t.number) ts) ≡ length (drop t.number rs) = rw length-drop (omega arith) in
    omega (arith, length-take-le t.number rs (omega arith), changes-taken (after ms t rs) (t ∷ gone) ts (drop t.number rs) k)

-- "9 and 10 count all backups and changes so far"
module _ {x : Book} {pool : List ℕ} {q : Plain} (g : Agree x pool q) where
  pub taken_so_far : length q.taken ≡ length x.slots
  unfolding journal
  taken_so_far = ap length g.taken ∙ length_taken (no_maps x) [] x.slots x.records

  pub changes_so_far : changes_in q.taken ≡ length x.records
  unfolding journal
  changes_so_far =
      ap changes_in g.taken
      ∙ changes-taken (no_maps x) [] x.slots x.records
      (omega (arith, pairs-sum 0 x.slots (length x.records) (book-parts x g.fit.form).pairs))
