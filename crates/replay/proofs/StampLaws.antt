-- Laws of specs/Stamps.antt.
-- The first record of each LBN in a backup, found by a stamp for each LBN.
use Prim.Native.Nat.{ℕ, zero, suc, ◌≤◌, ◌<◌}
use mathlib.Core.Path.{◌≡◌, refl, sym, ap, ◌∙◌}
use mathlib.Core.Bool.{Bool, true, false, ◌&&◌, ◌||◌}
use mathlib.Core.List.{List, [], ◌∷◌}
use native.Mathlib.Omega.{arith}
use lib.Dec.{ltb, eqb}
use lib.ListN.{length, get_or, set, length-set}
use borrow.Author.Tests.{eqb-true, eq-eqb, ne_eqb, ltb-true}
use Rattle.words.specs.Blocks.{unmapped}
use Rattle.words.specs.Choice.{when◌then◌else◌}
use Rattle.words.proofs.ChoiceLaws.{and_true, true_and, same_test}
use Rattle.words.specs.Lists.{each}
use Rattle.words.proofs.Each.{each_at, at_each, each_same, all-each}
use Rattle.words.specs.Lists.{all, up_from}
use Rattle.words.proofs.SetLaws.{get_d_set}
use Rattle.words.proofs.Tests.{eqb_swap}
use Rattle.book.specs.Book.{Sizes, Rec, Book}
use Rattle.book.specs.Form.{pbn_ok, rec_ok}
use Rattle.model.specs.Audit.{cell_sound}
use Rattle.model.specs.JournalAt.{first_before}
use Rattle.replay.specs.Stamps.{firsts_sound, stamped}

pub firsts-past : (x : Book) (k : ℕ) (a : List ℕ) (rs : List Rec) → firsts_sound x true k a rs ≡ true
firsts-past x k a [] = refl
firsts-past x k a (r ∷ rs) = firsts-past x k (set a r.lbn k) rs

-- ---- what the stamps find are the first records

module _ (x : Book) (k : ℕ) where
  -- at LBN l
  abbrev at : List ℕ → List Rec → ℕ → Bool
  at a rs l = eqb (get_or a l 0) k || cell_sound x (first_before l rs unmapped)

  first_cons : (r : Rec) (rs : List Rec) (l : ℕ) (t : Bool) → eqb r.lbn l ≡ t
      → first_before l (r ∷ rs) unmapped ≡ (when t then r.before else first_before l rs unmapped)
  first_cons r rs l true e = rw e
  first_cons r rs l false e = rw e

  module _ (r : Rec) (rs : List Rec) (a : List ℕ) (h : r.lbn < length a) where
    -- the record's own LBN has the stamp now
    own : at (set a r.lbn k) rs r.lbn ≡ true
    own = rw (get_d_set a r.lbn r.lbn k 0 h, eq-eqb r.lbn r.lbn refl, eq-eqb k k refl)

    other : (l : ℕ) → eqb r.lbn l ≡ false → at (set a r.lbn k) rs l ≡ at a (r ∷ rs) l
    other l e = rw (first_cons r rs l false e, get_d_set a r.lbn l k 0 h, eqb_swap l r.lbn, e)

    here : at a (r ∷ rs) r.lbn ≡ (eqb (get_or a r.lbn 0) k || cell_sound x r.before)
    here = rw (first_cons r rs r.lbn true (eq-eqb r.lbn r.lbn refl))

    one_more : (n : ℕ) → r.lbn < n
        → ((eqb (get_or a r.lbn 0) k || cell_sound x r.before) && each (at (set a r.lbn k) rs) 0 n)
        ≡ each (at a (r ∷ rs)) 0 n
    one_more n hn =
        same_test (first && each (at (set a r.lbn k) rs) 0 n) (each (at a (r ∷ rs)) 0 n)
        (λ e. let w = and_true first (each (at (set a r.lbn k) rs) 0 n) e in
        at_each (at a (r ∷ rs)) 0 n (λ l i j. to w.0 l (eqb r.lbn l) refl (each_at (at (set a r.lbn k) rs) 0 n w.1 l i j)))
        (λ e. true_and first (each (at (set a r.lbn k) rs) 0 n)
        (sym here ∙ each_at (at a (r ∷ rs)) 0 n e r.lbn (omega arith) hn)
        (at_each (at (set a r.lbn k) rs) 0 n (λ l i j. from l (eqb r.lbn l) refl (each_at (at a (r ∷ rs)) 0 n e l i j))))
      where
        first : Bool
        first = eqb (get_or a r.lbn 0) k || cell_sound x r.before

        to : first ≡ true → (l : ℕ) (t : Bool) → eqb r.lbn l ≡ t → at (set a r.lbn k) rs l ≡ true → at a (r ∷ rs) l ≡ true
        to f l true e w = ap (λ j. at a (r ∷ rs) j) (sym (eqb-true r.lbn l e)) ∙ here ∙ f
        to f l false e w = sym (other l e) ∙ w

        from : (l : ℕ) (t : Bool) → eqb r.lbn l ≡ t → at a (r ∷ rs) l ≡ true → at (set a r.lbn k) rs l ≡ true
        from l true e w = ap (λ j. at (set a r.lbn k) rs j) (sym (eqb-true r.lbn l e)) ∙ own
        from l false e w = other l e ∙ w

  firsts-each : (rs : List Rec) (z : Sizes) (a : List ℕ) → z.l ≤ length a → all (rec_ok z) rs ≡ true
      → firsts_sound x false k a rs ≡ each (at a rs) 0 z.l
  unfolding rec_ok cell_sound
  firsts-each [] z a h ok = sym (at_each (at a []) 0 z.l (λ l _ _. or-unmapped (eqb (get_or a l 0) k)))
    where
      or-unmapped : (t : Bool) → (t || true) ≡ true
      or-unmapped true = refl
      or-unmapped false = refl
  firsts-each (r ∷ rs) z a h ok =
      let w = and_true (rec_ok z r) (all (rec_ok z) rs) ok in
      let lbn = ltb r.lbn z.l in
      let l =
      ltb-true r.lbn z.l (and_true lbn (pbn_ok z.n r.before)
      (and_true (lbn && pbn_ok z.n r.before) (pbn_ok z.n r.after) w.0).0).0 in
      ap (λ (t : Bool). (eqb (get_or a r.lbn 0) k || cell_sound x r.before) && t)
      (firsts-each rs z (set a r.lbn k) (rw (length-set a r.lbn k) h) w.1)
      ∙ one_more r rs a (omega arith) z.l l

  -- where no LBN has the stamp yet, every first record is tested
  pub firsts-fresh : (rs : List Rec) (z : Sizes) (a : List ℕ) → z.l ≤ length a → all (rec_ok z) rs ≡ true → ((l : ℕ) → get_or a l 0 < k)
      → firsts_sound x false k a rs ≡ all (λ l. cell_sound x (first_before l rs unmapped)) (up_from 0 z.l)
  firsts-fresh rs z a h ok low =
      firsts-each rs z a h ok
      ∙ each_same (at a rs) (λ l. cell_sound x (first_before l rs unmapped)) 0 z.l
      (λ l _ _. rw (ne_eqb (get_or a l 0) k (λ e. absurd (omega (arith, low l)))))
      ∙ sym (all-each (λ l. cell_sound x (first_before l rs unmapped)) z.l)

-- no stamp is above k
pub stamped-low : (k : ℕ) (a : List ℕ) (rs : List Rec) → ((l : ℕ) → get_or a l 0 ≤ k) → (l : ℕ) → get_or (stamped k a rs) l 0 ≤ k
stamped-low k a [] h l = h l
stamped-low k a (r ∷ rs) h l = stamped-low k (set a r.lbn k) rs (λ j. set-low a r.lbn j h) l
  where
    set-low : (a : List ℕ) (i j : ℕ) → ((l : ℕ) → get_or a l 0 ≤ k) → get_or (set a i k) j 0 ≤ k
    set-low [] i j h = omega arith
    set-low (y ∷ a) zero zero h = omega arith
    set-low (y ∷ a) zero (suc j) h = h (suc j)
    set-low (y ∷ a) (suc i) zero h = h 0
    set-low (y ∷ a) (suc i) (suc j) h = set-low a i j (λ l. h (suc l))

pub length-stamped : (k : ℕ) (a : List ℕ) (rs : List Rec) → length (stamped k a rs) ≡ length a
length-stamped k a [] = refl
length-stamped k a (r ∷ rs) = length-stamped k (set a r.lbn k) rs ∙ length-set a r.lbn k
