-- What it says that an entry is fit, and which entries are.
use Prim.Native.Nat.{ℕ, ◌≤◌}
use mathlib.Core.Path.{◌≡◌, refl}
use mathlib.Core.Logic.{◌≢◌}
use mathlib.Core.Bool.{Bool, true, false, ◌&&◌, ◌||◌}
use mathlib.Core.List.{List}
use native.Mathlib.Omega.{arith}
use lib.Dec.{leb, eqb}
use lib.ListN.{length}
use borrow.Author.Tests.{leb-true, eqb-true, le-leb, eq-eqb}
use Rattle.words.specs.Blocks.{print_size}
use Rattle.words.proofs.ChoiceLaws.{and_true, true_and, or_l, or_r}
use Rattle.words.specs.Lists.{all, all_zero}
use Rattle.words.proofs.Places.{all_get_d}
use Rattle.book.specs.Book.{Entry, no_print, free_entry, entry_at}
use Rattle.book.specs.Form.{entry_ok}
use Rattle.claims.proofs.form.FitParts.{entry_fit}

-- ---- what a fit entry has

module _ (e : Entry) (f : entry_fit e ≡ true) where
  fit-form : ((e.expiry ≤ 65000) × ((e.held || (eqb e.count 0 && all_zero e.print)) ≡ true)) × (length e.print ≡ print_size)
  unfolding entry_fit entry_ok
  fit-form =
      let a = and_true (entry_ok e) (eqb (length e.print) print_size) f in
      let b = and_true (leb e.expiry 65000) (e.held || (eqb e.count 0 && all_zero e.print)) a.0 in
      ((leb-true e.expiry 65000 b.0, b.1), eqb-true (length e.print) print_size a.1)

  pub fit-expiry : e.expiry ≤ 65000
  fit-expiry = fit-form.0.0

  pub fit-print : length e.print ≡ print_size
  fit-print = fit-form.1

  -- "a free entry has count 0"
  pub counted-held : e.count ≢ 0 → e.held ≡ true
  counted-held some = go e.held fit-form.0.1
    where
      go : (t : Bool) → (t || (eqb e.count 0 && all_zero e.print)) ≡ true → t ≡ true
      go true k = refl
      go false k = absurd (some (eqb-true e.count 0 (and_true (eqb e.count 0) (all_zero e.print) k).0))

-- ---- entries that are fit

module _ (e : Entry) (low : e.expiry ≤ 65000) (whole : length e.print ≡ print_size) where
  fit-from : (e.held || (eqb e.count 0 && all_zero e.print)) ≡ true → entry_fit e ≡ true
  unfolding entry_fit entry_ok
  fit-from k =
      true_and (entry_ok e) (eqb (length e.print) print_size)
      (true_and (leb e.expiry 65000) (e.held || (eqb e.count 0 && all_zero e.print)) (le-leb e.expiry 65000 low) k)
      (eq-eqb (length e.print) print_size whole)

  pub held-fit : e.held ≡ true → entry_fit e ≡ true
  held-fit h = fit-from (or_l e.held (eqb e.count 0 && all_zero e.print) h)

  pub unused_fit : e.count ≡ 0 → all_zero e.print ≡ true → entry_fit e ≡ true
  unused_fit c z =
      fit-from (or_r e.held (eqb e.count 0 && all_zero e.print)
      (true_and (eqb e.count 0) (all_zero e.print) (eq-eqb e.count 0 c) z))

pub free-fit : entry_fit free_entry ≡ true
unfolding free_entry no_print
free-fit = unused_fit free_entry (omega arith) refl refl refl

-- past the end too
pub entry-fit : (es : List Entry) (p : ℕ) → all entry_fit es ≡ true → entry_fit (entry_at es p) ≡ true
entry-fit es p e = all_get_d entry_fit es free_entry p e free-fit
