-- From a fit book, the changes of a good list keep what a backup needs, and each adds one record.
use Prim.Native.Nat.{ℕ, suc, ◌+◌, ◌≤◌, ◌<◌}
use mathlib.Core.Path.{◌≡◌, refl, ap, subst}
use mathlib.Core.Bool.{true, false}
use mathlib.Core.List.{List, [], ◌∷◌}
use native.Mathlib.Nat.{zero-add}
use native.Mathlib.Omega.{arith}
use lib.ListN.{length}
use lib.Seq.{take-length, drop-length}
use borrow.Author.Tests.{leb-true}
use Rattle.words.proofs.Accepted.{then-accepted}
use Rattle.words.proofs.ChoiceLaws.{and_true}
use Rattle.words.specs.Lists.{all}
use Rattle.words.specs.Outcome.{accepted}
use Rattle.words.proofs.Places.{all_get_d}
use Rattle.runs.specs.Changes.{Change}
use Rattle.book.specs.Book.{volumes, Book, cell_at, retention_of}
use Rattle.book.specs.Form.{retention_ok, after_ok}
use Rattle.book.proofs.SizesIn.{sizes-facts}
use Rattle.model.specs.Pool.{pool_size}
use Rattle.model.specs.Backup.{Work, place, move_to, change_step, run_changes, begun}
use Rattle.claims.proofs.agreement.Agree.{Fit}
use Rattle.claims.proofs.form.ChangesFit.{change_fit, change_says}
use Rattle.claims.proofs.form.FitParts.{fit_parts}
use Rattle.claims.proofs.form.MoveFit.{move-fit}
use Rattle.claims.proofs.form.WorkFit.{WorkFit, place-fit}

module _ (x : Book) (v until : ℕ) (inside : v < volumes) (low : until ≤ 65000) where
  change_fit_lem : (k : ℕ) (c : Change) (w w' : Work) → change_fit x.sizes.l c ≡ true → WorkFit x k w → change_step v until c w ≡ accepted w'
      → WorkFit x (suc k) w'
  unfolding change_step
  change_fit_lem k c w w' good f e =
      let g = change_says x.sizes.l c good in
      let before = cell_at w.book.maps v c.lbn in
      let p = then-accepted (place c w) (move_to v until c.lbn before) w' e in
      move-fit x k v until c.lbn before inside low g.lbn p.0 (place-fit x k c g w f p.0 p.1) w' p.2

  pub run-fit : (k : ℕ) (cs : List Change) (w w' : Work) → all (change_fit x.sizes.l) cs ≡ true → WorkFit x k w
      → run_changes v until cs w ≡ accepted w' → WorkFit x (length cs + k) w'
  run-fit k [] w w' good f e = rw zero-add (subst (WorkFit x k) (cc) f)
  run-fit k (c ∷ cs) w w' good f e =
      let g = and_true (change_fit x.sizes.l c) (all (change_fit x.sizes.l) cs) good in
      let p = then-accepted (change_step v until c w) (λ u. run_changes v until cs u) w' e in
      let r = run-fit (suc k) cs p.0 w' g.1 (change_fit_lem k c w p.0 g.0 f p.1) p.2 in
      subst (λ (n : ℕ). WorkFit x n w') (omega arith) r

module _ {x : Book} (fit : Fit x) where
  pub start-fit : (pool : List ℕ) → length pool ≡ pool_size x.sizes.n → WorkFit x 0 (begun x pool)
  unfolding begun
  start-fit pool long =
      let p = fit_parts fit in
      record {
        few = (sizes-facts x.sizes p.sizes).n;
        sizes = refl;
        retentions = refl;
        slots = refl;
        cursor = p.cursor;
        entry_count = p.entry_count;
        entries = p.entries;
        map_count = p.map_count;
        maps = p.maps;
        record_count = omega arith;
        records = p.records;
        given = take-length x.records;
        afters = ap (all (after_ok false)) (drop-length x.records);
        pool = long;
      }

  -- a day is 60,000 at most, a retention 5,000
  pub until-low : (v t : ℕ) → t ≤ 60000 → t + retention_of x v ≤ 65000
  unfolding retention_ok
  until-low v t h =
      omega (arith, leb-true (retention_of x v) 5000 (all_get_d retention_ok x.retentions 0 v (fit_parts fit).retentions refl))
