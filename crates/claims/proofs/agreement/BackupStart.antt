-- Where both sides agree, a backup starts level with nothing written, so changes that fit go in step.
use Prim.Native.Nat.{ℕ, ◌≤◌, ◌<◌}
use mathlib.Core.Path.{◌≡◌, refl, sym, ap, ◌∙◌}
use mathlib.Core.Logic.{◌≢◌, ◌⊎◌, inl, inr}
use mathlib.Core.Bool.{true}
use mathlib.Core.List.{List, [], append-nil}
use native.Mathlib.Omega.{arith}
use lib.Dec.{eqb, ltb}
use lib.ListN.{length, get_or, set, get_or-eq_default}
use lib.Seq.{set-get_or}
use borrow.Author.Tests.{eqb-true, ltb-true}
use Rattle.words.specs.Blocks.{unmapped}
use Rattle.words.proofs.ChoiceLaws.{or_cases, or_no}
use Rattle.words.specs.Lists.{all, joined, count_of}
use Rattle.words.proofs.Places.{all-place}
use Rattle.words.proofs.Ranges.{below_or_not}
use Rattle.runs.specs.Changes.{Change}
use Rattle.book.specs.Book.{volumes, Book}
use Rattle.book.specs.Form.{pbn_ok}
use Rattle.book.proofs.Clauses.{book-parts}
use Rattle.model.specs.Backup.{begun, run_changes}
use Rattle.model.specs.Plain.{Plain, current_of}
use Rattle.model.specs.PlainBackup
use Rattle.claims.proofs.kept.Sound.{Sound}
use Rattle.claims.proofs.agreement.Agree.{Agree, named}
use Rattle.claims.proofs.agreement.AgreeLaws.{current-agree}
use Rattle.claims.proofs.form.ChangesFit.{change_fit}
use Rattle.claims.proofs.agreement.Level.{Level, names_in}
use Rattle.claims.proofs.agreement.Trail.{Trail}
use Rattle.claims.proofs.agreement.Lockstep.{BothMoved, run-both}

module _ {x : Book} {pool : List ℕ} {q : Plain} (g : Agree x pool q) (v : ℕ) (h : v < volumes) where
  copy_start : current_of q v ≡ get_or x.maps v []
  copy_start = current-agree g v h

  maps-start : set x.maps v (current_of q v) ≡ x.maps
  maps-start = ap (λ (m : List ℕ). set x.maps v m) copy_start ∙ set-get_or x.maps v []

  names-start : (p : ℕ) → names_in x.maps v (current_of q v) p ≡ named x p
  unfolding named
  names-start p = ap (λ (ms : List (List ℕ)). count_of (eqb p) (joined ms)) maps-start

  -- a cell that is mapped names a block of the pool
  cells-start : (i : ℕ) → get_or (get_or x.maps v []) i unmapped ≢ unmapped → get_or (get_or x.maps v []) i unmapped < x.sizes.n
  unfolding pbn_ok
  cells-start i z = go (below_or_not i (length (get_or x.maps v [])))
    where
      row : all (pbn_ok x.sizes.n) (get_or x.maps v []) ≡ true
      row = all-place (all (pbn_ok x.sizes.n)) x.maps [] v (book-parts x g.fit.form).maps (omega (arith, g.fit.sized.maps))

      mapped : (c : ℕ) → c ≢ unmapped → (ltb c x.sizes.n ≡ true) ⊎ (eqb c unmapped ≡ true) → c < x.sizes.n
      mapped c y (inl e) = ltb-true c x.sizes.n e
      mapped c y (inr e) = absurd (y (eqb-true c unmapped e))

      go : (i < length (get_or x.maps v [])) ⊎ (length (get_or x.maps v []) ≤ i) → get_or (get_or x.maps v []) i unmapped < x.sizes.n
      go (inl b) =
          mapped (get_or (get_or x.maps v []) i unmapped) z
          (or_cases (ltb (get_or (get_or x.maps v []) i unmapped) x.sizes.n) (eqb (get_or (get_or x.maps v []) i unmapped) unmapped)
          (all-place (pbn_ok x.sizes.n) (get_or x.maps v []) unmapped i row b))
      go (inr b) = absurd (z (get_or-eq_default (get_or x.maps v []) unmapped b))

  pub start-level : Level x v (begun x pool) (PlainBackup.begun q v)
  unfolding begun PlainBackup.begun
  start-level = record {
    alike = record {
      blocks = g.blocks;
      cursor = g.cursor;
      taken = refl;
      touched = refl;
      entries = g.fit.sized.entries;
      pool = g.pool_long;
    };
    sizes = refl;
    retentions = refl;
    slots = refl;
    maps = sym maps-start;
    width = ap length copy_start ∙ g.fit.sized.cells v h;
    counts = λ p k. g.counts p k ∙ sym (names-start p);
    cells = rw copy_start cells-start;
  }

  pub start_trail : (until : ℕ) → Trail x v until [] (begun x pool) (PlainBackup.begun q v)
  unfolding begun PlainBackup.begun Sound
  start_trail until = record {
    new = [];
    records = sym (append-nil x.records);
    copy = copy_start;
    sound = tt;
    lbns = refl;
    expiries = λ p k. omega arith;
    used = λ first p k e z. rw or_no (g.used first p k e (sym (names-start p) ∙ z));
    free = λ p k e. (names-start p ∙ (g.free p k e).0, refl, e);
    prints = g.prints;
    kept = λ p k e f. refl;
  }

  -- all changes of a list, from where both sides agree
  pub changes-both : (until : ℕ) (cs : List Change) → all (change_fit x.sizes.l) cs ≡ true
      → BothMoved x v until cs (run_changes v until cs (begun x pool)) (PlainBackup.run_changes cs (PlainBackup.begun q v))
  changes-both until cs f =
      run-both x v until g.fit h [] cs f (begun x pool) (PlainBackup.begun q v) start-level (start_trail until)
