-- The changes of a backup go in step on both sides: refused by the same number, when a block is found or taken, or both made.
use Prim.Native.Nat.{ℕ, ◌<◌}
use mathlib.Core.Path.{◌≡◌, sym, ap, ◌∙◌}
use mathlib.Core.Bool.{true, false}
use mathlib.Core.List.{List, [], ◌∷◌, ◌++◌, append-nil, append_assoc}
use native.Mathlib.Omega.{arith}
use lib.ListN.{length, get_or}
use Rattle.words.specs.Blocks.{block_size, unmapped}
use Rattle.words.proofs.ChoiceLaws.{and_true}
use Rattle.words.specs.Lists.{all}
use Rattle.words.specs.Outcome.{Outcome, refused, accepted, and_then}
use Rattle.runs.specs.Changes.{Change}
use Rattle.book.specs.Book.{volumes, Book, cell_at}
use Rattle.book.proofs.SizesIn.{sizes-facts}
use Rattle.model.specs.Backup.{Work, Placed, move_to, change_step, run_changes}
use Rattle.model.specs.PlainBackup
use Rattle.model.specs.PlainBackup.{PlainWork, PlainPlaced}
use Rattle.claims.proofs.form.ChangesFit.{change_fit, change_says}
use Rattle.claims.specs.Claims.{is_damage}
use Rattle.claims.proofs.agreement.Agree.{Fit}
use Rattle.claims.proofs.agreement.Placing.{PlacedAt, BothPlaced, place-both}
use Rattle.claims.proofs.agreement.Level.{Level, placed-level, cell-before, never-refused, moved-level}
use Rattle.claims.proofs.agreement.Trail.{Trail, trail_next}

-- the changes ds made on both sides from the book x: refused by the same number, or where they leave both
pub data BothMoved (x : Book) (v until : ℕ) (ds : List Change) : Outcome Work → Outcome PlainWork → Type 0 where
  stopped : (k : ℕ) → is_damage k ≡ false → BothMoved x v until ds (refused k) (refused k)
  moved : (w : Work) (u : PlainWork) → Level x v w u → Trail x v until ds w u → BothMoved x v until ds (accepted w) (accepted u)

module _ (x : Book) (v until : ℕ) (fit : Fit x) (h : v < volumes) where
  inside : v < length x.maps
  inside = omega (arith, fit.sized.maps)

  small : x.sizes.n < unmapped
  small = omega (arith, (sizes-facts x.sizes fit.sizes).n)

  -- steps 3 and 4 of a change that was placed
  module _ (ds : List Change) (c : Change) (i : c.lbn < x.sizes.l) (w : Work) (u : PlainWork) (a : Level x v w u)
      (g : Trail x v until ds w u) where
    move-both : (p : ℕ) (w' : Work) (u' : PlainWork) → PlacedAt w u p w' u' → BothMoved x v until (ds ++ (c ∷ []))
        (move_to v until c.lbn (get_or u'.copy c.lbn unmapped) (record { pbn = p; work = w' }))
        (accepted (PlainBackup.moved c.lbn (record { pbn = p; work = u' })))
    unfolding move_to
    move-both p w' u' r =
        rw (never-refused x v inside small until c.lbn p w' u' b i k fit)
        (moved _ _ (moved-level x v inside small until c.lbn p w' u' b i k)
        (trail_next x v inside small until ds c w u p w' u' a g r i))
      where
        b : Level x v w' u'
        b = placed-level x v w u p w' u' a r

        k : p < x.sizes.n
        k = omega (arith, r.bound, a.alike.entries, ap (λ s. s.n) a.sizes)

    step_both : (o : Outcome Placed) (o' : Outcome PlainPlaced) → BothPlaced w u o o' → BothMoved x v until (ds ++ (c ∷ []))
        (and_then o (move_to v until c.lbn (cell_at w.book.maps v c.lbn)))
        (and_then o' (λ d. accepted (PlainBackup.moved c.lbn d)))
    step_both o o' (BothPlaced.stopped k d) = stopped k d
    step_both o o' (BothPlaced.placed p w' u' r) =
        let e : cell_at w.book.maps v c.lbn ≡ get_or u'.copy c.lbn unmapped =
        cell-before x v c.lbn w u a inside ∙ ap (λ (m : List ℕ). get_or m c.lbn unmapped) (sym r.copy) in
        rw e (move-both p w' u' r)

    pub change_both : length c.block ≡ block_size
        → BothMoved x v until (ds ++ (c ∷ [])) (change_step v until c w) (PlainBackup.change_step c u)
    unfolding change_step PlainBackup.change_step
    change_both l = step_both _ _ (place-both c w u l a.alike)

  next_both : (ds cs es : List Change) (o : Outcome Work) (o' : Outcome PlainWork) → BothMoved x v until ds o o'
      → ((w : Work) (u : PlainWork) → Level x v w u → Trail x v until ds w u
      → BothMoved x v until es (run_changes v until cs w) (PlainBackup.run_changes cs u))
      → BothMoved x v until es (and_then o (λ w. run_changes v until cs w)) (and_then o' (λ u. PlainBackup.run_changes cs u))
  next_both ds cs es o o' (stopped k d) next = stopped k d
  next_both ds cs es o o' (moved w u a g) next = next w u a g

  pub run-both : (ds cs : List Change) → all (change_fit x.sizes.l) cs ≡ true → (w : Work) (u : PlainWork)
      → Level x v w u → Trail x v until ds w u
      → BothMoved x v until (ds ++ cs) (run_changes v until cs w) (PlainBackup.run_changes cs u)
  run-both ds [] f w u a g = rw append-nil (moved w u a g)
  run-both ds (c ∷ cs) f w u a g =
      let t = and_true (change_fit x.sizes.l c) (all (change_fit x.sizes.l) cs) f in
      let s = change_says x.sizes.l c t.0 in
      rw (← append_assoc ds (c ∷ []) cs)
      (next_both (ds ++ (c ∷ [])) cs ((ds ++ (c ∷ [])) ++ cs) _ _ (change_both ds c s.lbn w u a g s.block)
      (run-both (ds ++ (c ∷ [])) cs t.1))
