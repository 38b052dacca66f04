-- Laws of both passes and of the end of a backup.
use Prim.Native.Nat.{ℕ}
use mathlib.Core.Path.{◌≡◌, refl, sym, ap, ◌∙◌}
use mathlib.Core.List.{List}
use native.Mathlib.Omega.{arith}
use lib.ListN.{length, replicate, length-replicate}
use Rattle.std.specs.Prelude.{Ok, Err}
use Rattle.words.proofs.ChoiceLaws.{not_both}
use Rattle.words.specs.Lent.{Lent}
use Rattle.words.specs.Outcome.{Outcome, refused, accepted}
use Rattle.words.specs.Refusals.{number}
use Rattle.words.specs.declared.refusals.Refusal.{Refusal}
use Rattle.runs.specs.Changes.{change_count, changes}
use Rattle.list.specs.declared.ChangeList.{ChangeList}
use Rattle.book.specs.Book.{Book, entry_at}
use Rattle.book.specs.Layout.{book_of, told, Holds, Is}
use Rattle.book.specs.FormFacts.{FormFacts}
use Rattle.model.specs.Backup.{Work, run_changes, begun}
use Rattle.book.proofs.Holding.{is_same}
use Rattle.placer.proofs.PoolLaws.{start-now}
use Rattle.mover.specs.Stepping.{no_tally, RanBy}
use Rattle.placer.specs.Working.{pool_now, work_at, work_of, Job, Standing, Storable}
use Rattle.placer.specs.declared.placing.Tally.{Tally}
use Rattle.intake.specs.Closing.{closed_book, WorkedBy}

-- the table of who took a block, before any did
abbrev pub no_marks : List ℕ
no_marks = replicate 4096 0

module _ (b : List ℕ) (f : FormFacts b) where
  abbrev x : Book
  x = book_of b

  pub standing-start : Standing (book_of b) (book_of b) no_marks no_tally 0 0
  standing-start = record {
    sizes = refl;
    slots = refl;
    cursor = f.parts.cursor;
    maps = f.parts.maps;
    records = omega arith;
    kept = λ p e. e;
    marks = λ p e h. absurd (not_both (entry_at x.entries p).held h e);
    table = length-replicate {A = ℕ} 4096 0;
    taken = omega arith;
    touched = omega arith;
  }

  -- the work before the first change is the model's
  begins : (w pool : List ℕ) (list : ChangeList) → w ≡ b → Job (book_of b) pool list
      → work_of (book_of b) pool list.bytes.now (book_of w) no_marks no_tally ≡ begun (book_of b) pool
  unfolding begun
  begins w pool list e j = rw (e, start-now x.entries no_marks list.bytes.now pool (rw f.holds.sized.entries j.size))

-- all changes were made, from the book b and its pool: what `RanBy` says, between plain values
abbrev pub RanAt : (b pool list : List ℕ) → (v until : ℕ) → Tally → (b₁ taker₁ : List ℕ) → Type 0
RanAt b pool list v until u b₁ taker₁ =
    (run_changes v until (changes list) (begun (book_of b) pool) ≡ accepted (work_of (book_of b) pool list (book_of b₁) taker₁ u))
    × Holds b₁
    × Standing (book_of b) (book_of b₁) taker₁ u (change_count list) (change_count list)

-- what the run answered
module _ (book pool work : Lent (List ℕ)) (list : ChangeList) (taker : Lent (List ℕ)) (v until : ℕ) where
  abbrev ran : Work → Outcome Work
  ran w = run_changes v until (changes list.bytes.now) w

  pub ran-refused : (e : Refusal) → RanBy book pool work list.bytes.now taker v until (Err e)
      → FormFacts book.entry.now → Job (told book.entry) pool.entry.now list
      → work.entry.now ≡ book.entry.now → taker.entry.now ≡ no_marks
      → run_changes v until (changes list.bytes.now) (begun (told book.entry) pool.entry.now) ≡ refused (number e)
  unfolding RanBy
  ran-refused e h f j same unmarked =
      let g = rw unmarked at h in
      ap ran (sym (begins book.entry.now f _ _ list same j)) ∙ g

  pub ran-through : (u : Tally) → RanBy book pool work list.bytes.now taker v until (Ok u)
      → FormFacts book.entry.now → Job (told book.entry) pool.entry.now list
      → work.entry.now ≡ book.entry.now → taker.entry.now ≡ no_marks
      → RanAt book.entry.now pool.entry.now list.bytes.now v until u work.exit.now taker.exit.now
  unfolding RanBy
  ran-through u h f j same unmarked =
      let g = rw unmarked at h in
      (ap ran (sym (begins book.entry.now f _ _ list same j)) ∙ g.0, g.1, g.2)

pub storable : (b pool : List ℕ) (list : ChangeList) (v until : ℕ) (u : Tally) (b₁ taker₁ : List ℕ) → Job (book_of b) pool list
    → RanAt b pool list.bytes.now v until u b₁ taker₁ → Storable (book_of b) (book_of b₁) pool list taker₁
storable b pool list v until u b₁ taker₁ j h = record {
  size = j.size;
  sizes = h.2.sizes;
  marks = λ p e k. let z = h.2.marks p e k in let n = list.whole.changes in omega arith;
}

module _ (book pool work : Lent (List ℕ)) (list : ChangeList) (v t until : ℕ) where
  pub worked_refused : (e : Refusal)
      → run_changes v until (changes list.bytes.now) (begun (told book.entry) pool.entry.now) ≡ refused (number e)
      → pool.exit.now ≡ pool.entry.now → WorkedBy book pool work list.bytes.now v t until (Err e)
  unfolding WorkedBy
  worked_refused e h same = (h, same)

  pub worked : (u : Tally) (b₁ taker₁ : List ℕ) (first n : ℕ)
      → Job (told book.entry) pool.entry.now list
      → RanAt book.entry.now pool.entry.now list.bytes.now v until u b₁ taker₁
      → pool.exit.now ≡ pool_now (told book.entry).entries (book_of b₁).entries taker₁ list.bytes.now pool.entry.now
      → first ≡ length (told book.entry).records → n ≡ list.shape.changes → Is work.exit.now (closed_book v t first n (book_of b₁))
      → WorkedBy book pool work list.bytes.now v t until (Ok u)
  unfolding WorkedBy
  worked u b₁ taker₁ first n j h e g k i = record {
    made = book_of b₁;
    run = h.0 ∙ ap (λ (P : List ℕ). accepted (work_at (book_of b₁) P u)) (sym e);
    closed = is_same (rw (g, k, list.whole.changes)) i;
  }
