-- Laws of the whole call: each way out meets its contract.
use Prim.Native.Nat.{ℕ}
use mathlib.Core.Path.{◌≡◌, sym, ap, subst, ◌∙◌}
use mathlib.Core.List.{List}
use lib.ListN.{length}
use Rattle.std.specs.Prelude.{true, ⊤, Result, Ok, Err, is_ok}
use Rattle.words.proofs.Refused.{number-not_zero}
use Rattle.words.specs.Lent.{Lent}
use Rattle.words.specs.Outcome.{Outcome, refused, accepted, and_then}
use Rattle.words.specs.Refusals.{number, refusal_number}
use Rattle.words.specs.declared.refusals.Refusal.{Refusal}
use Rattle.book.specs.Book.{Book}
use Rattle.book.specs.Layout.{told, book_of, Is}
use Rattle.book.proofs.Holding.{bytes-is, is_same}
use Rattle.model.specs.Retire.{retired}
use Rattle.model.specs.OnBytes.{retired_bytes}
use Rattle.retirer.specs.Allowing.{Ready}
use Rattle.retirer.specs.Clearing.{clear_all}
use Rattle.retirer.specs.Closing.{closed_book, WorkedBy}
use Rattle.retirer.specs.Promises.{outcome, Retires}
use Rattle.retirer.specs.declared.allowing.Plan.{Plan}

-- what the work on the copy answered, from a copy of b
module _ (b : List ℕ) (work : Lent (List ℕ)) (v t until cells : ℕ) (same : work.entry.now ≡ b) where
  pub work-stopped : {r : Result ⊤ Refusal} (e : Refusal) → r ≡ Err e → WorkedBy work v t until cells r
      → clear_all v until (book_of b) ≡ refused (number e)
  unfolding WorkedBy
  work-stopped e f h = rw same at (rw f at h)

  pub work-done : (r : Result ⊤ Refusal) → is_ok r ≡ true → WorkedBy work v t until cells r
      → (y : Book) × (clear_all v until (book_of b) ≡ accepted y) × Is work.exit.now (closed_book v t (length (book_of b).records) cells y)
  unfolding WorkedBy
  work-done (Ok u) f g = (
    g.made,
    subst (λ (w : List ℕ). clear_all v until (book_of w) ≡ accepted g.made) same g.run,
    subst (λ (w : List ℕ). Is work.exit.now (closed_book v t (length (book_of w).records) cells g.made)) same g.closed,
  )
  work-done (Err e) f g = absurd cc

module _ (book spare : Lent (List ℕ)) (v t : ℕ) where
  -- nothing changes on a refusal
  pub refused-by : (e : Refusal) → book.exit.now ≡ book.entry.now → outcome book spare v t ≡ refused (number e) → Retires book spare v t (Err e)
  refused-by e same f = record { book = rw f same; answer = rw f }

  module _ (plan : Plan) (ready : Ready book.entry.now (length spare.entry.now) v t plan) where
    abbrev x : Book
    x = told book.entry

    -- the call, by what the cells came to
    comes_to : (o : Outcome Book) → clear_all v plan.until (told book.entry) ≡ o
        → outcome book spare v t ≡ and_then o (λ (y : Book). accepted (retired_bytes (retired (told book.entry) v t y)))
    comes_to o e =
        ready.goes
        ∙ ap (λ (o : Outcome Book). and_then o (λ (y : Book). accepted (retired_bytes (retired x v t y))))
        (ap (λ (u : ℕ). clear_all v u x) (sym ready.until) ∙ e)

    pub stopped_by : (r : Result ℕ Refusal) (e : Refusal) → refusal_number r ≡ number e → book.exit.now ≡ book.entry.now
        → clear_all v plan.until (told book.entry) ≡ refused (number e)
        → Retires book spare v t r
    stopped_by (Ok n) e h same f = absurd (number-not_zero e (sym h))
    stopped_by (Err d) e h same f = refused-by d same (rw h (comes_to (refused (number e)) f))

    pub retired-by : (y : Book) (b' : List ℕ) → clear_all v plan.until (told book.entry) ≡ accepted y
        → Is b' (closed_book v t (length (told book.entry).records) plan.cells y)
        → book.exit.now ≡ b' → Retires book spare v t (Ok plan.cells)
    unfolding retired_bytes retired
    retired-by y b' run ends e =
        let f = comes_to (accepted y) run in
        let i = is_same (ap (λ (k : ℕ). closed_book v t (length x.records) k y) ready.cells) ends in
        record { book = rw f (e ∙ bytes-is i); answer = rw f (ap (λ (n : ℕ). accepted n) ready.cells) }
