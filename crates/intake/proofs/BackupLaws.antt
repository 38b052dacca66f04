-- Laws of the whole backup call: each way out meets its contract.
use Prim.Native.Nat.{ℕ}
use mathlib.Core.Path.{◌≡◌, sym, ap, ◌∙◌}
use mathlib.Core.List.{List}
use lib.ListN.{length}
use Rattle.std.specs.Prelude.{Ok, Err}
use Rattle.words.specs.Lent.{Lent}
use Rattle.words.specs.Outcome.{Outcome, refused, accepted, and_then}
use Rattle.words.specs.Refusals.{number}
use Rattle.words.specs.declared.refusals.Refusal.{Refusal}
use Rattle.runs.specs.Changes.{change_count, changes}
use Rattle.book.specs.Book.{Book}
use Rattle.book.specs.Layout.{told, Is}
use Rattle.book.proofs.Holding.{bytes-is}
use Rattle.model.specs.Backup.{Work, run_changes, begun, closed}
use Rattle.model.specs.OnBytes.{backed_bytes}
use Rattle.placer.specs.Working.{work_at}
use Rattle.placer.specs.declared.placing.Tally.{Tally}
use Rattle.permit.specs.Allowing.{Ready}
use Rattle.intake.specs.Closing.{closed_book}
use Rattle.intake.specs.Promises.{outcome, BacksUp}
use Rattle.permit.specs.declared.allowing.Plan.{Plan}

module _ (book pool spare : Lent (List ℕ)) (v t : ℕ) (list : Lent (List ℕ)) where
  -- nothing changes on a refusal
  pub refused-up : (e : Refusal) → book.exit.now ≡ book.entry.now → pool.exit.now ≡ pool.entry.now
      → outcome book pool spare v t list ≡ refused (number e) → BacksUp book pool spare v t list (Err e)
  refused-up e same kept f = record { book = rw f same; stored = rw f kept; answer = rw f }

  module _ (plan : Plan) (ready : Ready book.entry.now pool.entry.now (length spare.entry.now) v t
      list.entry.now plan) where
    abbrev x : Book
    x = told book.entry

    abbrev begin : Work
    begin = begun (told book.entry) pool.entry.now

    -- the call, by what the changes came to
    comes_to : (o : Outcome Work) → run_changes v plan.until (changes list.entry.now) begin ≡ o
        → outcome book pool spare v t list
        ≡ and_then o (λ (w : Work). accepted (backed_bytes (closed x v t (change_count list.entry.now) w)))
    comes_to o e =
        ready.goes
        ∙ ap (λ (o : Outcome Work). and_then o (λ (w : Work). accepted (backed_bytes (closed x v t (change_count list.entry.now) w))))
        (ap (λ (u : ℕ). run_changes v u (changes list.entry.now) begin) (sym ready.until) ∙ e)

    pub changes-stopped : (e : Refusal) → book.exit.now ≡ book.entry.now → pool.exit.now ≡ pool.entry.now
        → run_changes v plan.until (changes list.entry.now) begin ≡ refused (number e) → BacksUp book pool spare v t list (Err e)
    changes-stopped e same kept h = refused-up e same kept (comes_to (refused (number e)) h)

    pub backed-up : (u : Tally) (made : Book) (b' : List ℕ)
        → run_changes v plan.until (changes list.entry.now) begin ≡ accepted (work_at made pool.exit.now u)
        → Is b' (closed_book v t (length x.records) (change_count list.entry.now) made) → book.exit.now ≡ b'
        → BacksUp book pool spare v t list (Ok (record { number = plan.number; taken = u.taken; touched = u.touched }))
    unfolding backed_bytes closed
    backed-up u made b' run ends e =
        let f = comes_to (accepted (work_at made pool.exit.now u)) run in
        record { book = rw f (e ∙ bytes-is ends); stored = rw f; answer = rw (f, ready.number) }
