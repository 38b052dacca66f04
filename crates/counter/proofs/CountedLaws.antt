-- Laws of specs/Counted.antt.
-- What counting a book gives on each way out: its number, or the four numbers of a book in form.
use Prim.Native.Nat.{ℕ}
use mathlib.Core.Path.{◌≡◌, sym}
use mathlib.Core.List.{List}
use Rattle.words.proofs.Refused.{unless-refusal}
use Rattle.words.specs.Outcome.{refused, accepted, unless}
use Rattle.words.specs.Refusals.{number}
use Rattle.words.specs.declared.refusals.Refusal.{Refusal}
use Rattle.book.specs.Layout.{book_of}
use Rattle.book.specs.Form.{form_number}
use Rattle.counter.specs.Sums
use Rattle.counter.specs.Counts.{counts_of}
use Rattle.counter.specs.declared.counts.Counts.{Counts}
use Rattle.counter.specs.Counted.{counted_up}

module _ (b : List ℕ) where
  pub counted-refused : (e : Refusal) → number e ≡ form_number b
      → refused (number e) ≡ unless (form_number b) (accepted (counted_up (book_of b)))
  counted-refused e h = sym (unless-refusal e (accepted (counted_up (book_of b))) h)

  pub counted-up : {n : ℕ} {t : Counts} → form_number b ≡ 0 → n ≡ (book_of b).sizes.n → t ≡ counts_of (book_of b).entries
      → accepted (record { blocks = n; held = t.held; waiting = t.waiting; references = t.references })
      ≡ unless (form_number b) (accepted (counted_up (book_of b)))
  unfolding Sums.blocks counts_of
  counted-up f n t = rw f (λ i. accepted (record { blocks = n i; held = (t i).held; waiting = (t i).waiting; references = (t i).references }))
