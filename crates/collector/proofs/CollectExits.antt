-- What a collect leaves on each way out.
use Prim.Native.Nat.{ℕ, ◌≤◌, ◌<◌}
use mathlib.Core.Path.{◌≡◌, refl, ap}
use mathlib.Core.Bool.{true}
use mathlib.Core.List.{List, map}
use lib.Dec.{ltb}
use borrow.Author.Tests.{lt-ltb, le-ltb}
use Rattle.std.specs.Prelude.{Ok, Err}
use Rattle.words.specs.Lent.{Lent}
use Rattle.words.proofs.Refused.{unless-refusal}
use Rattle.words.proofs.ChoiceLaws.{or_r}
use Rattle.words.specs.Lists.{count_of}
use Rattle.words.specs.Refusals.{number}
use Rattle.words.specs.declared.refusals.Refusal.{Refusal}
use Rattle.words.specs.declared.refusals.Refusal.TheVariants.{BadDay}
use Rattle.words.specs.Outcome.{refused, accepted, and_then}
use Rattle.book.specs.Layout.{book_of, Is}
use Rattle.book.specs.Form.{form_number}
use Rattle.book.specs.Next.{with_day, with_entries}
use Rattle.book.proofs.Holding.{bytes-is}
use Rattle.model.specs.Days.{bad_day}
use Rattle.model.specs.Collect.{is_over, swept_entry, collect_number, collected, collect}
use Rattle.model.specs.OnBytes.{collected_bytes, collect_bytes}
use Rattle.collector.specs.Promises.{Collects}

module _ (book : Lent (List ℕ)) (t : ℕ) where
  abbrev b : List ℕ
  b = book.entry.now

  module _ (same : book.exit.now ≡ b) where
    left : (e : Refusal) → collect_bytes b t ≡ refused (number e) → Collects book t (Err e)
    left e q = record { book = rw q same; answer = rw q refl }

    pub collect_misformed : (e : Refusal) → number e ≡ form_number b → Collects book t (Err e)
    unfolding collect_bytes
    collect_misformed e q = left e (unless-refusal e (and_then (collect (book_of b) t) (λ d. accepted (collected_bytes d))) q)

    module _ (f : form_number b ≡ 0) where
      refused-day : bad_day (book_of b).day t ≡ true → Collects book t (Err BadDay)
      unfolding collect_bytes collect collect_number
      refused-day e = left BadDay (rw (f, e))

      pub collect-late : 60000 < t → Collects book t (Err BadDay)
      unfolding bad_day
      collect-late h = refused-day (rw (lt-ltb 60000 t h))

      pub collect-early : t < (book_of b).day → Collects book t (Err BadDay)
      unfolding bad_day
      collect-early h = refused-day (or_r (ltb 60000 t) (ltb t (book_of b).day) (lt-ltb t (book_of b).day h))

  pub collect-done : (f : form_number b ≡ 0) {b₁ : List ℕ} {k : ℕ} → t ≤ 60000 → (book_of b).day ≤ t
      → k ≡ count_of (is_over t) (book_of b).entries
      → Is b₁ (with_entries (map (swept_entry t) (book_of b).entries) (book_of b))
      → Is book.exit.now (with_day t (book_of b₁))
      → Collects book t (Ok k)
  unfolding collect_bytes collect collect_number bad_day collected collected_bytes
  collect-done f h l n i j =
      let e = le-ltb 60000 t h in
      let g = le-ltb t (book_of b).day l in
      record { book = rw (f, e, g) (rw i.book at (bytes-is j)); answer = rw (f, e, g) (ap accepted n) }
