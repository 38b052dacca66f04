-- The ways out of telling a volume's backups.
use Prim.Native.Nat.{ℕ, ◌≤◌, ◌<◌}
use mathlib.Core.Path.{◌≡◌, ap}
use mathlib.Core.List.{List}
use lib.ListN.{length}
use lib.Seq.{sets}
use Rattle.std.specs.Prelude.{Ok, Err}
use Rattle.words.specs.Lent.{Lent}
use borrow.Author.Tests.{lt-ltb, le-ltb}
use Rattle.words.proofs.Refused.{unless-refusal, number-not_zero}
use Rattle.words.specs.Outcome.{accepted}
use Rattle.words.specs.Refusals.{number}
use Rattle.words.specs.declared.refusals.Refusal.{Refusal}
use Rattle.words.specs.declared.refusals.Refusal.TheVariants.{ShortOutput}
use Rattle.book.specs.Layout.{book_of}
use Rattle.model.specs.Journal.{backup_count}
use Rattle.model.specs.Views.{enrolled_number, output_number, backups_of, with_room, backups_bytes}
use Rattle.claims.proofs.views.WrittenLaws.{written-refused, written-short, written-whole}
use Rattle.calendar.specs.Promises.{BackupsGiven}

module _ (book : Lent (List ℕ)) (v : ℕ) (out : Lent (List ℕ)) where
  abbrev b : List ℕ
  b = book.entry.now

  abbrev rows : List ℕ
  rows = backups_of (book_of b) v

  abbrev room : ℕ
  room = length out.entry.now

  module _ (same : out.exit.now ≡ out.entry.now) where
    pub told-refused : (e : Refusal) → number e ≡ enrolled_number b v → BackupsGiven book v out (Err e)
    unfolding backups_bytes
    told-refused e h = record {
      written = rw same (written-refused (enrolled_number b v) (with_room rows room) out.entry.now h (number-not_zero e));
      count = rw (unless-refusal e (with_room rows room) h);
    }

    pub told-short : enrolled_number b v ≡ 0 → room < length rows → BackupsGiven book v out (Err ShortOutput)
    unfolding backups_bytes with_room output_number
    told-short e h = record {
      written = rw (e, same) (written-short rows out.entry.now h);
      count = rw (e, lt-ltb room (length rows) h);
    }

  pub told-whole : {n : ℕ} → enrolled_number b v ≡ 0 → length rows ≤ room → out.exit.now ≡ sets out.entry.now 0 rows
      → n ≡ backup_count (book_of b) v
      → BackupsGiven book v out (Ok n)
  unfolding backups_bytes with_room output_number
  told-whole e h s c = record {
    written = rw e (written-whole rows out.entry.now h s);
    count = rw (e, le-ltb room (length rows) h) (ap (λ (k : ℕ). accepted k) c);
  }
