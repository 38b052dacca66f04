-- What the calls that tell numbers give on each way out.
use Prim.Native.Nat.{ℕ}
use mathlib.Core.Path.{◌≡◌, sym, ap, ◌∙◌}
use mathlib.Core.List.{List}
use lib.ListN.{length}
use Rattle.std.specs.Prelude.{Ok}
use Rattle.words.proofs.Refused.{unless-refusal}
use Rattle.words.specs.Numbers.{num}
use Rattle.words.specs.Outcome.{refused, accepted}
use Rattle.words.specs.Refusals.{number, outcome_by}
use Rattle.words.specs.declared.refusals.Refusal.{Refusal}
use Rattle.book.specs.Book.{retention_of}
use Rattle.book.specs.Layout.{sizes_of, book_of}
use Rattle.book.specs.Form.{form_number}
use Rattle.book.proofs.FormBytes.{book-form}
use Rattle.book.proofs.SizesIn.{sizes-facts}
use Rattle.model.specs.Journal.{slots_of, backup_count}
use Rattle.model.specs.Views.{enrolled_number, retired_on, used_of, volume_of, sizes_bytes, used_bytes, volume_bytes}
use Rattle.fields.specs.InLayout.{in_layout}
use Rattle.fields.specs.declared.sizes.Sizes as code
use Rattle.figures.specs.Told.{sizes_told, used_told, volume_told}
use Rattle.figures.specs.declared.header.Usage.{Usage}
use Rattle.figures.specs.declared.volume.VolumeFigures.{VolumeFigures}

module _ (b : List ℕ) where
  pub sizes-refused : (e : Refusal) → number e ≡ form_number b → refused (number e) ≡ sizes_bytes b
  unfolding sizes_bytes
  sizes-refused e h = sym (unless-refusal e (accepted (book_of b).sizes) h)

  -- the code needs not look at the layout, which is today's
  pub sizes-given : (z : code.Sizes) → form_number b ≡ 0 → in_layout (num b 0) z ≡ sizes_of b
      → outcome_by sizes_told (Ok z) ≡ sizes_bytes b
  unfolding sizes_bytes book_of
  sizes-given z f e =
      let g = (sizes-facts (book_of b).sizes (book-form b f).0).layout in
      rw f (ap (λ (k : ℕ). accepted (in_layout k z)) (sym g) ∙ ap accepted e)

  pub used-refused : (e : Refusal) → number e ≡ form_number b → refused (number e) ≡ used_bytes b
  unfolding used_bytes
  used-refused e h = sym (unless-refusal e (accepted (used_of (book_of b))) h)

  pub used-given : (u : Usage) → form_number b ≡ 0 → u.slots ≡ length (book_of b).slots → u.records ≡ length (book_of b).records
      → u.day ≡ (book_of b).day
      → outcome_by used_told (Ok u) ≡ used_bytes b
  unfolding used_bytes used_of
  used-given u f s r d = rw f (λ i. accepted (record { slots = s i; records = r i; day = d i }))

  module _ (v : ℕ) where
    pub volume-refused : (e : Refusal) → number e ≡ enrolled_number b v → refused (number e) ≡ volume_bytes b v
    unfolding volume_bytes
    volume-refused e h = sym (unless-refusal e (accepted (volume_of (book_of b) v)) h)

    pub volume-given : (t : VolumeFigures) → enrolled_number b v ≡ 0 → t.retention ≡ retention_of (book_of b) v
        → t.backups ≡ backup_count (book_of b) v
        → t.retired ≡ retired_on (slots_of (book_of b) v)
        → outcome_by volume_told (Ok t) ≡ volume_bytes b v
    unfolding volume_bytes volume_of
    volume-given t p r n d = rw p (λ i. accepted (record { retention = r i; backups = n i; retired = d i }))
