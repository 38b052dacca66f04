-- What the converter from layout 2 to 3 writes (document 02, K4): every expiry worked out afresh, every other field equal, in form; and what
-- was sound by the rules of layout 2 is sound by today's.
use Prim.Native.Nat.{ℕ, ◌<◌}
use mathlib.Core.Path.{◌≡◌, ap, refl}
use mathlib.Core.Bool.{true}
use mathlib.Core.List.{List}
use lib.ListN.{get_or}
use Rattle.words.specs.Lists.{all, up_from}
use Rattle.words.specs.Outcome.{accepted}
use Rattle.book.proofs.FormFactLaws.{facts_as}
use Rattle.book.specs.Form.{form_as}
use Rattle.book.specs.FormFacts.{FormFactsAs}
use Rattle.book.specs.Layout.{book_of}
use Rattle.book.specs.Next.{sizes_in, with_layout}
use Rattle.model.specs.Audit.{expiry_sound, audit}
use Rattle.model.specs.AuditTwo.{audit_two}
use Rattle.model.specs.Convert.{refreshed, to_three}
use Rattle.claims.proofs.form.ConvertFit.{layout-expiries, layout-audit, given-form, fields_equal, written-form}
use Rattle.claims.proofs.form.Refreshed.{AllButExpiries, refreshed-others, keeps-refreshed}
use Rattle.claims.proofs.form.SoundStays.{fresh_audited, audit-stays}

module _ (b : List ℕ) (room : ℕ) (c : List ℕ) (small : (i : ℕ) → get_or b i 0 < 256) (e : to_three b room ≡ accepted c) where
  facts : FormFactsAs 2 b
  unfolding to_three
  facts = facts_as 2 b small (given-form 2 3 (λ x. 0) refreshed b room c small e)

  -- "Layout is 3; the converter from 2 works every expiry out afresh from the journal"
  pub three-written : book_of c ≡ with_layout 3 (refreshed (book_of b))
  unfolding to_three
  three-written = fields_equal 2 3 (λ x. 0) refreshed b room c small e keeps-refreshed

  -- it writes a book of layout 3 in form
  pub three-form : form_as 3 c ≡ 0
  unfolding to_three
  three-form = written-form 2 3 (λ x. 0) refreshed b room c small e keeps-refreshed refl

  -- with every other field equal
  pub others_equal : AllButExpiries (with_layout 3 (book_of b)) (book_of c)
  unfolding with_layout
  others_equal =
      let o = refreshed-others (book_of b) facts.holds.sized in
      rw three-written (record {
        sizes = ap (sizes_in 3) o.sizes;
        day = o.day;
        cursor = o.cursor;
        retentions = o.retentions;
        maps = o.maps;
        slots = o.slots;
        records = o.records;
        entry_count = o.entry_count;
        counts = o.counts;
        states = o.states;
        prints = o.prints;
      })

  -- and every expiry as audit asks for it
  pub expiries_audited : all (expiry_sound (book_of c)) (up_from 0 (book_of c).sizes.n) ≡ true
  expiries_audited = rw (three-written, layout-expiries 3 (refreshed (book_of b))) (fresh_audited (book_of b))

  -- what was sound by the rules of layout 2 is sound
  pub sound-stays : audit_two (book_of b) ≡ true → audit (book_of c) ≡ true
  sound-stays h =
      rw (three-written, layout-audit 3 (refreshed (book_of b)))
      (audit-stays (book_of b) facts.holds.sized facts.parts.days h)
