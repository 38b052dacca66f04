-- What a converter writes: every field equal, in form, audited alike, and there and back the very bytes (document 02, K3).
use Prim.Native.Nat.{ℕ, ◌≤◌, ◌<◌}
use mathlib.Core.Path.{◌≡◌, refl, sym, ap, ◌∙◌}
use mathlib.Core.Bool.{true, ◌&&◌, not, ◌||◌, Bool, false}
use mathlib.Core.List.{List}
use native.Mathlib.Omega.{arith}
use lib.Dec.{leb, eqb}
use lib.ListN.{length, get_or}
use borrow.Author.Tests.{le-leb, le-ltb}
use Rattle.words.proofs.Accepted.{unless-accepted, accepted-same}
use Rattle.words.proofs.Each.{tab-each, at_each}
use Rattle.words.specs.Lists.{all, up_from}
use Rattle.words.specs.Numbers.{num}
use Rattle.words.specs.Outcome.{accepted, unless}
use Rattle.book.specs.Book.{Sizes, Book, Sized, entry_at}
use Rattle.book.specs.Layout.{n_offset, book_size, bytes, sizes_of, count_in, entry_offset, entry_of, book_of}
use Rattle.book.specs.Form.{sizes_as, slot_ok, rec_ok, book_ok, form_as, enrolled}
use Rattle.book.specs.FormFacts.{FormFactsAs}
use Rattle.book.specs.Next.{sizes_in, with_layout}
use Rattle.book.proofs.Clauses.{parts-book, book-parts}
use Rattle.book.proofs.FormBytes.{book_as, bytes_as}
use Rattle.book.proofs.FormFactLaws.{facts_as}
use Rattle.book.proofs.Laws.{book-bytes}
use Rattle.book.proofs.SizesIn.{sizes_as_lem, sizes_in_lem}
use Rattle.model.specs.Audit.{maps_sound, no_maps, count_sound, expiry_sound, prints_sound, cell_sound, current_sound, backup_sound}
use Rattle.model.specs.Audit.{backups_sound, audit}
use Rattle.model.specs.Journal.{journal, slots_of, days, backup_count}
use Rattle.model.specs.Read.{image}
use Rattle.claims.proofs.kept.JournalLaws.{until_in-book}
use Rattle.model.specs.Convert.{room_number, converted, is_narrow, narrow_number, to_two, to_one}
use Rattle.words.proofs.ChoiceLaws.{and_true, true_and, not_both}
use Rattle.words.proofs.Places.{all_weaker}

-- ---- a book with another layout number

module _ (g : ℕ) (x : Book) where
  pub layout-sized : Sized x → Sized (with_layout g x)
  unfolding with_layout
  layout-sized s =
      record {
        retentions = s.retentions;
        entries = s.entries;
        prints = s.prints;
        maps = s.maps;
        cells = s.cells;
        slots = s.slots;
        records = s.records;
      }

  -- slots retire from layout 3 on; no other condition of form looks at the layout number
  pub layout-ok : (not (leb 3 x.sizes.layout) || leb 3 g) ≡ true → book_ok x ≡ true → book_ok (with_layout g x) ≡ true
  unfolding with_layout rec_ok slot_ok
  layout-ok up e =
      let p = book-parts x e in
      parts-book (with_layout g x) (record {
        day = p.day;
        cursor = p.cursor;
        retentions = p.retentions;
        entries = p.entries;
        maps = p.maps;
        slots = all_weaker (slot_ok x) (slot_ok (with_layout g x)) x.slots (λ t k. may_retire (enrolled x t.volume && leb t.day x.day) t.retire (leb 3 x.sizes.layout) (leb 3 g) up k) p.slots;
        days = p.days;
        pairs = p.pairs;
        records = p.records;
        afters = p.afters;
      })
    where
      may_retire : (a r old new : Bool) → (not old || new) ≡ true → (a && (old || not r)) ≡ true → (a && (new || not r)) ≡ true
      may_retire a r old true u k = true_and a true (and_true a (old || not r) k).0 refl
      may_retire a r false false u k = k
      may_retire a r true false u k = absurd (not_both false u refl)

  -- nor does audit
  pub layout-expiries : all (expiry_sound (with_layout g x)) (up_from 0 (with_layout g x).sizes.n) ≡ all (expiry_sound x) (up_from 0 x.sizes.n)
  unfolding with_layout expiry_sound journal
  layout-expiries = λ i.
      all (λ p. eqb (entry_at x.entries p).expiry (until_in-book x (with_layout g x) p (journal x) refl i)) (up_from 0 x.sizes.n)

  pub layout-audit : audit (with_layout g x) ≡ audit x
  unfolding
      with_layout audit maps_sound no_maps count_sound prints_sound cell_sound current_sound backup_sound backups_sound journal slots_of backup_count days image
  layout-audit = λ i.
      maps_sound x
      && all (count_sound x) (up_from 0 x.sizes.n)
      && layout-expiries i
      && prints_sound x
      && current_sound x
      && backups_sound x

  -- and back
  pub layout-back : with_layout x.sizes.layout (with_layout g x) ≡ x
  unfolding with_layout
  layout-back = refl

pub layout-sizes : (from to : ℕ) (z : Sizes) → sizes_as from z ≡ true → sizes_as to (sizes_in to z) ≡ true
layout-sizes from to z e =
    let i = sizes_as_lem from z e in
    sizes_in_lem to (sizes_in to z)
    (record { layout = refl; n₀ = i.n₀; n = i.n; l₀ = i.l₀; l = i.l; s₀ = i.s₀; s = i.s; j₀ = i.j₀; j = i.j })

-- ---- an accepted conversion

-- what is made of a book stays well sized and in form, with the same sizes
unfoldable pub Keeps : (Book → Book) → Type 0
Keeps f = (x : Book) → Sized x → book_ok x ≡ true → Sized (f x) × ((f x).sizes ≡ x.sizes) × (book_ok (f x) ≡ true)

pub keeps_same : Keeps (λ x. x)
unfolding Keeps
keeps_same x s e = (s, refl, e)

module _ (from to : ℕ) (number : Book → ℕ) (f : Book → Book) (b : List ℕ) (room : ℕ) (c : List ℕ)
    (small : (i : ℕ) → get_or b i 0 < 256) (e : converted from to number f b room ≡ accepted c) where
  pub given-form : form_as from b ≡ 0
  unfolding converted
  given-form =
      (unless-accepted (form_as from b)
      (unless (room_number to b room) (unless (number (book_of b)) (accepted (bytes (with_layout to (f (book_of b))))))) c e
      ).0

  pub written-bytes : c ≡ bytes (with_layout to (f (book_of b)))
  unfolding converted
  written-bytes =
      let o = accepted (bytes (with_layout to (f (book_of b)))) in
      let p = unless-accepted (form_as from b) (unless (room_number to b room) (unless (number (book_of b)) o)) c e in
      let q = unless-accepted (room_number to b room) (unless (number (book_of b)) o) c p.1 in
      sym (accepted-same (bytes (with_layout to (f (book_of b)))) c (unless-accepted (number (book_of b)) o c q.1).1)

  facts : FormFactsAs from b
  facts = facts_as from b small given-form

  module _ (k : Keeps f) where
    made : Sized (f (book_of b)) × ((f (book_of b)).sizes ≡ (book_of b).sizes) × (book_ok (f (book_of b)) ≡ true)
    unfolding Keeps
    made = k (book_of b) facts.holds.sized (parts-book (book_of b) facts.parts)

    -- "with every field equal"
    pub fields_equal : book_of c ≡ with_layout to (f (book_of b))
    fields_equal = rw written-bytes (book-bytes (with_layout to (f (book_of b))) (layout-sized to (f (book_of b)) made.0))

    -- it writes a book of its layout in form, unless it goes back from one whose slots may retire
    pub written-form : (not (leb 3 from) || leb 3 to) ≡ true → form_as to c ≡ 0
    unfolding with_layout
    written-form up =
        let y = with_layout to (f (book_of b)) in
        let z : sizes_as to y.sizes ≡ true =
        rw made.1 (layout-sizes from to (book_of b).sizes (book_as from b given-form).0)
        in
        let g : (f (book_of b)).sizes.layout ≡ from = ap (λ z. z.layout) made.1 ∙ facts.layout in
        rw written-bytes (bytes_as to y (layout-sized to (f (book_of b)) made.0) z (layout-ok to (f (book_of b)) (rw g up) made.2))

-- ---- there and back

room_enough : (to : ℕ) (b : List ℕ) (room n : ℕ) → book_size (sizes_in to (sizes_of b)) ≡ n → n ≤ room → room_number to b room ≡ 0
unfolding room_number
room_enough to b room n e h = rw (e, le-ltb room n h)

-- a conversion that changes no field is undone by the one back, where that one asks for nothing that the book lacks
module _ (from to : ℕ) (there back : Book → ℕ) (b : List ℕ) (room : ℕ) (c : List ℕ) (small : (i : ℕ) → get_or b i 0 < 256)
    (e : converted from to there (λ x. x) b room ≡ accepted c) where
  known : FormFactsAs from b
  known = facts_as from b small (given-form from to there (λ x. x) b room c small e)

  same-book : with_layout from (book_of c) ≡ book_of b
  same-book =
      ap (λ (y : Book). with_layout from y) (fields_equal from to there (λ x. x) b room c small e keeps_same)
      ∙ ap (λ (g : ℕ). with_layout g (with_layout to (book_of b))) (sym known.layout)
      ∙ layout-back to (book_of b)

  -- audit says of the book that was written what it says of the one that was given
  pub same-audit : audit (book_of c) ≡ audit (book_of b)
  same-audit = rw (fields_equal from to there (λ x. x) b room c small e keeps_same) (layout-audit to (book_of b))

  same_size : book_size (sizes_in from (sizes_of c)) ≡ length b
  unfolding book_of with_layout
  same_size = ap (λ (y : Book). book_size y.sizes) same-book ∙ sym known.holds.len

  pub very_bytes : (not (leb 3 from) || leb 3 to) ≡ true → (room' : ℕ) → length b ≤ room' → back (with_layout to (book_of b)) ≡ 0
      → converted to from back (λ x. x) c room' ≡ accepted b
  unfolding converted
  very_bytes up room' h z =
      rw (
        written-form from to there (λ x. x) b room c small e keeps_same up,
        room_enough from c room' (length b) same_size h,
        fields_equal from to there (λ x. x) b room c small e keeps_same,
        z,
      )
      (ap (λ (r : List ℕ). accepted r)
      (ap bytes (ap (λ (y : Book). with_layout from y) (sym (fields_equal from to there (λ x. x) b room c small e keeps_same)) ∙ same-book)
      ∙ sym known.holds.same))

-- the counts of layout 1 are bytes
pub counts-narrow : (b : List ℕ) → ((i : ℕ) → get_or b i 0 < 256) → form_as 1 b ≡ 0 → all is_narrow (book_of b).entries ≡ true
unfolding book_of
counts-narrow b small e =
    let one : num b 0 ≡ 1 = (sizes_as_lem 1 (sizes_of b) (book_as 1 b e).0).layout in
    tab-each is_narrow (num b n_offset) (entry_of b)
    ∙ at_each (λ p. is_narrow (entry_of b p)) 0 (num b n_offset)
    (λ p lo hi. le-leb (entry_of b p).count 255 (omega (arith, count p one, small (entry_offset (num b 0) p))))
  where
    count : (p : ℕ) → num b 0 ≡ 1 → (entry_of b p).count ≡ get_or b (entry_offset (num b 0) p) 0
    count p one = ap (λ (g : ℕ). count_in g b (entry_offset (num b 0) p)) one

-- layout 1 to 2 and back, for every book that is taken
pub there_and_back : (b : List ℕ) (room room' : ℕ) (c : List ℕ) → ((i : ℕ) → get_or b i 0 < 256) → to_two b room ≡ accepted c
    → length b ≤ room' → to_one c room' ≡ accepted b
unfolding to_two to_one narrow_number with_layout
there_and_back b room room' c small e h =
    very_bytes 1 2 (λ x. 0) narrow_number b room c small e refl room' h
    (rw (counts-narrow b small (given-form 1 2 (λ x. 0) (λ x. x) b room c small e)))

-- and layout 2 to 1 and back, where it goes back
pub back-and-there : (b : List ℕ) (room room' : ℕ) (c : List ℕ) → ((i : ℕ) → get_or b i 0 < 256) → to_one b room ≡ accepted c
    → length b ≤ room' → to_two c room' ≡ accepted b
unfolding to_two to_one
back-and-there b room room' c small e h = very_bytes 2 1 narrow_number (λ x. 0) b room c small e refl room' h refl
