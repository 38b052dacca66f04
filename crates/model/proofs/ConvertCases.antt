-- The converters between layouts 1 and 2 on the smallest book, of one block, one LBN, one slot and one record; that to layout 3 on one where a
-- block was replaced. Here, and not in `cases`, so that a wrong definition is refused by what it gives.
use Prim.Native.Nat.{ℕ}
use mathlib.Core.Path.{◌≡◌, refl}
use mathlib.Core.Bool.{true, false}
use mathlib.Core.List.{List, [], ◌∷◌, map}
use lib.ListN.{length, replicate}
use Rattle.words.specs.Blocks.{unmapped}
use Rattle.words.specs.Lists.{joined}
use Rattle.words.specs.Numbers.{two}
use Rattle.words.specs.Outcome.{refused, accepted}
use Rattle.book.specs.Book.{Entry, Book, no_print, free_entry, no_slot, no_rec}
use Rattle.book.specs.Form.{between, sizes_as, layout_as, retention_ok, entry_ok, pbn_ok, rec_ok, after_ok, slot_ok, later_ok, book_ok, state_ok, second_ok}
use Rattle.book.specs.Form.{raw_ok, form_as}
use Rattle.book.specs.Layout.{entry_size, bytes, book_of}
use Rattle.book.specs.Next.{with_day, with_entries, with_layout, expiry_as, made_free, with_entry}
use Rattle.model.specs.Audit.{maps_sound, no_maps, count_sound, expiry_sound, prints_sound, cell_sound, current_sound, backup_sound}
use Rattle.model.specs.Audit.{backups_sound, audit}
use Rattle.model.specs.AuditTwo.{kept_two, expiry_two, backup_two, backups_two, audit_two}
use Rattle.model.specs.Convert.{room_number, converted, narrow_number, to_two, to_one, refreshed_entry, refreshed, to_three}
use Rattle.model.specs.Days.{kept}
use Rattle.model.specs.Journal.{journal, slots_of, backup_count, days}
use Rattle.model.specs.Read.{image}

-- a book whose layout number, count and state have these bytes: day 5, volume 0 keeps 9 days, the block expires on 258
abbrev laid : List ℕ → List ℕ → ℕ → List ℕ
laid layout count state =
    joined
    (layout
    ∷ (1 ∷ 0 ∷ 1 ∷ 0 ∷ 1 ∷ 0 ∷ 1 ∷ 0 ∷ 1 ∷ 0 ∷ 1 ∷ 0 ∷ 5 ∷ 0 ∷ 0 ∷ 0 ∷ 0 ∷ 0 ∷ [])
    ∷ (9 ∷ 0 ∷ [])
    ∷ replicate 14 0
    ∷ count
    ∷ (state ∷ 2 ∷ 1 ∷ [])
    ∷ (1 ∷ 2 ∷ 3 ∷ 4 ∷ 5 ∷ 6 ∷ 7 ∷ 8 ∷ 9 ∷ 10 ∷ 11 ∷ 12 ∷ 13 ∷ 14 ∷ 15 ∷ 16 ∷ [])
    ∷ (0 ∷ 0 ∷ [])
    ∷ replicate 14 255
    ∷ (0 ∷ 0 ∷ 5 ∷ 0 ∷ 0 ∷ 0 ∷ 1 ∷ 0 ∷ [])
    ∷ (0 ∷ 0 ∷ 255 ∷ 255 ∷ 0 ∷ 0 ∷ [])
    ∷ [])

unfoldable pub narrow : ℕ → List ℕ
narrow c = laid (1 ∷ 0 ∷ []) (c ∷ []) 1

unfoldable pub wide : ℕ → ℕ → List ℕ
wide low high = laid (2 ∷ 0 ∷ []) (low ∷ high ∷ []) 1

unfoldable pub damaged : List ℕ
damaged = laid (1 ∷ 0 ∷ []) (3 ∷ []) 2

pub record Converts : Type 0 where
  -- "a layout 1 book and writes a layout 2 book with every field equal"
  pub there : map (λ c. to_two (narrow c) 87) (0 ∷ 3 ∷ 255 ∷ [])
      ≡ accepted (wide 0 0) ∷ accepted (wide 3 0) ∷ accepted (wide 255 0) ∷ []
  pub back : map (λ c. to_one (wide c 0) 86) (0 ∷ 3 ∷ 255 ∷ [])
      ≡ accepted (narrow 0) ∷ accepted (narrow 3) ∷ accepted (narrow 255) ∷ []
  -- 22: at 256 and above
  pub above : map (λ h. to_one (wide 0 h) 86) (1 ∷ 2 ∷ 255 ∷ []) ≡ refused 22 ∷ refused 22 ∷ refused 22 ∷ []
  -- each takes its own layout, and form is that of the layout asked for
  pub layouts : to_two (wide 3 0) 999 ∷ to_one (narrow 3) 999 ∷ [] ≡ refused 1 ∷ refused 1 ∷ []
  pub forms : form_as 1 (narrow 3) ∷ form_as 2 (narrow 3) ∷ form_as 1 (wide 3 0) ∷ form_as 2 (wide 3 0) ∷ [] ≡ 0 ∷ 1 ∷ 1 ∷ 0 ∷ []
  -- 2, and 4 after it; 4 before 22
  pub form : to_two damaged 0 ≡ refused 2
  pub room : to_two (narrow 3) 86 ∷ to_one (wide 3 0) 85 ∷ to_one (wide 0 1) 85 ∷ [] ≡ refused 4 ∷ refused 4 ∷ refused 4 ∷ []
  pub more : to_two (narrow 3) 88 ≡ accepted (wide 3 0)
  pub lengths : length (narrow 3) ∷ length (wide 3 0) ∷ [] ≡ 86 ∷ 87 ∷ []

pub converts : Converts
unfolding
    narrow wide damaged to_two to_one converted room_number narrow_number with_layout no_print free_entry no_slot no_rec entry_size bytes book_of
    between sizes_as layout_as retention_ok entry_ok pbn_ok rec_ok after_ok slot_ok later_ok book_ok state_ok second_ok raw_ok form_as
converts = record {
  there = refl;
  back = refl;
  above = refl;
  layouts = refl;
  forms = refl;
  form = refl;
  room = refl;
  more = refl;
  lengths = refl;
}

-- ---- from layout 2 to 3

-- a book of this layout: volume 0 keeps 9 days, has block 0 on day 5 and block 1 in its place on day 7. `before` is what the first backup
-- replaced, and the blocks have these expiries
unfoldable pub replaced : ℕ → ℕ → ℕ → ℕ → List ℕ
replaced layout before e₀ e₁ =
    joined
    (joined (map two (layout ∷ 2 ∷ 1 ∷ 2 ∷ 2 ∷ 2 ∷ 2 ∷ 7 ∷ 0 ∷ 0 ∷ []))
    ∷ two 9
    ∷ replicate 14 0
    ∷ (0 ∷ 0 ∷ 1 ∷ [])
    ∷ two e₀
    ∷ replicate 16 8
    ∷ (1 ∷ 0 ∷ 1 ∷ [])
    ∷ two e₁
    ∷ replicate 16 9
    ∷ two 1
    ∷ replicate 14 255
    ∷ joined (map two (0 ∷ 5 ∷ 0 ∷ 1 ∷ []))
    ∷ joined (map two (0 ∷ 7 ∷ 1 ∷ 1 ∷ []))
    ∷ joined (map two (0 ∷ before ∷ 0 ∷ []))
    ∷ joined (map two (0 ∷ 0 ∷ 1 ∷ []))
    ∷ [])

-- .. as a book in which block 0 is free again on day d
abbrev freed : ℕ → ℕ → Book
freed e d = with_day d (with_entry made_free 0 (book_of (replaced 2 unmapped e 0)))

abbrev expiries : Book → List ℕ
expiries x = map (λ (e : Entry). e.expiry) x.entries

pub record Renews : Type 0 where
  -- "works every expiry out afresh from the journal", whatever it was: what was replaced on day 7 is kept 9 days from day 5
  pub afresh : map (λ e. expiries (refreshed (book_of (replaced 2 unmapped e 300)))) (16 ∷ 0 ∷ 65000 ∷ [])
      ≡ (14 ∷ 0 ∷ []) ∷ (14 ∷ 0 ∷ []) ∷ (14 ∷ 0 ∷ []) ∷ []
  -- "or 0 where a damaged book has none": the first backup has a before
  pub none : expiries (refreshed (book_of (replaced 2 1 16 0))) ≡ 14 ∷ 9 ∷ []
  -- all else is equal
  pub written : to_three (replaced 2 unmapped 16 300) 122 ∷ to_three (replaced 2 1 16 0) 122 ∷ []
      ≡ accepted (replaced 3 unmapped 14 0) ∷ accepted (replaced 3 1 14 9) ∷ []
  -- it takes layout 2 alone; 2, and 4 after it
  pub layouts : to_three (narrow 3) 999 ∷ to_three (replaced 1 unmapped 14 0) 999 ∷ to_three (replaced 3 unmapped 14 0) 999 ∷ []
      ≡ refused 1 ∷ refused 1 ∷ refused 1 ∷ []
  pub form : to_three (replaced 2 unmapped 65001 0) 0 ≡ refused 2
  pub room : to_three (replaced 2 unmapped 14 0) 121 ≡ refused 4
  pub more : to_three (replaced 2 unmapped 14 0) 123 ≡ accepted (replaced 3 unmapped 14 0)
  -- sound by the rules of layout 2, and by today's: the expiry, and the first day on which block 0 may be free
  pub was : map (λ e. audit_two (book_of (replaced 2 unmapped e 0))) (14 ∷ 16 ∷ []) ≡ false ∷ true ∷ []
  pub is : map (λ e. audit (book_of (replaced 3 unmapped e 0))) (14 ∷ 16 ∷ []) ≡ true ∷ false ∷ []
  pub freed_two : map (λ d. audit_two (freed 16 d)) (16 ∷ 17 ∷ []) ≡ false ∷ true ∷ []
  pub freed_now : map (λ d. audit (freed 14 d)) (14 ∷ 15 ∷ []) ≡ false ∷ true ∷ []
  -- the others don't take layout 3
  pub others : to_two (replaced 3 unmapped 14 0) 999 ∷ to_one (replaced 3 unmapped 14 0) 999 ∷ [] ≡ refused 1 ∷ refused 1 ∷ []

pub renews : Renews
unfolding
    narrow replaced to_two to_one to_three converted room_number narrow_number refreshed_entry refreshed with_layout with_entries expiry_as journal
    no_print free_entry no_slot no_rec entry_size bytes book_of between sizes_as layout_as retention_ok entry_ok pbn_ok rec_ok after_ok slot_ok later_ok book_ok
    state_ok second_ok raw_ok form_as
    with_day made_free audit_two kept_two expiry_two backup_two backups_two audit maps_sound no_maps count_sound expiry_sound prints_sound cell_sound
    current_sound backup_sound backups_sound kept slots_of backup_count days image
renews = record {
  afresh = refl;
  none = refl;
  written = refl;
  layouts = refl;
  form = refl;
  room = refl;
  more = refl;
  was = refl;
  is = refl;
  freed_two = refl;
  freed_now = refl;
  others = refl;
}
