-- The page of the book after case d of document 01, large pages, and pages that refuse.
use Prim.Native.Nat.{ℕ, ◌*◌, ◌<◌}
use mathlib.Core.Path.{◌≡◌, refl, sym}
use mathlib.Core.List.{List, [], ◌∷◌, ◌++◌}
use native.Mathlib.Omega.{arith}
use lib.ListN.{length}
use Rattle.words.specs.Lists.{joined}
use Rattle.book.specs.Book.{no_print, free_entry, no_slot, no_rec}
use Rattle.book.specs.Layout.{entry_size, book_size, bytes, book_of}
use Rattle.book.specs.Form.{between, sizes_as, layout_as, retention_ok, entry_ok, pbn_ok, rec_ok, after_ok, slot_ok, later_ok, book_ok, state_ok, second_ok}
use Rattle.book.specs.Form.{raw_ok, form_as}
use Rattle.book.specs.Next.{new_sizes, with_day}
use Rattle.book.proofs.AfterD.{after_d}
use Rattle.pages.specs.Tally.{tally_number, digits, decimal, line, blocks_word, held_word, free_word, waiting_word, references_word}
use Rattle.pages.specs.Tally.{refused_word}
use Rattle.pages.specs.Tally.{book_page, tally_page}
use Rattle.counter.specs.Sums.{blocks, held, free, waiting, references}
use Rattle.counter.specs.declared.counts.Counts.{Counts}
use Rattle.pages.specs.Pages.{counts_page}
use Rattle.pages.proofs.Decimal.{decimal-few}
use Rattle.pages.proofs.PageLaws.{long-number, refused_page}

-- "blocks 4", "held 3", "free 1", "waiting 1", "references 3", each with a newline
unfoldable pub page_after_d : List ℕ
page_after_d =
    joined
    ((98 ∷ 108 ∷ 111 ∷ 99 ∷ 107 ∷ 115 ∷ 32 ∷ 52 ∷ 10 ∷ [])
    ∷ (104 ∷ 101 ∷ 108 ∷ 100 ∷ 32 ∷ 51 ∷ 10 ∷ [])
    ∷ (102 ∷ 114 ∷ 101 ∷ 101 ∷ 32 ∷ 49 ∷ 10 ∷ [])
    ∷ (119 ∷ 97 ∷ 105 ∷ 116 ∷ 105 ∷ 110 ∷ 103 ∷ 32 ∷ 49 ∷ 10 ∷ [])
    ∷ (114 ∷ 101 ∷ 102 ∷ 101 ∷ 114 ∷ 101 ∷ 110 ∷ 99 ∷ 101 ∷ 115 ∷ 32 ∷ 51 ∷ 10 ∷ [])
    ∷ [])

-- opens all that the cases compute with
unfoldable opened : ℕ
unfolding
    no_print free_entry no_slot no_rec entry_size bytes book_of between sizes_as layout_as retention_ok entry_ok pbn_ok rec_ok after_ok slot_ok later_ok
    book_ok state_ok second_ok raw_ok
    form_as with_day tally_number blocks held free waiting references decimal line book_page tally_page after_d page_after_d
opened = 0

page : tally_page after_d ≡ page_after_d
unfolding opened
page = refl

-- ---- a book of 65,536 bytes has room for 3,117 entries: 36 + 21N + 16 + 8 + 6

-- "blocks 3117", "held 3117", "free 0", "waiting 0", "references 204272595": every count is 65,535
unfoldable pub most_references : List ℕ
most_references =
    joined
    ((98 ∷ 108 ∷ 111 ∷ 99 ∷ 107 ∷ 115 ∷ 32 ∷ 51 ∷ 49 ∷ 49 ∷ 55 ∷ 10 ∷ [])
    ∷ (104 ∷ 101 ∷ 108 ∷ 100 ∷ 32 ∷ 51 ∷ 49 ∷ 49 ∷ 55 ∷ 10 ∷ [])
    ∷ (102 ∷ 114 ∷ 101 ∷ 101 ∷ 32 ∷ 48 ∷ 10 ∷ [])
    ∷ (119 ∷ 97 ∷ 105 ∷ 116 ∷ 105 ∷ 110 ∷ 103 ∷ 32 ∷ 48 ∷ 10 ∷ [])
    ∷ (114 ∷ 101 ∷ 102 ∷ 101 ∷ 114 ∷ 101 ∷ 110 ∷ 99 ∷ 101 ∷ 115 ∷ 32 ∷ 50 ∷ 48 ∷ 52 ∷ 50 ∷ 55 ∷ 50 ∷ 53 ∷ 57 ∷ 53 ∷ 10 ∷ [])
    ∷ [])

-- "blocks 3117", "held 2526", "free 591", "waiting 1000", "references 100006410": 1,526 counts are 65,535
unfoldable pub longest_page : List ℕ
longest_page =
    joined
    ((98 ∷ 108 ∷ 111 ∷ 99 ∷ 107 ∷ 115 ∷ 32 ∷ 51 ∷ 49 ∷ 49 ∷ 55 ∷ 10 ∷ [])
    ∷ (104 ∷ 101 ∷ 108 ∷ 100 ∷ 32 ∷ 50 ∷ 53 ∷ 50 ∷ 54 ∷ 10 ∷ [])
    ∷ (102 ∷ 114 ∷ 101 ∷ 101 ∷ 32 ∷ 53 ∷ 57 ∷ 49 ∷ 10 ∷ [])
    ∷ (119 ∷ 97 ∷ 105 ∷ 116 ∷ 105 ∷ 110 ∷ 103 ∷ 32 ∷ 49 ∷ 48 ∷ 48 ∷ 48 ∷ 10 ∷ [])
    ∷ (114 ∷ 101 ∷ 102 ∷ 101 ∷ 114 ∷ 101 ∷ 110 ∷ 99 ∷ 101 ∷ 115 ∷ 32 ∷ 49 ∷ 48 ∷ 48 ∷ 48 ∷ 48 ∷ 54 ∷ 52 ∷ 49 ∷ 48 ∷ 10 ∷ [])
    ∷ [])

-- references of at most nine digits, which are computed without counting to them
page_few : (n : ℕ) (t : Counts) → t.references < 1000000000
    → counts_page n t
    ≡ joined
    (line blocks_word n
    ∷ line held_word t.held
    ∷ line free_word t.free
    ∷ line waiting_word t.waiting
    ∷ (references_word ++ (32 ∷ (digits 9 t.references ++ 10 ∷ [])))
    ∷ [])
unfolding counts_page line
page_few n t h = rw (decimal-few 8 t.references h)

pub record Large : Type 0 where
  pub entries : book_size (new_sizes 3117 1 1 1) ≡ 65523
  pub most : counts_page 3117 (record { held = 3117; free = 0; waiting = 0; references = 3117 * 65535 }) ≡ most_references
  pub long : counts_page 3117 (record { held = 2526; free = 591; waiting = 1000; references = 1526 * 65535 }) ≡ longest_page
  pub bytes : length longest_page ≡ 65

large : Large
unfolding opened most_references longest_page
large =
    record {
      entries = refl;
      most = page_few 3117 (record { held = 3117; free = 0; waiting = 0; references = 3117 * 65535 }) (omega arith);
      long = page_few 3117 (record { held = 2526; free = 591; waiting = 1000; references = 1526 * 65535 }) (omega arith);
      bytes = refl;
    }

-- ---- "refused 1", "refused 2"

no_book : tally_page [] ≡ refused_word ++ (32 ∷ 49 ∷ 10 ∷ [])
unfolding opened
no_book = refl

out_of_form : tally_page (bytes (with_day 60001 (book_of after_d))) ≡ refused_word ++ (32 ∷ 50 ∷ 10 ∷ [])
unfolding opened
out_of_form = refl

-- "also for longer input"
longer : (b : List ℕ) → 65536 < length b → tally_page b ≡ refused_word ++ (32 ∷ 49 ∷ 10 ∷ [])
unfolding line decimal
longer b h = sym (refused_page b (sym (long-number b h)) (λ z. omega arith))
