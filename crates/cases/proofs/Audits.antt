-- Audit says no when one of its conditions alone fails: the book after case d, each time with one thing broken, still in form.
use Prim.Native.Nat.{ℕ}
use mathlib.Core.Path.{◌≡◌, refl}
use mathlib.Core.Bool.{true, false}
use mathlib.Core.List.{List, [], ◌∷◌, map}
use lib.ListN.{set, replicate}
use Rattle.words.specs.Outcome.{accepted}
use Rattle.book.specs.Book.{Rec, Book}
use Rattle.book.specs.Layout.{bytes, book_of}
use Rattle.book.specs.Next.{with_entry, with_cell, count_as, expiry_as, held_as, made_free}
use Rattle.model.specs.OnBytes.{audit_bytes}
use Rattle.cases.proofs.Open.{model}
use Rattle.cases.proofs.Letters.{B, print_of}
use Rattle.book.proofs.AfterD.{after_d}

unfoldable pub good : Book
good = book_of after_d

unfoldable pub with_record_at : ℕ → Rec → Book → Book
with_record_at i r x = record {
  sizes = x.sizes;
  day = x.day;
  cursor = x.cursor;
  retentions = x.retentions;
  entries = x.entries;
  maps = x.maps;
  slots = x.slots;
  records = set x.records i r;
}

-- blocks 1 and 2 in each other's cell, so that the counts still fit: "the maps are the records replayed"
unfoldable pub other_map : Book
other_map = with_cell 0 0 1 (with_cell 0 1 2 good)

-- record 0, of volume 0's first backup, says that it replaced block 3, which then expires on day 0 + 10: "each before being the cell that it replaces"
unfoldable pub other_before : Book
other_before = with_entry (expiry_as 10) 3 (with_record_at 0 (record { lbn = 0; before = 3; after = 0 }) good)

-- "each count is the number of map cells naming the block"
unfoldable pub other_count : Book
other_count = with_entry (count_as 3) 1 good

-- "each expiry is the largest .. over records with that before, 0 if none", of the days before the slots': block 0 has 15, not the 18 of the slot's own
-- day, nor the 9 of the last record
unfoldable pub other_expiry : Book
other_expiry = with_entry (expiry_as 18) 0 good

unfoldable pub last_expiry : Book
last_expiry = with_entry (expiry_as 9) 0 good

unfoldable pub some_expiry : Book
some_expiry = with_entry (expiry_as 1) 3 good

-- "held fingerprints differ"
unfoldable pub same_print : Book
same_print = with_entry (held_as (print_of B)) 0 good

-- "no kept backup names a free block": block 0 is in volume 0's backup 1, which is kept
unfoldable pub free_named : Book
free_named = with_entry made_free 0 good

unfoldable pub broken : List Book
broken = other_map ∷ other_before ∷ other_count ∷ other_expiry ∷ last_expiry ∷ some_expiry ∷ same_print ∷ free_named ∷ []

pub record Audits : Type 0 where
  pub yes : audit_bytes (bytes good) ≡ accepted true
  pub no : map (λ x. audit_bytes (bytes x)) broken ≡ replicate 8 (accepted false)

pub audits : Audits
unfolding model after_d good with_record_at other_map other_before other_count other_expiry last_expiry some_expiry same_print free_named broken
audits = record { yes = refl; no = refl }
