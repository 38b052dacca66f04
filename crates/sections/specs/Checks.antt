-- The conditions of form section by section, as one pass over the bytes tests them.
use Rattle.std.specs.Prelude.{ℕ, ◌+◌, ◌*◌, ◌≤◌, ◌<◌, ◌≡◌, Bool, ◌&&◌, List, leb, ltb, eqb, get_or}
use Rattle.words.specs.Blocks.{print_size}
use Rattle.words.specs.Lists.{each}
use Rattle.words.specs.Numbers.{num}
use Rattle.words.specs.Sections.{tab}
use Rattle.book.specs.Book.{volumes}
use Rattle.book.specs.Layout.{n_offset, s_offset, j_offset, b_offset, u_offset, day_offset, cursor_offset, zero_offset, retention_offset}
use Rattle.book.specs.Layout.{entry_offset, entry_in}
use Rattle.book.specs.Form.{retention_ok, state_ok, entry_ok, pbn_ok}

-- the bytes from o up to e are zero
abbrev pub zeros_in : List ℕ → ℕ → ℕ → Bool
zeros_in b o e = each (λ k. eqb (get_or b k 0) 0) o e

-- the header's numbers but the sizes
unfoldable pub head_ok : List ℕ → Bool
head_ok b =
    leb (num b b_offset) (num b s_offset)
    && leb (num b u_offset) (num b j_offset)
    && leb (num b day_offset) 60000
    && ltb (num b cursor_offset) (num b n_offset)
    && eqb (num b zero_offset) 0

unfoldable pub retentions_ok : List ℕ → Bool
retentions_ok b = each (λ v. retention_ok (num b (retention_offset v))) 0 volumes

-- an entry with this count, whose other fields stand at `at`: its state's byte, and the entry
unfoldable pub rest_ok : List ℕ → ℕ → ℕ → Bool
rest_ok b count at =
    leb (get_or b at 0) 1
    && entry_ok
    (record {
      count = count;
      held = eqb (get_or b at 0) 1;
      expiry = num b (at + 1);
      print = tab print_size (λ i. get_or b (at + 3 + i) 0);
    })

-- n entries of layout g, state byte and all
unfoldable pub entries_ok : ℕ → List ℕ → ℕ → Bool
entries_ok g b n = each (λ p. state_ok g b p && entry_ok (entry_in g b (entry_offset g p))) 0 n

-- the cells of all maps, one after the other
unfoldable pub maps_ok : List ℕ → ℕ → ℕ → ℕ → Bool
maps_ok b from cells n = each (λ c. pbn_ok n (num b (from + c * 2))) 0 cells

-- the header's test as facts
pub record HeadIn (b : List ℕ) : Type 0 where
  pub slots : num b b_offset ≤ num b s_offset
  pub records : num b u_offset ≤ num b j_offset
  pub day : num b day_offset ≤ 60000
  pub cursor : num b cursor_offset < num b n_offset
  pub spare : num b zero_offset ≡ 0
