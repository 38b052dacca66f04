-- A book with one thing changed: what each writer does.
use Rattle.std.specs.Prelude.{ℕ, true, false, List, [], ◌∷◌, ◌++◌, get_or, set, replicate}
use Rattle.words.specs.Blocks.{unmapped}
use Rattle.book.specs.Book.{volumes, Sizes, Entry, Slot, Rec, Book, no_print, free_entry, entry_at}
use Rattle.book.specs.Layout.{current}

unfoldable pub with_day : ℕ → Book → Book
with_day d x = record {
  sizes = x.sizes;
  day = d;
  cursor = x.cursor;
  retentions = x.retentions;
  entries = x.entries;
  maps = x.maps;
  slots = x.slots;
  records = x.records;
}

unfoldable pub with_cursor : ℕ → Book → Book
with_cursor c x = record {
  sizes = x.sizes;
  day = x.day;
  cursor = c;
  retentions = x.retentions;
  entries = x.entries;
  maps = x.maps;
  slots = x.slots;
  records = x.records;
}

unfoldable pub with_retention : ℕ → ℕ → Book → Book
with_retention v r x = record {
  sizes = x.sizes;
  day = x.day;
  cursor = x.cursor;
  retentions = set x.retentions v r;
  entries = x.entries;
  maps = x.maps;
  slots = x.slots;
  records = x.records;
}

unfoldable pub with_entries : List Entry → Book → Book
with_entries es x = record {
  sizes = x.sizes;
  day = x.day;
  cursor = x.cursor;
  retentions = x.retentions;
  entries = es;
  maps = x.maps;
  slots = x.slots;
  records = x.records;
}

unfoldable pub with_maps : List (List ℕ) → Book → Book
with_maps ms x = record {
  sizes = x.sizes;
  day = x.day;
  cursor = x.cursor;
  retentions = x.retentions;
  entries = x.entries;
  maps = ms;
  slots = x.slots;
  records = x.records;
}

unfoldable pub with_slot : Slot → Book → Book
with_slot t x = record {
  sizes = x.sizes;
  day = x.day;
  cursor = x.cursor;
  retentions = x.retentions;
  entries = x.entries;
  maps = x.maps;
  slots = x.slots ++ (t ∷ []);
  records = x.records;
}

unfoldable pub with_record : Rec → Book → Book
with_record r x = record {
  sizes = x.sizes;
  day = x.day;
  cursor = x.cursor;
  retentions = x.retentions;
  entries = x.entries;
  maps = x.maps;
  slots = x.slots;
  records = x.records ++ (r ∷ []);
}

-- "with every field equal", but for the layout number (document 02, K3)
abbrev pub sizes_in : ℕ → Sizes → Sizes
sizes_in g z = record { layout = g; n = z.n; l = z.l; s = z.s; j = z.j }

unfoldable pub with_layout : ℕ → Book → Book
with_layout g x = record {
  sizes = sizes_in g x.sizes;
  day = x.day;
  cursor = x.cursor;
  retentions = x.retentions;
  entries = x.entries;
  maps = x.maps;
  slots = x.slots;
  records = x.records;
}

-- an entry with one thing changed
unfoldable pub count_as : ℕ → Entry → Entry
count_as c e = record { count = c; held = e.held; expiry = e.expiry; print = e.print }

unfoldable pub expiry_as : ℕ → Entry → Entry
expiry_as d e = record { count = e.count; held = e.held; expiry = d; print = e.print }

-- "it becomes held with the fingerprint"; "becomes free with a zero fingerprint and its expiry kept"
unfoldable pub held_as : List ℕ → Entry → Entry
held_as f e = record { count = e.count; held = true; expiry = e.expiry; print = f }

unfoldable pub made_free : Entry → Entry
made_free e = record { count = e.count; held = false; expiry = e.expiry; print = no_print }

abbrev pub with_entry : (Entry → Entry) → ℕ → Book → Book
with_entry f p x = with_entries (set x.entries p (f (entry_at x.entries p))) x

abbrev pub cells_with : List (List ℕ) → ℕ → ℕ → ℕ → List (List ℕ)
cells_with ms v l p = set ms v (set (get_or ms v []) l p)

abbrev pub with_cell : ℕ → ℕ → ℕ → Book → Book
with_cell v l p x = with_maps (cells_with x.maps v l p) x

-- of today's layout
abbrev pub new_sizes : ℕ → ℕ → ℕ → ℕ → Sizes
new_sizes n l s j = record { layout = current; n = n; l = l; s = s; j = j }

-- "Format: all zero but layout and sizes, maps unmapped"
unfoldable pub fresh : Sizes → Book
fresh z = record {
  sizes = z;
  day = 0;
  cursor = 0;
  retentions = replicate volumes 0;
  entries = replicate z.n free_entry;
  maps = replicate volumes (replicate z.l unmapped);
  slots = [];
  records = [];
}
