-- When bytes are a book in form, or well-formed (document 01, "A book is in form when"; numbers 1 and 2). Its clauses, in its order:
--   header numbers are in range: layout number and sizes        layout_as (number 1; the others are number 2)
--   B ≤ S, U ≤ J                                                raw_ok
--   day ≤ 60,000, cursor < N                                    book_ok
--   retentions are in range                                     book_ok: retention_ok
--   expiries ≤ 65,000                                           book_ok: entry_ok
--   states are 0 or 1                                           raw_ok: state_ok
--   a free entry has count 0 and a zero fingerprint             book_ok: entry_ok
--   PBNs in maps and records are below N or 65,535              book_ok: pbn_ok, and rec_ok for a record's before
--   an after is below N; record LBNs are below L                book_ok: rec_ok, and afters_ok for where an after is unmapped
--   used slots name enrolled volumes                            book_ok: slot_ok
--   retire slots are from layout 3 on, and end their volume     book_ok: slot_ok, and days_ok
--   their days never fall, rise strictly within a volume        book_ok: days_ok
--   and don't pass the header's day                             book_ok: slot_ok
--   pairs: the first at 0, each next, the last ends at U        book_ok: pairs_ok
--   unused slots and records are zero                           raw_ok
--   a slot's second byte is zero, in a retire slot 1            raw_ok: second_ok
--   the spare header field is zero                              raw_ok: zero_offset
-- raw_ok has what only the bytes show, book_ok what the book that they say shows.
use Rattle.std.specs.Prelude.{ℕ, ◌+◌, ◌-◌, ◌*◌, Bool, true, not, ◌&&◌, ◌||◌, List, [], ◌∷◌, length, get_or, take, drop, leb, ltb, eqb}
use Rattle.words.specs.Blocks.{unmapped}
use Rattle.words.specs.Choice.{when◌then◌else◌}
use Rattle.words.specs.Lists.{all, all_zero, up_from}
use Rattle.words.specs.Numbers.{num}
use Rattle.words.specs.Sections.{part}
use Rattle.book.specs.Book.{Sizes, Entry, Slot, Rec, Book, retention_of}
use Rattle.book.specs.Layout.{current, header_size, count_size, slot_size, rec_size, b_offset, u_offset, zero_offset, entry_offset}
use Rattle.book.specs.Layout.{slot_offset, rec_offset, book_size, sizes_of, book_of}

unfoldable pub between : ℕ → ℕ → ℕ → Bool
between low high k = leb low k && leb k high

-- ---- number 1: the length, the layout number and the sizes

-- sizes of layout g, in range
unfoldable pub sizes_as : ℕ → Sizes → Bool
sizes_as g z =
    eqb z.layout g && between 1 4096 z.n && between 1 1024 z.l && between 1 1024 z.s && between 1 16384 z.j

unfoldable pub layout_as : ℕ → List ℕ → Bool
layout_as g b = leb header_size (length b) && sizes_as g (sizes_of b) && eqb (length b) (book_size (sizes_of b))

-- ---- number 2, as far as what the book holds shows it

-- "retentions are in range": 0, or 1 to 5,000
unfoldable pub retention_ok : ℕ → Bool
retention_ok r = leb r 5000

-- "expiries ≤ 65,000"; "a free entry has count 0 and a zero fingerprint"
unfoldable pub entry_ok : Entry → Bool
entry_ok e = leb e.expiry 65000 && (e.held || (eqb e.count 0 && all_zero e.print))

-- "PBNs in maps and records are below N or 65,535"
unfoldable pub pbn_ok : ℕ → ℕ → Bool
pbn_ok n p = ltb p n || eqb p unmapped

-- "and an after is below N", or unmapped where afters_ok asks for it; "record LBNs are below L"
unfoldable pub rec_ok : Sizes → Rec → Bool
rec_ok z r = ltb r.lbn z.l && pbn_ok z.n r.before && pbn_ok z.n r.after

-- "a record has that after exactly when its slot is a retire slot" (document 02, K6): so for each slot and its records
unfoldable pub after_ok : Bool → Rec → Bool
after_ok retire r = when retire then eqb r.after unmapped else not (eqb r.after unmapped)

abbrev pub afters_ok : List Slot → List Rec → Bool
afters_ok [] rs = true
afters_ok (t ∷ ts) rs = all (after_ok t.retire) (take t.number rs) && afters_ok ts (drop t.number rs)

-- a volume above 7 has no retention, so it is not enrolled
abbrev pub enrolled : Book → ℕ → Bool
enrolled x v = not (eqb (retention_of x v) 0)

-- "used slots name enrolled volumes"; their days "don't pass the header's day"; "from layout 3 on" a slot may retire its volume
unfoldable pub slot_ok : Book → Slot → Bool
slot_ok x t = enrolled x t.volume && leb t.day x.day && (leb 3 x.sizes.layout || not t.retire)

-- "their days never fall, rise strictly within a volume", and after a retire slot "no slot of the volume follows it" (document 02, K6): so for
-- each slot and every later one
unfoldable pub later_ok : Slot → Slot → Bool
later_ok t u = leb t.day u.day && (not (eqb t.volume u.volume) || (ltb t.day u.day && not t.retire))

abbrev pub days_ok : List Slot → Bool
days_ok [] = true
days_ok (t ∷ ts) = all (later_ok t) ts && days_ok ts

-- "the first pair starts at 0, each next where the last ended, the last ends at U"
abbrev pub pairs_ok : ℕ → List Slot → ℕ → Bool
pairs_ok at [] u = eqb at u
pairs_ok at (t ∷ ts) u = eqb t.first at && pairs_ok (at + t.number) ts u

unfoldable pub book_ok : Book → Bool
book_ok x =
    leb x.day 60000
    && ltb x.cursor x.sizes.n
    && all retention_ok x.retentions
    && all entry_ok x.entries
    && all (all (pbn_ok x.sizes.n)) x.maps
    && all (slot_ok x) x.slots
    && days_ok x.slots
    && pairs_ok 0 x.slots (length x.records)
    && all (rec_ok x.sizes) x.records
    && afters_ok x.slots x.records

-- ---- number 2, as far as only the bytes show it: "B ≤ S, U ≤ J", "states are 0 or 1", "unused slots and records .. and the spare header field are
-- zero"; a slot's second byte is zero, or 1 in a retire slot

-- of entry p, in layout g
unfoldable pub state_ok : ℕ → List ℕ → ℕ → Bool
state_ok g b p = leb (get_or b (entry_offset g p + count_size g) 0) 1

unfoldable pub second_ok : List ℕ → ℕ → Bool
second_ok b q = leb (get_or b (slot_offset (sizes_of b) q + 1) 0) 1

unfoldable pub raw_ok : List ℕ → Bool
raw_ok b =
    leb (num b b_offset) (sizes_of b).s
    && leb (num b u_offset) (sizes_of b).j
    && eqb (num b zero_offset) 0
    && all (state_ok (num b 0) b) (up_from 0 (sizes_of b).n)
    && all (second_ok b) (up_from 0 (num b b_offset))
    && all_zero (part b (slot_offset (sizes_of b) (num b b_offset)) (((sizes_of b).s - num b b_offset) * slot_size))
    && all_zero (part b (rec_offset (sizes_of b) (num b u_offset)) (((sizes_of b).j - num b u_offset) * rec_size))

-- 1, 2, or 0 for a book in form, as a book of layout g
unfoldable pub form_as : ℕ → List ℕ → ℕ
form_as g b =
    when not (layout_as g b) then 1 else
    when not (raw_ok b && book_ok (book_of b)) then 2 else
    0

-- as a book of today's layout: what every call asks
abbrev pub sizes_ok : Sizes → Bool
sizes_ok z = sizes_as current z

abbrev pub form_number : List ℕ → ℕ
form_number b = form_as current b
