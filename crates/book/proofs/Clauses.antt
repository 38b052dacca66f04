-- Number 2's two tests, of the bytes and of the book that they are, taken apart and put together.
use Prim.Native.Nat.{◌-◌, ◌*◌, ◌≤◌}
use mathlib.Core.Path.{◌≡◌}
use mathlib.Core.Bool.{true, ◌&&◌}
use mathlib.Core.List.{List}
use Prim.Native.Nat.{ℕ}
use lib.Dec.{leb, ltb, eqb}
use lib.ListN.{length}
use borrow.Author.Tests.{leb-true, ltb-true, eqb-true, le-leb, lt-ltb, eq-eqb}
use Rattle.words.proofs.ChoiceLaws.{and_true}
use Rattle.words.specs.Lists.{all, all_zero, up_from}
use Rattle.words.specs.Numbers.{num}
use Rattle.words.specs.Sections.{part}
use Rattle.book.specs.Book.{Book}
use Rattle.book.specs.Layout.{n_offset, s_offset, j_offset, b_offset, u_offset, zero_offset, slot_size, rec_size, slot_offset, rec_offset}
use Rattle.book.specs.Layout.{sizes_of}
use Rattle.book.specs.Form.{retention_ok, entry_ok, pbn_ok, rec_ok, afters_ok, slot_ok, days_ok, pairs_ok, book_ok, state_ok, second_ok, raw_ok}
use Rattle.book.specs.FormFacts.{BookParts}

pub book-parts : (x : Book) → book_ok x ≡ true → BookParts x
unfolding book_ok
book-parts x e =
    let c₁ = leb x.day 60000 in
    let c₂ = c₁ && ltb x.cursor x.sizes.n in
    let c₃ = c₂ && all retention_ok x.retentions in
    let c₄ = c₃ && all entry_ok x.entries in
    let c₅ = c₄ && all (all (pbn_ok x.sizes.n)) x.maps in
    let c₆ = c₅ && all (slot_ok x) x.slots in
    let c₇ = c₆ && days_ok x.slots in
    let c₈ = c₇ && pairs_ok 0 x.slots (length x.records) in
    let c₉ = c₈ && all (rec_ok x.sizes) x.records in
    let t₁₀ = and_true c₉ (afters_ok x.slots x.records) e in
    let t₉ = and_true c₈ (all (rec_ok x.sizes) x.records) t₁₀.0 in
    let t₈ = and_true c₇ (pairs_ok 0 x.slots (length x.records)) t₉.0 in
    let t₇ = and_true c₆ (days_ok x.slots) t₈.0 in
    let t₆ = and_true c₅ (all (slot_ok x) x.slots) t₇.0 in
    let t₅ = and_true c₄ (all (all (pbn_ok x.sizes.n)) x.maps) t₆.0 in
    let t₄ = and_true c₃ (all entry_ok x.entries) t₅.0 in
    let t₃ = and_true c₂ (all retention_ok x.retentions) t₄.0 in
    let t₂ = and_true c₁ (ltb x.cursor x.sizes.n) t₃.0 in
    record {
      day = leb-true x.day 60000 t₂.0;
      cursor = ltb-true x.cursor x.sizes.n t₂.1;
      retentions = t₃.1;
      entries = t₄.1;
      maps = t₅.1;
      slots = t₆.1;
      days = t₇.1;
      pairs = t₈.1;
      records = t₉.1;
      afters = t₁₀.1;
    }

pub parts-book : (x : Book) → BookParts x → book_ok x ≡ true
unfolding book_ok
parts-book x p =
    rw (
      le-leb x.day 60000 p.day,
      lt-ltb x.cursor x.sizes.n p.cursor,
      p.retentions,
      p.entries,
      p.maps,
      p.slots,
      p.days,
      p.pairs,
      p.records,
    ) p.afters

-- what only the bytes show
pub record RawParts (b : List ℕ) : Type 0 where
  pub slots : num b b_offset ≤ num b s_offset
  pub records : num b u_offset ≤ num b j_offset
  pub spare : num b zero_offset ≡ 0
  pub states : all (state_ok (num b 0) b) (up_from 0 (num b n_offset)) ≡ true
  pub seconds : all (second_ok b) (up_from 0 (num b b_offset)) ≡ true
  pub rest_slots : all_zero (part b (slot_offset (sizes_of b) (num b b_offset)) ((num b s_offset - num b b_offset) * slot_size)) ≡ true
  pub rest_records : all_zero (part b (rec_offset (sizes_of b) (num b u_offset)) ((num b j_offset - num b u_offset) * rec_size)) ≡ true

pub raw-parts : (b : List ℕ) → raw_ok b ≡ true → RawParts b
unfolding raw_ok
raw-parts b e =
    let rest = all_zero (part b (slot_offset (sizes_of b) (num b b_offset)) ((num b s_offset - num b b_offset) * slot_size)) in
    let last = all_zero (part b (rec_offset (sizes_of b) (num b u_offset)) ((num b j_offset - num b u_offset) * rec_size)) in
    let c₁ = leb (num b b_offset) (num b s_offset) in
    let c₂ = c₁ && leb (num b u_offset) (num b j_offset) in
    let c₃ = c₂ && eqb (num b zero_offset) 0 in
    let c₄ = c₃ && all (state_ok (num b 0) b) (up_from 0 (num b n_offset)) in
    let c₅ = c₄ && all (second_ok b) (up_from 0 (num b b_offset)) in
    let t₇ = and_true (c₅ && rest) last e in
    let t₆ = and_true c₅ rest t₇.0 in
    let t₅ = and_true c₄ (all (second_ok b) (up_from 0 (num b b_offset))) t₆.0 in
    let t₄ = and_true c₃ (all (state_ok (num b 0) b) (up_from 0 (num b n_offset))) t₅.0 in
    let t₃ = and_true c₂ (eqb (num b zero_offset) 0) t₄.0 in
    let t₂ = and_true c₁ (leb (num b u_offset) (num b j_offset)) t₃.0 in
    record {
      slots = leb-true (num b b_offset) (num b s_offset) t₂.0;
      records = leb-true (num b u_offset) (num b j_offset) t₂.1;
      spare = eqb-true (num b zero_offset) 0 t₃.1;
      states = t₄.1;
      seconds = t₅.1;
      rest_slots = t₆.1;
      rest_records = t₇.1;
    }

pub parts-raw : (b : List ℕ) → RawParts b → raw_ok b ≡ true
unfolding raw_ok
parts-raw b p =
    rw (
      le-leb (num b b_offset) (num b s_offset) p.slots,
      le-leb (num b u_offset) (num b j_offset) p.records,
      eq-eqb
          (num b zero_offset) 0 p.spare,
      p.states,
      p.seconds,
      p.rest_slots,
    ) p.rest_records
