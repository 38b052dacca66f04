-- Laws of steps 3 and 4: what the writers of a book leave is what the model says.
use Prim.Native.Nat.{ℕ, zero, suc, ◌+◌, ◌-◌, ◌≤◌, ◌<◌, max}
use mathlib.Core.Path.{◌≡◌, refl, sym, ap, ◌∙◌}
use mathlib.Core.Bool.{Bool, true, false, not, ◌&&◌}
use mathlib.Core.List.{List, [], ◌∷◌}
use mathlib.Core.Logic.{◌⊎◌, ⊎_elim}
use native.Mathlib.Numerals.{add-one}
use native.Mathlib.Omega.{arith}
use lib.Dec.{eqb}
use lib.ListN.{length, get_or, set}
use lib.Seq.{get_or-set_same}
use borrow.Author.Tests.{eq-eqb, ne_eqb}
use Rattle.std.specs.Prelude.{⊤, Ok, Err}
use Rattle.words.specs.Blocks.{unmapped}
use Rattle.words.specs.Choice.{when◌then◌else◌}
use Rattle.words.specs.Lent.{Lent}
use Rattle.words.specs.Lists.{all}
use Rattle.words.specs.Outcome.{refused, accepted}
use Rattle.words.specs.Refusals.{number}
use Rattle.words.specs.declared.refusals.Refusal.{Refusal}
use Rattle.words.specs.declared.refusals.Refusal.TheVariants.{CountZero}
use Rattle.words.proofs.Refused.{number-not_zero}
use Rattle.words.proofs.Places.{all_get_d}
use Rattle.book.specs.Book.{Entry, Book, free_entry, entry_at, cell_at}
use Rattle.book.proofs.Conditions.{pbn-cases}
use Rattle.book.proofs.Holding.{is-then, is_same}
use Rattle.book.specs.Form.{pbn_ok}
use Rattle.book.specs.Layout.{book_of, Holds, Is}
use Rattle.book.specs.Next.{with_entries, with_entry, with_cell, with_record, count_as, expiry_as}
use Rattle.claims.proofs.form.Bounds.{unmapped-ok}
use Rattle.model.specs.Backup.{lowered, lower, raised, name_block, move_number, moved, move_to}
use Rattle.placer.specs.Working.{work_at}
use Rattle.mover.specs.Stepping.{zero_number, LoweredBy}
use Rattle.placer.specs.declared.placing.Tally.{Tally}

set_twice : {A : Type 0} (xs : List A) (p : ℕ) (y z : A) → set (set xs p y) p z ≡ set xs p z
set_twice [] p y z = refl
set_twice (x ∷ xs) zero y z = refl
set_twice {A} (x ∷ xs) (suc p) y z = ap (λ (r : List A). x ∷ r) (set_twice xs p y z)

-- ---- step 3

module _ (work : Lent (List ℕ)) (before until : ℕ) {u : ⊤} where
  abbrev b : List ℕ
  b = work.entry.now

  pub lower-none : work.exit.now ≡ b → before ≡ unmapped → Holds b → LoweredBy work before until (Ok u)
  unfolding lower with_entries
  lower-none same e h = record {
    number = rw (eq-eqb before unmapped e);
    book = λ _. rw same (record { holds = h; book = rw (eq-eqb before unmapped e) });
  }

  pub lower-zero : (before ≡ unmapped → ⊥) → (entry_at (book_of b).entries before).count ≡ 0
      → LoweredBy work before until (Err CountZero)
  lower-zero e z = record {
    number = rw (ne_eqb before unmapped e, eq-eqb (entry_at (book_of b).entries before).count 0 z);
    book = λ f. absurd (let z : ◌≡◌ {A = ℕ} 0 1 = cc in omega arith);
  }

  module _ (e : before ≡ unmapped → ⊥) (z : (entry_at (book_of b).entries before).count ≡ 0 → ⊥)
      (h : before < length (book_of b).entries) (b₁ : List ℕ)
      (i : Is b₁ (with_entry (count_as ((entry_at (book_of b).entries before).count - 1)) before (book_of b))) where
    abbrev es : List Entry
    es = (book_of b).entries

    abbrev own : Entry
    own = entry_at (book_of b).entries before

    abbrev down : Entry
    down = count_as ((entry_at (book_of b).entries before).count - 1) (entry_at (book_of b).entries before)

    goes_on : zero_number (book_of b).entries before ≡ 0
    goes_on = rw (ne_eqb before unmapped e, ne_eqb (entry_at (book_of b).entries before).count 0 z)

    -- the entry between the two writers
    pub entry-down : entry_at (book_of b₁).entries before
        ≡ count_as ((entry_at (book_of b).entries before).count - 1) (entry_at (book_of b).entries before)
    unfolding with_entries
    entry-down = ap (λ (x : Book). entry_at x.entries before) i.book ∙ get_or-set_same es before down free_entry h

    pub expiry-down : (entry_at (book_of b₁).entries before).expiry ≡ (entry_at (book_of b).entries before).expiry
    unfolding count_as
    expiry-down = ap (λ (x : Entry). x.expiry) entry-down

    pub lower_late : work.exit.now ≡ b₁ → until ≤ (entry_at (book_of b₁).entries before).expiry → LoweredBy work before until (Ok u)
    unfolding lower lowered count_as expiry_as
    lower_late same k = record {
      number = sym goes_on;
      book =
          λ _. rw same (is_same (let m : max own.expiry until ≡ own.expiry = omega (arith, expiry-down)
          in rw (ne_eqb before unmapped e, m)) i);
    }

    pub lower-early : (entry_at (book_of b₁).entries before).expiry < until
        → Is work.exit.now (with_entry (expiry_as until) before (book_of b₁)) → LoweredBy work before until (Ok u)
    unfolding lower lowered with_entries
    lower-early k j = record {
      number = sym goes_on;
      book = λ _.
          is_same (let m : max own.expiry until ≡ until = omega (arith, expiry-down) in
          rw (ne_eqb before unmapped e, m, get_or-set_same es before down free_entry h, set_twice es before down (expiry_as until down)))
          (is-then (with_entry (expiry_as until) before) i j);
    }

-- ---- step 4

pub named : (v lbn p count before : ℕ) (b b₁ b₂ b₃ : List ℕ) → count ≡ (entry_at (book_of b).entries p).count
    → before ≡ cell_at (book_of b).maps v lbn
    → Is b₁ (with_entry (count_as (count + 1)) p (book_of b)) → Is b₂ (with_cell v lbn p (book_of b₁))
    → Is b₃ (with_record (record { lbn = lbn; before = before; after = p }) (book_of b₂))
    → Is b₃ (name_block v lbn p (book_of b).entries (book_of b))
unfolding name_block raised
named v lbn p count before b b₁ b₂ b₃ e f i j k =
    is_same (rw (e, f, add-one))
    (is-then (with_record (record { lbn = lbn; before = before; after = p })) (is-then (with_cell v lbn p) i j) k)

-- ---- both

-- number 13, by its test
refuses : (t : Bool) (e : Refusal) → number e ≡ (when t then 13 else 0) → (t ≡ true) × (number e ≡ 13)
refuses true e h = (refl, h)
refuses false e h = absurd (number-not_zero e h)

lets : (t : Bool) → ◌≡◌ {A = ℕ} (when t then 13 else 0) 0 → t ≡ false
lets true h = absurd (omega arith)
lets false h = refl

module _ (v until lbn p : ℕ) (x : Book) (pool : List ℕ) (t : Tally) where
  abbrev before : ℕ
  before = cell_at x.maps v lbn

  pub move-zero : (e : Refusal) → number e ≡ zero_number x.entries (cell_at x.maps v lbn)
      → move_to v until lbn (cell_at x.maps v lbn) (record { pbn = p; work = work_at x pool t }) ≡ refused (number e)
  unfolding move_to move_number
  move-zero e h =
      let r = refuses (not (eqb before unmapped) && eqb (entry_at x.entries before).count 0) e h in rw (r.0, r.1)

  module _ (e : zero_number x.entries (cell_at x.maps v lbn) ≡ 0) where
    pub move-full : (entry_at (lower until (cell_at x.maps v lbn) x.entries) p).count ≡ 65535
        → move_to v until lbn (cell_at x.maps v lbn) (record { pbn = p; work = work_at x pool t }) ≡ refused 14
    unfolding move_to move_number
    move-full f =
        rw (
          lets (not (eqb before unmapped) && eqb (entry_at x.entries before).count 0) e,
          eq-eqb
              (entry_at (lower until before x.entries) p).count 65535 f,
        )

    pub move-goes : ((entry_at (lower until (cell_at x.maps v lbn) x.entries) p).count ≡ 65535 → ⊥) → (y : Book) (t' : Tally)
        → y ≡ name_block v lbn p (lower until (cell_at x.maps v lbn) x.entries) x
        → t'.taken ≡ t.taken → t'.touched ≡ t.touched + (when eqb (cell_at x.maps v lbn) unmapped then 1 else 2)
        → move_to v until lbn (cell_at x.maps v lbn) (record { pbn = p; work = work_at x pool t }) ≡ accepted (work_at y pool t')
    unfolding move_to move_number moved
    move-goes f y t' g k l =
        rw (
          lets (not (eqb before unmapped) && eqb (entry_at x.entries before).count 0) e,
          ne_eqb
              (entry_at (lower until before x.entries) p).count 65535 f,
          g,
          k,
          l,
        )

-- naming a block in the lowered book
pub name-lowered : (v lbn p : ℕ) (es : List Entry) (x : Book)
    → name_block v lbn p (with_entries es x).entries (with_entries es x) ≡ name_block v lbn p es x
unfolding name_block with_entries
name-lowered v lbn p _ x = refl

-- a cell of maps in form names a block or nothing
pub cell-ok : (ms : List (List ℕ)) (n v l : ℕ) → all (all (pbn_ok n)) ms ≡ true → (cell_at ms v l < n) ⊎ (cell_at ms v l ≡ unmapped)
cell-ok ms n v l e =
    pbn-cases n (cell_at ms v l)
    (all_get_d (pbn_ok n) (get_or ms v []) unmapped l (all_get_d (all (pbn_ok n)) ms [] v e refl) (unmapped-ok n))

-- .. so one that isn't unmapped names a block
pub names : {m n : ℕ} → (m < n) ⊎ (m ≡ unmapped) → (m ≡ unmapped → ⊥) → m < n
names f e = ⊎_elim (λ h. h) (λ z. absurd (e z)) f

pub at_most_two : (t : Bool) → (when t then 1 else 2) ≤ 2
at_most_two true = omega arith
at_most_two false = omega arith
