-- The pass that puts each block's expiry, block by block, and what it leaves where the table is the journal's.
use Prim.Native.Nat.{ℕ, zero, suc, ◌+◌, ◌<◌}
use mathlib.Core.Path.{◌≡◌, refl, sym, ap, ◌∙◌}
use mathlib.Core.List.{List, [], ◌∷◌}
use native.Mathlib.Numerals.{add-one}
use native.Mathlib.Omega.{arith}
use lib.ListN.{length, get_or, set, replicate, get_or-replicate}
use Rattle.words.proofs.SectionLaws.{length-tab, get_or-tab, tab-list}
use Rattle.words.specs.Sections.{tab}
use Rattle.book.proofs.Holding.{is_same}
use Rattle.book.specs.Book.{Entry, Book, free_entry, entry_at}
use Rattle.book.specs.Layout.{book_of, Holds, Is}
use Rattle.book.specs.Next.{expiry_as, with_entries, with_entry}
use Rattle.model.specs.Audit.{until_in}
use Rattle.model.specs.Convert.{refreshed_entry, refreshed}
use Rattle.model.specs.Journal.{journal}
use Rattle.due.specs.Expiries.{Raised}
use Rattle.due.specs.Pool.{pool_blocks, number_at}
use Rattle.refresh.specs.Expiring.{with_expiry, with_expiries}

-- ---- a list, changed element by element

module _ {A : Type 0} where
  -- the first p elements changed, each by its place, the others as they were
  abbrev pub changed_to : (ℕ → A → A) → ℕ → List A → List A
  changed_to f zero xs = xs
  changed_to f (suc p) [] = []
  changed_to f (suc p) (x ∷ xs) = f 0 x ∷ changed_to (λ k. f (suc k)) p xs

  changed_more : (f : ℕ → A → A) (xs : List A) (p : ℕ) (d : A) → p < length xs
      → set (changed_to f p xs) p (f p (get_or (changed_to f p xs) p d)) ≡ changed_to f (suc p) xs
  changed_more f [] p d h = absurd (omega arith)
  changed_more f (x ∷ xs) zero d h = refl
  changed_more f (x ∷ xs) (suc p) d h = ap (λ (r : List A). f 0 x ∷ r) (changed_more (λ k. f (suc k)) xs p d (omega arith))

  changed_all : (f : ℕ → A → A) (xs : List A) (d : A) → changed_to f (length xs) xs ≡ tab (length xs) (λ k. f k (get_or xs k d))
  changed_all f [] d = refl
  changed_all f (x ∷ xs) d = ap (λ (r : List A). f 0 x ∷ r) (changed_all (λ k. f (suc k)) xs d)

-- ---- one block: the expiry that is put is the table's

pub expiry_as_lem : (a : List ℕ) (p : ℕ) (x : Book) {b : List ℕ} {until : ℕ} → Is b (with_entry (expiry_as until) p x) → until ≡ number_at a p
    → Is b (with_expiry a p x)
unfolding with_expiry
expiry_as_lem a p x i e = is_same (λ j. with_entry (expiry_as (e j)) p x) i

-- ---- the pass

-- the blocks below p have the table's expiries
unfoldable pub put_to : List ℕ → Book → ℕ → Book
put_to a x p = with_entries (changed_to (λ q e. expiry_as (number_at a q) e) p x.entries) x

module _ (a : List ℕ) (x : Book) where
  put-none : x ≡ put_to a x 0
  unfolding put_to with_entries
  put-none = refl

  put-n : (p : ℕ) → (put_to a x p).sizes.n ≡ x.sizes.n
  unfolding put_to with_entries
  put-n p = refl

  put-more : (p : ℕ) → p < length x.entries → with_expiry a p (put_to a x p) ≡ put_to a x (p + 1)
  unfolding put_to with_entries with_expiry
  put-more p h =
      rw add-one
      (ap (λ (es : List Entry). with_entries es x) (changed_more (λ q e. expiry_as (number_at a q) e) x.entries p free_entry h))

  put_all : length x.entries ≡ x.sizes.n → put_to a x (length x.entries) ≡ with_expiries a x
  unfolding put_to with_expiries
  put_all n =
      ap (λ (es : List Entry). with_entries es x)
      (changed_all (λ q e. expiry_as (number_at a q) e) x.entries free_entry
      ∙ ap (λ (k : ℕ). tab k (λ q. expiry_as (number_at a q) (entry_at x.entries q))) n)

-- the pass from book b₀ has come to block p
abbrev pub Putting : List ℕ → List ℕ → List ℕ → ℕ → Type 0
Putting b₀ a b p = Is b (put_to a (book_of b₀) p)

module _ {b₀ : List ℕ} (a : List ℕ) (h : Holds b₀) where
  pub putting_start : Putting b₀ a b₀ 0
  putting_start = record { holds = h; book = put-none a (book_of b₀) }

  module _ {b : List ℕ} {p : ℕ} (s : Putting b₀ a b p) where
    pub putting_inside : p < (book_of b₀).sizes.n → p < (book_of b).sizes.n
    putting_inside l = rw (s.book, put-n a (book_of b₀) p) l

    pub putting_more : {b' : List ℕ} → p < (book_of b₀).sizes.n → Is b' (with_expiry a p (book_of b)) → Putting b₀ a b' (p + 1)
    putting_more l i =
        is_same (ap (with_expiry a p) s.book ∙ put-more a (book_of b₀) p (omega (arith, h.sized.entries))) i

    pub putting_end : p ≡ (book_of b₀).sizes.n → Is b (with_expiries a (book_of b₀))
    putting_end e =
        let n = h.sized.entries in
        is_same (ap (put_to a (book_of b₀)) (e ∙ sym n) ∙ put_all a (book_of b₀) n) s

-- ---- from the journal's table

pub refreshed_as : {b b' a : List ℕ} → Holds b → Raised (replicate pool_blocks 0) (λ p. until_in (book_of b) p (journal (book_of b))) a
    → Is b' (with_expiries a (book_of b)) → Is b' (refreshed (book_of b))
unfolding refreshed refreshed_entry with_expiries
refreshed_as {b} {b'} {a} h r i =
    is_same (ap (λ (es : List Entry). with_entries es x)
    (tab-list n (λ p. expiry_as (number_at a p) (entry_at x.entries p)) (tab n (refreshed_entry x)) free_entry (length-tab n (refreshed_entry x))
    (λ p l. ap (λ (d : ℕ). expiry_as d (entry_at x.entries p)) (number p l) ∙ sym (get_or-tab n (refreshed_entry x) p free_entry l)))) i
  where
    x : Book
    x = book_of b

    n : ℕ
    n = (book_of b).sizes.n

    number : (p : ℕ) → p < (book_of b).sizes.n → number_at a p ≡ until_in (book_of b) p (journal (book_of b))
    number p l =
        let k : p < pool_blocks = omega (arith, h.n) in
        omega (arith, r.at p k, get_or-replicate {A = ℕ} pool_blocks p 0 0 k)
