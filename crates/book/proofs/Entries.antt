-- What a store into an entry does to it, in any layout: count, expiry, holding and freeing.
use mathlib.Core.Path.{◌≡◌, refl, sym, ap, ◌∙◌}
use mathlib.Core.Bool.{Bool, true, false}
use mathlib.Core.List.{List, [], ◌∷◌, ◌++◌}
use Prim.Native.Nat.{ℕ, ◌+◌, ◌<◌, ◌/◌, ◌%◌}
use native.Mathlib.Omega.{arith}
use lib.Dec.{eqb}
use lib.ListN.{length, set, replicate, length-set}
use lib.Seq.{sets, set-set, get_or-set_same}
use Rattle.words.specs.Blocks.{print_size}
use Rattle.words.specs.Choice.{when◌then◌else◌}
use Rattle.words.specs.Numbers.{two}
use Rattle.words.specs.Sections.{fit}
use Rattle.words.proofs.SectionLaws.{sets_append_left, sets_append_right, sets_cons, sets-whole, length-fit, fit_all}
use Rattle.book.specs.Book.{Entry, Book, no_print, free_entry, entry_at}
use Rattle.book.specs.Layout.{count_size, entry_size, entry_offset, state_byte, count_bytes, rest_bytes, entry_bytes, bytes}
use Rattle.book.specs.Next.{with_entries, count_as, expiry_as, held_as, made_free, with_entry}
use Rattle.book.proofs.FieldsWritten.{set-entry}

-- ---- an entry's bytes

count-size : (g c : ℕ) → length (count_bytes g c) ≡ count_size g
count-size g c = go (eqb g 1)
  where
    go : (t : Bool) → length (when t then c ∷ [] else two c) ≡ (when t then 1 else 2)
    go true = refl
    go false = refl

count-stored : (g : ℕ) (e : Entry) (c : ℕ) → sets (entry_bytes g e) 0 (count_bytes g c) ≡ entry_bytes g (count_as c e)
unfolding count_as
count-stored g e c =
    let old = count_bytes g e.count in
    let same : length (count_bytes g c) ≡ length old = count-size g c ∙ sym (count-size g e.count) in
    sets_append_left (count_bytes g c) old (rest_bytes e) 0 (omega arith)
    ∙ ap (λ (l : List ℕ). l ++ rest_bytes e) (sets-whole (count_bytes g c) old same)

-- what follows the count, with a store into it
rest-stored : (g j : ℕ) (e : Entry) (vs : List ℕ)
    → sets (entry_bytes g e) (count_size g + j) vs ≡ count_bytes g e.count ++ sets (rest_bytes e) j vs
rest-stored g j e vs =
    ap (λ (k : ℕ). sets (entry_bytes g e) (k + j) vs) (sym (count-size g e.count))
    ∙ sets_append_right vs (count_bytes g e.count) (rest_bytes e) j

expiry-stored : (g : ℕ) (e : Entry) (d : ℕ) → sets (entry_bytes g e) (count_size g + 1) (two d) ≡ entry_bytes g (expiry_as d e)
unfolding expiry_as
expiry-stored g e d = rest-stored g 1 e (two d)

-- the state, with the old fingerprint still there, and then the fingerprint
state_as : Bool → Entry → Entry
state_as h e = record { count = e.count; held = h; expiry = e.expiry; print = e.print }

print_as : List ℕ → Entry → Entry
print_as f e = record { count = e.count; held = e.held; expiry = e.expiry; print = f }

state-stored : (g : ℕ) (e : Entry) (h : Bool) → sets (entry_bytes g e) (count_size g + 0) (state_byte h ∷ []) ≡ entry_bytes g (state_as h e)
unfolding state_as
state-stored g e h = rest-stored g 0 e (state_byte h ∷ [])

past_three : (a b c : ℕ) (l f : List ℕ) → length f ≡ length l → sets (a ∷ b ∷ c ∷ l) 3 f ≡ a ∷ b ∷ c ∷ f
past_three a b c l f e =
    sets_cons f (b ∷ c ∷ l) a 2
    ∙ ap (λ (r : List ℕ). a ∷ r) (sets_cons f (c ∷ l) b 1
    ∙ ap (λ (r : List ℕ). b ∷ r) (sets_cons f l c 0 ∙ ap (λ (r : List ℕ). c ∷ r) (sets-whole f l e)))

print-stored : (g : ℕ) (e : Entry) (f : List ℕ) → length f ≡ print_size
    → sets (entry_bytes g e) (count_size g + 3) f ≡ entry_bytes g (print_as f e)
unfolding print_as
print-stored g e f hf =
    rest-stored g 3 e f
    ∙ ap (λ (r : List ℕ). count_bytes g e.count ++ r)
    (past_three (state_byte e.held) (e.expiry % 256) (e.expiry / 256) (fit 0 print_size e.print) f
    (hf ∙ sym (length-fit 0 print_size e.print))
    ∙ ap (λ (r : List ℕ). state_byte e.held ∷ e.expiry % 256 ∷ e.expiry / 256 ∷ r) (sym (fit_all 0 print_size f hf)))

-- ---- the book

module _ (x : Book) (p i : ℕ) (hp : p < x.sizes.n) (hs : length x.entries ≡ x.sizes.n)
    (e : i ≡ entry_offset x.sizes.layout p) where
  abbrev g : ℕ
  g = x.sizes.layout

  pub set-count : (c : ℕ) → sets (bytes x) i (count_bytes g c) ≡ bytes (with_entry (count_as c) p x)
  unfolding entry_size
  set-count c =
      set-entry x p 0 i (count_bytes g c) (count_as c (entry_at x.entries p)) hp hs (omega (arith, count-size g c)) (omega arith)
      (count-stored g (entry_at x.entries p) c)

  pub set-expiry : (d : ℕ) → sets (bytes x) (i + (count_size g + 1)) (two d) ≡ bytes (with_entry (expiry_as d) p x)
  unfolding entry_size
  set-expiry d =
      set-entry x p (count_size g + 1) (i + (count_size g + 1)) (two d) (expiry_as d (entry_at x.entries p)) hp hs
      (omega arith) (omega arith)
      (expiry-stored g (entry_at x.entries p) d)

  -- a state and a fingerprint
  set-state-print : (h : Bool) (f : List ℕ) → length f ≡ print_size
      → sets (set (bytes x) (i + count_size g) (state_byte h)) (i + (count_size g + 3)) f
      ≡ bytes (with_entries (set x.entries p (print_as f (state_as h (entry_at x.entries p)))) x)
  unfolding with_entries entry_size
  set-state-print h f hf =
      let y = state_as h (entry_at x.entries p) in
      let es = set x.entries p y in
      let same : entry_at es p ≡ y = get_or-set_same x.entries p y free_entry (omega arith) in
      ap (λ (b : List ℕ). sets b (i + (count_size g + 3)) f)
      (set-entry x p (count_size g + 0) (i + count_size g) (state_byte h ∷ []) y hp hs (omega arith) (omega arith)
      (state-stored g (entry_at x.entries p) h))
      ∙ set-entry (with_entries es x) p (count_size g + 3) (i + (count_size g + 3)) f (print_as f y) hp (length-set x.entries p y ∙ hs)
      (omega arith) (omega arith) (rw same (print-stored g y f hf))
      ∙ ap (λ (l : List Entry). bytes (with_entries l x)) (set-set x.entries p y (print_as f y))

  pub set-held : (f : List ℕ) → length f ≡ print_size
      → sets (set (bytes x) (i + count_size g) 1) (i + (count_size g + 3)) f ≡ bytes (with_entry (held_as f) p x)
  unfolding held_as state_as print_as
  set-held f hf = set-state-print true f hf

  pub set-freed : sets (set (bytes x) (i + count_size g) 0) (i + (count_size g + 3)) (replicate print_size 0) ≡ bytes (with_entry made_free p x)
  unfolding made_free no_print state_as print_as
  set-freed = set-state-print false (replicate print_size 0) refl
