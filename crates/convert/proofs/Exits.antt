-- Numbers 1, 2 and 4 with the length, what a converter leaves on each way out, and the test of number 22.
use Prim.Native.Nat.{ℕ, zero, suc, ◌≤◌, ◌<◌}
use mathlib.Core.Path.{◌≡◌, refl, sym, ap, ◌∙◌}
use mathlib.Core.Bool.{Bool, true, false}
use mathlib.Core.List.{List}
use native.Mathlib.Omega.{arith}
use lib.Dec.{ltb}
use lib.ListN.{length}
use lib.Seq.{sets}
use borrow.Author.Tests.{lt-ltb, le-ltb, ltb-false}
use Rattle.words.proofs.Accepted.{refused_not, accepted-same, unless-accepted}
use Rattle.words.proofs.Refused.{unless-refusal}
use Rattle.words.proofs.Each.{each_same, tab-each}
use Rattle.words.proofs.LayingLaws.{sets-front}
use Rattle.words.proofs.SectionLaws.{get_or-tab}
use Rattle.words.specs.Choice.{when◌then◌else◌}
use Rattle.words.specs.Refusals.{number}
use Rattle.words.specs.declared.refusals.Refusal.{Refusal}
use Rattle.words.specs.Lists.{all, each}
use Rattle.words.specs.Numbers.{num}
use Rattle.words.specs.Outcome.{Outcome, refused, accepted, unless}
use Rattle.book.proofs.Bytes.{length-bytes}
use Rattle.book.specs.Book.{Sizes, Book, free_entry, entry_at}
use Rattle.book.specs.Form.{form_as}
use Rattle.book.specs.Layout.{n_offset, book_size, bytes, sizes_of, entry_of, book_of}
use Rattle.book.specs.Next.{sizes_in, with_layout}
use Rattle.claims.proofs.views.WrittenLaws.{written-refused, written-past}
use Rattle.model.specs.OnBytes.{number_of}
use Rattle.model.specs.Convert.{room_number, converted, is_narrow, narrow_number}
use Rattle.model.specs.Written.{Written}
use Rattle.convert.specs.Promises.{size_or_number}

-- ---- numbers 1, 2 and 4, and the length

four_zero : (t : Bool) → ◌≡◌ {A = ℕ} (when t then 4 else 0) 0 → t ≡ false
four_zero true e = absurd (omega arith)
four_zero false e = refl

-- what an accepted length says
pub record SizeFacts (from to : ℕ) (b : List ℕ) (most len : ℕ) : Type 0 where
  pub form : form_as from b ≡ 0
  pub roomy : room_number to b most ≡ 0
  pub size : len ≡ book_size (sizes_in to (sizes_of b))
  pub room : len ≤ most

module _ (from to : ℕ) (b : List ℕ) (room : ℕ) where
  abbrev size : ℕ
  size = book_size (sizes_in to (sizes_of b))

  pub size-refused : (e : Refusal) → number e ≡ form_as from b → refused (number e) ≡ size_or_number from to b room
  unfolding size_or_number
  size-refused e h = sym (unless-refusal e (unless (room_number to b room) (accepted size)) h)

  module _ (e : form_as from b ≡ 0) where
    pub size_short : room < book_size (sizes_in to (sizes_of b)) → refused 4 ≡ size_or_number from to b room
    unfolding size_or_number room_number
    size_short h = rw (e, lt-ltb room size h)

    pub size_told : book_size (sizes_in to (sizes_of b)) ≤ room
        → accepted (book_size (sizes_in to (sizes_of b))) ≡ size_or_number from to b room
    unfolding size_or_number room_number
    size_told h = rw (e, le-ltb room size h)

  pub size-facts : {len : ℕ} → accepted len ≡ size_or_number from to b room → SizeFacts from to b room len
  unfolding size_or_number room_number
  size-facts {len} e =
      let f = unless-accepted (form_as from b) (unless (room_number to b room) (accepted size)) len (sym e) in
      let g = unless-accepted (room_number to b room) (accepted size) len f.1 in
      let s = accepted-same size len g.1 in
      let h = ltb-false room size (four_zero (ltb room size) g.0) in
      record { form = f.0; roomy = g.0; size = sym s; room = omega arith }

-- a refusal among them is the call's, whatever comes after
stopped : (j k : ℕ) (o : Outcome (List ℕ)) (out : List ℕ) (m s : ℕ) → refused m ≡ unless j (unless k (accepted s))
    → Written (unless j (unless k o)) out m out
stopped zero zero o out m s e = absurd (refused_not m s e)
stopped zero (suc k) o out m s e = record { number = ap number_of e; output = refl }
stopped (suc j) k o out m s e = record { number = ap number_of e; output = refl }

-- ---- the ways out

module _ (from to : ℕ) (asks : Book → ℕ) (f : Book → Book) (b out : List ℕ) where
  abbrev written : Outcome (List ℕ)
  written = accepted (bytes (with_layout to (f (book_of b))))

  abbrev conversion : Outcome (List ℕ)
  conversion = converted from to asks f b (length out)

  long : (f (book_of b)).sizes ≡ (book_of b).sizes → length (bytes (with_layout to (f (book_of b)))) ≡ book_size (sizes_in to (sizes_of b))
  unfolding with_layout book_of
  long e = length-bytes (with_layout to (f (book_of b))) ∙ ap (λ (z : Sizes). book_size (sizes_in to z)) e

  pub not_sized : (e : Refusal) → refused (number e) ≡ size_or_number from to b (length out) → Written conversion out (number e) out
  unfolding converted size_or_number
  not_sized e h =
      stopped (form_as from b) (room_number to b (length out)) (unless (asks (book_of b)) written) out (number e)
      (book_size (sizes_in to (sizes_of b))) h

  module _ {len : ℕ} (e₀ : accepted len ≡ size_or_number from to b (length out)) where
    past : {r : ℕ} {out' : List ℕ} → Written (unless (asks (book_of b)) written) out r out' → Written conversion out r out'
    unfolding converted
    past w =
        let s = size-facts from to b (length out) e₀ in
        written-past (unless (room_number to b (length out)) (unless (asks (book_of b)) written)) s.form
        (written-past (unless (asks (book_of b)) written) s.roomy w)

    pub asked : {r : ℕ} → r ≡ asks (book_of b) → (r ≡ 0 → ⊥) → Written conversion out r out
    asked e n = past (written-refused (asks (book_of b)) written out e n)

    pub done : {out' : List ℕ} → (f (book_of b)).sizes ≡ (book_of b).sizes → asks (book_of b) ≡ 0
        → out' ≡ sets out 0 (bytes (with_layout to (f (book_of b)))) → Written conversion out 0 out'
    done s z e =
        let c = bytes (with_layout to (f (book_of b))) in
        let k = size-facts from to b (length out) e₀ in
        past (written-past written z (record { number = refl; output = e ∙ sets-front c out (omega (arith, long s, k.size, k.room)) }))

-- ---- 22

-- the entries' test, entry by entry
pub narrow-each : (b : List ℕ)
    → each (λ p. is_narrow (entry_at (book_of b).entries p)) 0 (book_of b).sizes.n ≡ all is_narrow (book_of b).entries
unfolding book_of
narrow-each b =
    each_same (λ p. is_narrow (entry_at (book_of b).entries p)) (λ p. is_narrow (entry_of b p)) 0 (num b n_offset)
    (λ p lo hi. ap is_narrow (get_or-tab (num b n_offset) (entry_of b) p free_entry hi))
    ∙ sym (tab-each is_narrow (num b n_offset) (entry_of b))

module _ (x : Book) where
  pub too_wide : all is_narrow x.entries ≡ false → 22 ≡ narrow_number x
  unfolding narrow_number
  too_wide e = rw e

  pub narrow_enough : all is_narrow x.entries ≡ true → narrow_number x ≡ 0
  unfolding narrow_number
  narrow_enough e = rw e
