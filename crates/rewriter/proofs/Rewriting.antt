-- A book in another layout, from what the four stores left.
use Prim.Native.Nat.{ℕ, ◌+◌, ◌-◌, ◌*◌, ◌≤◌}
use mathlib.Core.Path.{◌≡◌, refl, sym, ap, ◌∙◌}
use mathlib.Core.List.{List, ◌++◌, append_assoc}
use native.Mathlib.Omega.{arith}
use lib.ListN.{length, drop, length-append}
use lib.Seq.{sets}
use Rattle.words.proofs.Filling.{put-sets}
use Rattle.words.proofs.LayingLaws.{sets-next}
use Rattle.words.specs.Laying.{Stored}
use Rattle.words.specs.Numbers.{two, put}
use Rattle.words.specs.Sections.{flat, part}
use Rattle.book.proofs.Split.{middle, tail, bytes-split, middle_long, entries-size, middle_part, tail-part}
use Rattle.book.specs.Book.{Book}
use Rattle.book.specs.FormFacts.{FormFactsAs}
use Rattle.book.specs.Layout.{entry_size, entries_from, entry_bytes, book_size, bytes, book_of}
use Rattle.book.specs.Next.{sizes_in, with_layout}
use Rattle.claims.proofs.form.ConvertFit.{layout-sized}

module _ (g to : ℕ) (b : List ℕ) (f : FormFactsAs g b) where
  abbrev x : Book
  x = book_of b

  pub entries-room : (room : ℕ) → book_size (sizes_in to x.sizes) ≤ room → entries_from + length (flat (entry_bytes to) x.entries) ≤ room
  entries-room room h = omega (arith, h, entries-size x f.holds.sized to)

  -- where the entries of the book end, what follows them is its last piece
  module _ {n k rest : ℕ} (en : n ≡ x.sizes.n) (ek : k ≡ n * entry_size g) (er : rest ≡ entries_from + k) where
    same_product : n * entry_size g ≡ x.sizes.n * entry_size x.sizes.layout
    same_product = (λ i. en i * entry_size (sym f.layout i))

    pub rest-inside : rest ≤ length b
    rest-inside = omega (arith, f.holds.len, same_product, ek, er)

    pub last-room : (room at : ℕ) → book_size (sizes_in to x.sizes) ≤ room
        → at ≡ entries_from + length (flat (entry_bytes to) x.entries) → at + (length b - rest) ≤ room
    last-room room at h ea = omega (arith, h, ea, entries-size x f.holds.sized to, f.holds.len, same_product, ek, er)

    pub rewritten : (out : List ℕ) {o₁ o₂ o₃ o₄ m t : List ℕ} {at : ℕ} → o₁ ≡ put out 0 to → m ≡ part b 2 34 → o₂ ≡ sets o₁ 2 m
        → Stored o₂ entries_from (flat (entry_bytes to) x.entries) o₃ at → t ≡ drop rest b → o₄ ≡ sets o₃ at t
        → o₄ ≡ sets out 0 (bytes (with_layout to x))
    unfolding with_layout
    rewritten out {o₁} {o₂} {o₃} {o₄} {m} {t} {at} e₁ em e₂ e₃ et e₄ =
        let s = f.holds.sized in
        let es = flat (entry_bytes to) x.entries in
        let two_to = two to in
        let m' : m ≡ middle x = em ∙ middle_part g b f.holds f.layout in
        let t' : t ≡ tail x = et ∙ tail-part g b f.holds f.layout rest (omega (arith, er, ek, ap (λ (c : ℕ). c * entry_size g) en)) in
        let front : o₂ ≡ sets out 0 (two_to ++ middle x) =
        e₂ ∙ (λ i. sets ((e₁ ∙ put-sets out 0 to) i) 2 (m' i)) ∙ sets-next two_to (middle x) out 0 2 refl in
        let entries : o₃ ≡ sets out 0 ((two_to ++ middle x) ++ es) =
        e₃.list ∙ ap (λ (o : List ℕ). sets o entries_from es) front
        ∙ sets-next (two_to ++ middle x) es out 0 entries_from (omega (arith, middle_long x s)) in
        e₄ ∙ (λ i. sets (entries i) at (t' i))
        ∙ sets-next ((two_to ++ middle x) ++ es) (tail x) out 0 at
        (omega (arith, e₃.place, middle_long x s, length-append (two_to ++ middle x) es))
        ∙ ap (λ (l : List ℕ). sets out 0 l) (assoc ∙ sym (bytes-split (with_layout to x) (layout-sized to x s)))
      where
        assoc : ((two to ++ middle x) ++ flat (entry_bytes to) x.entries) ++ tail x
            ≡ two to ++ (middle x ++ (flat (entry_bytes to) x.entries ++ tail x))
        assoc =
            ap (λ (l : List ℕ). l ++ tail x) (append_assoc (two to) (middle x) (flat (entry_bytes to) x.entries))
            ∙ append_assoc (two to) (middle x ++ flat (entry_bytes to) x.entries) (tail x)
            ∙ ap (λ (l : List ℕ). two to ++ l) (append_assoc (middle x) (flat (entry_bytes to) x.entries) (tail x))
