-- The bytes of a fresh book: runs of zeros and of 255, with layout and sizes at the head.
use mathlib.Core.Path.{◌≡◌, refl, sym, ap, ◌∙◌}
use mathlib.Core.Bool.{Bool, true, false}
use mathlib.Core.List.{List, [], ◌∷◌, ◌++◌, append-nil}
use Prim.Native.Nat.{ℕ, ◌+◌, ◌*◌}
use lib.Dec.{eqb}
use lib.ListN.{replicate, length-replicate, replicate-append-replicate}
use lib.Seq.{sets}
use Rattle.words.specs.Blocks.{unmapped}
use Rattle.words.specs.Choice.{when◌then◌else◌}
use Rattle.words.specs.Lists.{joined}
use Rattle.words.specs.Numbers.{two}
use Rattle.words.proofs.Filling.{fit_none, flat-run}
use Rattle.words.specs.Sections.{flat, fit}
use Rattle.words.proofs.SectionLaws.{fit_all}
use Rattle.book.specs.Book.{volumes, Sizes, Entry, Slot, Rec, no_print, free_entry, no_slot, no_rec}
use Rattle.book.specs.Layout.{entry_size, slot_size, rec_size, entries_from, maps_from, entry_bytes, map_bytes, slot_bytes}
use Rattle.book.specs.Layout.{rec_bytes, header_words, bytes, Is}
use Rattle.book.specs.Next.{fresh}
use Rattle.book.specs.FormFacts.{Bounds}
use Rattle.book.proofs.Sizing.{sized_fresh}
use Rattle.book.proofs.Holding.{is-bytes}

abbrev pub zeros : ℕ → List ℕ
zeros n = replicate n 0

entry_zero : (g : ℕ) → entry_bytes g free_entry ≡ zeros (entry_size g)
unfolding free_entry no_print entry_size
entry_zero g = go (eqb g 1)
  where
    go : (t : Bool) → (when t then 0 ∷ [] else two 0) ++ zeros 19 ≡ zeros ((when t then 1 else 2) + 19)
    go true = refl
    go false = refl

pub slot-zero : slot_bytes no_slot ≡ zeros slot_size
unfolding no_slot
slot-zero = refl

pub rec_zero : rec_bytes no_rec ≡ zeros rec_size
unfolding no_rec
rec_zero = refl

map-unmapped : (l : ℕ) → map_bytes l (replicate l unmapped) ≡ replicate (l * 2) 255
map-unmapped l =
    ap (λ (m : List ℕ). flat two m) (fit_all unmapped l (replicate l unmapped) (length-replicate l unmapped))
    ∙ flat-run l 2 255 two unmapped refl

module _ (z : Sizes) where
  abbrev g : ℕ
  g = z.layout

  entries-zero : flat (entry_bytes g) (fit free_entry z.n (replicate z.n free_entry)) ≡ zeros (z.n * entry_size g)
  entries-zero =
      ap (λ (es : List Entry). flat (entry_bytes g) es)
      (fit_all free_entry z.n (replicate z.n free_entry) (length-replicate z.n free_entry))
      ∙ flat-run z.n (entry_size g) 0 (entry_bytes g) free_entry (entry_zero g)

  maps-unmapped : flat (map_bytes z.l) (fit [] volumes (replicate volumes (replicate z.l unmapped)))
      ≡ replicate (volumes * (z.l * 2)) 255
  maps-unmapped = flat-run volumes (z.l * 2) 255 (map_bytes z.l) (replicate z.l unmapped) (map-unmapped z.l)

  slots-zero : flat slot_bytes (fit no_slot z.s []) ≡ zeros (z.s * slot_size)
  slots-zero = ap (λ (ts : List Slot). flat slot_bytes ts) (fit_none no_slot z.s) ∙ flat-run z.s slot_size 0 slot_bytes no_slot slot-zero

  records-zero : flat rec_bytes (fit no_rec z.j []) ≡ zeros (z.j * rec_size)
  records-zero = ap (λ (rs : List Rec). flat rec_bytes rs) (fit_none no_rec z.j) ∙ flat-run z.j rec_size 0 rec_bytes no_rec rec_zero

  -- zeros to the maps, 255 to the slots and zeros to the end, and then the layout number and the sizes
  pub bytes-fresh : sets
      (zeros (maps_from z) ++ (replicate (volumes * (z.l * 2)) 255 ++ zeros (z.s * slot_size + z.j * rec_size)))
      0
      (flat two (z.layout ∷ z.n ∷ z.l ∷ z.s ∷ z.j ∷ []))
      ≡ bytes (fresh z)
  unfolding bytes fresh
  bytes-fresh =
      let low : zeros (maps_from z) ≡ zeros entries_from ++ zeros (z.n * entry_size g) =
      sym (replicate-append-replicate entries_from (z.n * entry_size g) 0) in
      let high : zeros (z.s * slot_size + z.j * rec_size) ≡ zeros (z.s * slot_size) ++ (zeros (z.j * rec_size) ++ []) =
      sym (replicate-append-replicate (z.s * slot_size) (z.j * rec_size) 0)
      ∙ ap (λ (r : List ℕ). zeros (z.s * slot_size) ++ r) (sym (append-nil (zeros (z.j * rec_size))))
      in
      (λ i. sets (low i ++ (replicate (volumes * (z.l * 2)) 255 ++ high i)) 0 (flat two (z.layout ∷ z.n ∷ z.l ∷ z.s ∷ z.j ∷ [])))
      ∙ sym (λ i. joined
      (flat two (header_words (fresh z)) ∷ flat two (zeros volumes) ∷ entries-zero i ∷ maps-unmapped i ∷ slots-zero i ∷ records-zero i ∷ []))

-- what a format leaves, whatever stood there before
pub is-fresh : {b₁ b₂ : List ℕ} (z : Sizes) → Bounds z
    → b₁ ≡ zeros (maps_from z) ++ (replicate (volumes * (z.l * 2)) 255 ++ zeros (z.s * slot_size + z.j * rec_size))
    → b₂ ≡ sets b₁ 0 (flat two (z.layout ∷ z.n ∷ z.l ∷ z.s ∷ z.j ∷ []))
    → Is b₂ (fresh z)
unfolding fresh
is-fresh z h e₁ e₂ =
    is-bytes (fresh z) (sized_fresh z) h
    (e₂ ∙ ap (λ (l : List ℕ). sets l 0 (flat two (z.layout ∷ z.n ∷ z.l ∷ z.s ∷ z.j ∷ []))) e₁ ∙ bytes-fresh z)
