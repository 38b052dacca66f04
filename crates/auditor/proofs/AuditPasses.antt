-- Audit as its passes test it: the journal, the maps, the entries, the fingerprints. Where the counts are sound no current map names a
-- free block, and the kept backups are judged by their befores.
use Prim.Native.Nat.{ℕ, ◌≤◌, ◌<◌}
use mathlib.Core.Path.{◌≡◌, refl, sym, ◌∙◌}
use mathlib.Core.Logic.{◌⊎◌, inl, inr}
use mathlib.Core.Bool.{Bool, true, false, ◌&&◌, ◌||◌}
use mathlib.Core.List.{List, []}
use native.Mathlib.Omega.{arith}
use lib.Dec.{eqb}
use lib.ListN.{length, get_or, replicate}
use borrow.Author.Tests.{eqb-true, eq-eqb, not-true}
use Rattle.words.specs.Blocks.{unmapped}
use Rattle.words.proofs.ChoiceLaws.{and_assoc, and_false, and_yes, or_l, or_r, not_both}
use Rattle.words.proofs.Each.{each_at, all-each}
use Rattle.words.specs.Lists.{all, some_of, count_of, joined, up_from}
use Rattle.words.proofs.Places.{place-some, place-all, count_of-none, some_of-joined}
use Rattle.book.specs.Book.{Book, Sized, entry_at, cell_at}
use Rattle.book.specs.Layout.{book_of}
use Rattle.book.specs.FormFacts.{BookParts}
use Rattle.book.proofs.Conditions.{entry_in, cell_in}
use Rattle.book.specs.FormFacts.{FormFacts}
use Rattle.model.specs.Journal.{journal}
use Rattle.model.specs.Audit.{maps_sound, count_sound, expiry_sound, prints_sound, cell_sound, current_sound, backups_sound, audit}
use Rattle.model.specs.JournalAt.{taken_sound}
use Rattle.claims.proofs.kept.KeptBefores.{kept-befores}
use Rattle.replay.proofs.JournalRead.{journal_in}
use Rattle.auditor.proofs.MapsReplayed.{maps-replayed}
use Rattle.replay.specs.Table.{row_size, table_after, table_befores}
use Rattle.accounts.specs.TableMaps.{table_matches}
use Rattle.accounts.proofs.TableMapLaws.{table_size, table-sound}

-- the cells that the journal is replayed in
abbrev pub no_cells : List ℕ
no_cells = replicate table_size unmapped

unfoldable pub audit_passes : Book → Bool
audit_passes x =
    (table_befores no_cells (journal x) && all (taken_sound x) (journal x))
    && (table_matches x.maps x.sizes.l (table_after no_cells (journal x))
    && ((all (count_sound x) (up_from 0 x.sizes.n) && all (expiry_sound x) (up_from 0 x.sizes.n))
    && prints_sound x))

module _ (x : Book) (s : Sized x) (p : BookParts x) where
  -- a free block has count 0, so no cell names it
  named-held : all (count_sound x) (up_from 0 x.sizes.n) ≡ true → (v l : ℕ) → v < length x.maps → l < length (get_or x.maps v [])
      → cell_sound x (cell_at x.maps v l) ≡ true
  unfolding count_sound cell_sound
  named-held e v l hv hl = go (cell_in x p v l)
    where
      c : ℕ
      c = cell_at x.maps v l

      named : some_of (eqb c) (joined x.maps) ≡ true
      named =
          some_of-joined (eqb c) x.maps
          ∙ place-some (some_of (eqb c)) x.maps [] v hv (place-some (eqb c) (get_or x.maps v []) unmapped l hl (eq-eqb c c refl))

      counted : c < x.sizes.n → (entry_at x.entries c).count ≡ count_of (eqb c) (joined x.maps)
      counted h =
          eqb-true (entry_at x.entries c).count (count_of (eqb c) (joined x.maps))
          (each_at (count_sound x) 0 x.sizes.n (sym (all-each (count_sound x) x.sizes.n) ∙ e) c (omega arith) h)

      held : c < x.sizes.n → (t : Bool) → (entry_at x.entries c).held ≡ t → t ≡ true
      held h true f = refl
      held h false f =
          let zero : count_of (eqb c) (joined x.maps) ≡ 0 = sym (counted h) ∙ (entry_in x p c (omega (arith, s.entries))).count f in
          absurd (not_both (some_of (eqb c) (joined x.maps)) named
          (not-true (some_of (eqb c) (joined x.maps))
          (sym (count_of-none (eqb c) (joined x.maps)) ∙ eq-eqb (count_of (eqb c) (joined x.maps)) 0 zero)))

      go : (c < x.sizes.n) ⊎ (c ≡ unmapped) → (eqb c unmapped || (entry_at x.entries c).held) ≡ true
      go (inl h) = or_r (eqb c unmapped) (entry_at x.entries c).held (held h (entry_at x.entries c).held refl)
      go (inr h) = or_l (eqb c unmapped) (entry_at x.entries c).held (eq-eqb c unmapped h)

  pub counts-current : all (count_sound x) (up_from 0 x.sizes.n) ≡ true → current_sound x ≡ true
  unfolding current_sound
  counts-current e =
      place-all (all (cell_sound x)) x.maps []
      (λ v hv. place-all (cell_sound x) (get_or x.maps v []) unmapped (λ l hl. named-held e v l hv hl))

  -- the passes test the maps, the counts, the expiries, the fingerprints and the befores, in another order
  passes-parts : x.sizes.l ≤ row_size
      → audit_passes x
      ≡ (maps_sound x && (all (count_sound x) (up_from 0 x.sizes.n)
      && (all (expiry_sound x) (up_from 0 x.sizes.n) && (prints_sound x && all (taken_sound x) (journal x)))))
  unfolding audit_passes
  passes-parts small =
      order (table_befores no_cells (journal x)) (all (taken_sound x) (journal x))
      (table_matches x.maps x.sizes.l (table_after no_cells (journal x)))
      (all (count_sound x) (up_from 0 x.sizes.n)) (all (expiry_sound x) (up_from 0 x.sizes.n)) (prints_sound x)
      ∙ rw (table-sound x s small (journal_in x p s))
    where
      order : (b t m c e f : Bool) → ((b && t) && (m && ((c && e) && f))) ≡ ((b && m) && (c && (e && (f && t))))
      order false t m c e f = refl
      order true true m c e f = rw (and_assoc c e f, and_yes f)
      order true false m c e f = rw (and_false f, and_false e, and_false c, and_false m)

  audit-passes : x.sizes.l ≤ row_size → audit_passes x ≡ audit x
  unfolding audit
  audit-passes small =
      passes-parts small ∙ go (maps_sound x) refl (all (count_sound x) (up_from 0 x.sizes.n)) refl
    where
      expiries : Bool
      expiries = all (expiry_sound x) (up_from 0 x.sizes.n)

      last : (a b c d : Bool) → c ≡ true → (a && (b && d)) ≡ (((a && b) && c) && d)
      last false b c d e = refl
      last true b c d e = rw (e, and_yes b)

      go : (m : Bool) → maps_sound x ≡ m → (c : Bool) → all (count_sound x) (up_from 0 x.sizes.n) ≡ c
          → (m && (c && (expiries && (prints_sound x && all (taken_sound x) (journal x)))))
          ≡ (((((m && c) && expiries) && prints_sound x) && current_sound x) && backups_sound x)
      go false e c f = refl
      go true e false f = refl
      go true e true f =
          let now = counts-current f in
          rw (kept-befores x (maps-replayed x s p e) now) (last expiries (prints_sound x) (current_sound x) (backups_sound x) now)

pub formed-audit : {b : List ℕ} → FormFacts b → audit (book_of b) ≡ audit_passes (book_of b)
formed-audit {b} f = sym (audit-passes (book_of b) f.holds.sized f.parts f.holds.l)
