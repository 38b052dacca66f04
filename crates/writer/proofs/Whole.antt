-- The whole call: what an accepted input gives, and the sections that make the list.
use Prim.Native.Nat.{ℕ, ◌+◌, ◌*◌, ◌≤◌, ◌<◌}
use mathlib.Core.Path.{◌≡◌, refl, ap, ◌∙◌}
use mathlib.Core.Bool.{Bool, true, false, ◌&&◌}
use mathlib.Core.List.{List, ◌++◌}
use native.Mathlib.Omega.{arith}
use lib.Dec.{leb, eqb}
use lib.ListN.{length}
use lib.Seq.{sets}
use borrow.Author.Tests.{leb-true, eqb-true, lt-ltb, le-ltb}
use Rattle.words.proofs.ChoiceLaws.{and_true}
use Rattle.words.specs.Lent.{Lent}
use Rattle.words.specs.Lists.{all}
use Rattle.words.specs.Numbers.{two, put}
use Rattle.words.proofs.Filling.{put-sets}
use Rattle.words.specs.Laying.{Stored}
use Rattle.words.proofs.LayingLaws.{Left, left-all, left-room, left-more, sets-front}
use Rattle.words.specs.Blocks.{block_size, print_size}
use Rattle.runs.specs.Writer.{marked_pairs, marked_list, input_ok, write_number, output_after, list_of}
use Rattle.marks.specs.Passes.{pairs_of}
use Rattle.std.specs.Prelude.{Ok, Err}
use Rattle.words.specs.declared.refusals.Refusal.TheVariants.{BadInput, ShortOutput}
use Rattle.writer.specs.Elements.{marked_elements, Room}
use Rattle.writer.specs.Promises.{Writes}
use Rattle.writer.proofs.Lengths.{list-sections}

-- an input that is not refused holds L elements of each kind
pub record Fit (ms ps bs : List ℕ) : Type 0 where
  pub most : length ms ≤ 1024
  pub prints : length ps ≡ length ms * print_size
  pub image : length bs ≡ length ms * block_size

pub input_fits : (L : ℕ) (marks prints image : List ℕ) → input_ok L marks prints image ≡ true → Fit marks prints image
unfolding input_ok
input_fits L marks prints image e =
    let range = leb 1 L && leb L 1024 in
    let m = eqb (length marks) L in
    let p = eqb (length prints) (L * print_size) in
    let b = eqb (length image) (L * block_size) in
    let h = (and_true (range && m && p && b) (all (λ k. leb k 1) marks) e).0 in
    let hb = and_true (range && m && p) b h in
    let hp = and_true (range && m) p hb.0 in
    let hm = and_true range m hp.0 in
    let n = eqb-true (length marks) L hm.1 in
    record {
      most = omega (arith, n, leb-true L 1024 (and_true (leb 1 L) (leb L 1024) hm.0).1);
      prints = omega (arith, n, eqb-true (length prints) (L * print_size) hp.1);
      image = omega (arith, n, eqb-true (length image) (L * block_size) hb.1);
    }

-- ---- the list's sections, stored one after the other: E, pairs, fingerprints, blocks

module _ (marks prints image : List ℕ) where
  abbrev change_sections : List ℕ
  change_sections = marked_elements print_size prints 0 marks ++ marked_elements block_size image 0 marks

  -- what is left to store where the output held `out` at first and holds o now: after E, after the pairs, after the fingerprints
  module _ (out o : List ℕ) (at : ℕ) where
    abbrev pub AfterNumber : Type 0
    AfterNumber = Left out 0 (marked_list marks prints image) o at (pairs_of marks ++ change_sections)

    abbrev pub AfterPairs : Type 0
    AfterPairs = Left out 0 (marked_list marks prints image) o at change_sections

    abbrev pub AfterPrints : Type 0
    AfterPrints = Left out 0 (marked_list marks prints image) o at (marked_elements block_size image 0 marks)

module _ {out : List ℕ} {E : ℕ} {marks prints image : List ℕ} (r : Room out E marks prints image) where
  all_left : Left out 0 (marked_list marks prints image) out 0 (marked_list marks prints image)
  all_left = left-all (omega (arith, r.size))

  pub number-room : 2 ≤ length out
  number-room =
      left-room all_left (two (length (marked_pairs marks))) (pairs_of marks ++ change_sections marks prints image)
      (list-sections prints image marks)

  pub number-stored : {o : List ℕ} → o ≡ put out 0 E → AfterNumber marks prints image out o 2
  number-stored e =
      left-more all_left (two (length (marked_pairs marks))) (pairs_of marks ++ change_sections marks prints image)
      (list-sections prints image marks)
      (record { list = e ∙ put-sets out 0 E ∙ ap (λ (n : ℕ). sets out 0 (two n)) r.runs; place = refl })

  module _ {o : List ℕ} {at : ℕ} (l : AfterNumber marks prints image out o at) where
    pub pairs-room : at + length (pairs_of marks) ≤ length o
    pairs-room = left-room l (pairs_of marks) (change_sections marks prints image) refl

    pub pairs-stored : {o' : List ℕ} {at' : ℕ} → Stored o at (pairs_of marks) o' at' → AfterPairs marks prints image out o' at'
    pairs-stored s = left-more l (pairs_of marks) (change_sections marks prints image) refl s

  module _ {o : List ℕ} {at : ℕ} (l : AfterPairs marks prints image out o at) where
    pub prints-room : at + length (marked_elements print_size prints 0 marks) ≤ length o
    prints-room = left-room l (marked_elements print_size prints 0 marks) (marked_elements block_size image 0 marks) refl

    pub prints-stored : {o' : List ℕ} {at' : ℕ} → Stored o at (marked_elements print_size prints 0 marks) o' at'
        → AfterPrints marks prints image out o' at'
    prints-stored s = left-more l (marked_elements print_size prints 0 marks) (marked_elements block_size image 0 marks) refl s

-- ---- the three ways out of a call

module _ (L : ℕ) (marks prints image out : Lent (List ℕ)) where
  abbrev before : List ℕ
  before = out.entry.now

  abbrev list : List ℕ
  list = list_of marks prints image

  abbrev ok : Bool
  ok = input_ok L marks.entry.now prints.entry.now image.entry.now

  module _ (same : out.exit.now ≡ before) where
    pub wrote_none : ok ≡ false → Writes L marks prints image out (Err BadInput)
    unfolding write_number output_after
    wrote_none e = record { number = rw e refl; length = tt; output = same }

    pub wrote-short : ok ≡ true → length before < length list → Writes L marks prints image out (Err ShortOutput)
    unfolding write_number output_after
    wrote-short e h = record { number = rw (e, lt-ltb (length before) (length list) h) refl; length = tt; output = same }

  pub wrote-list : ok ≡ true → length list ≤ length before → out.exit.now ≡ sets before 0 list → {n : ℕ} → n ≡ length list
      → Writes L marks prints image out (Ok n)
  unfolding write_number output_after
  wrote-list e h s a = record {
    number = rw (e, le-ltb (length before) (length list) h) refl;
    length = (a, omega arith);
    output = s ∙ sets-front list before h;
  }
