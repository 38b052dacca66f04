-- The ways out of a call that writes an output (model/specs/Written.antt).
use Prim.Native.Nat.{ℕ, zero, suc, ◌≤◌, ◌<◌}
use mathlib.Core.Path.{◌≡◌, refl, ◌∙◌}
use mathlib.Core.List.{List}
use lib.ListN.{length}
use lib.Seq.{sets}
use borrow.Author.Tests.{lt-ltb, le-ltb}
use Rattle.words.proofs.LayingLaws.{sets-front}
use Rattle.words.specs.Outcome.{Outcome, unless}
use Rattle.model.specs.Views.{output_number, with_room}
use Rattle.model.specs.Written.{Written}

-- ---- a number refuses, or is passed

pub written-refused : (k : ℕ) (o : Outcome (List ℕ)) (out : List ℕ) {r : ℕ} → r ≡ k → (r ≡ 0 → ⊥) → Written (unless k o) out r out
written-refused zero o out e n = absurd (n e)
written-refused (suc k) o out e n = record { number = e; output = refl }

pub written-past : {k : ℕ} (o : Outcome (List ℕ)) {out out' : List ℕ} {r : ℕ} → k ≡ 0 → Written o out r out'
    → Written (unless k o) out r out'
written-past o e w = rw e w

-- ---- the output has no room, or is written from its front

pub written-short : (c out : List ℕ) → length out < length c → Written (with_room c (length out)) out 20 out
unfolding with_room output_number
written-short c out h = rw (lt-ltb (length out) (length c) h) (record { number = refl; output = refl })

pub written-whole : (c out : List ℕ) {out' : List ℕ} → length c ≤ length out → out' ≡ sets out 0 c
    → Written (with_room c (length out)) out 0 out'
unfolding with_room output_number
written-whole c out h e = rw (le-ltb (length out) (length c) h) (record { number = refl; output = e ∙ sets-front c out h })
