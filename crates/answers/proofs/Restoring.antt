-- A restore into a part of the answers: what stands there after it, and its answer.
use Prim.Native.Nat.{ℕ, ◌+◌, ◌-◌, ◌*◌, ◌≤◌}
use mathlib.Core.Path.{◌≡◌, refl, sym, ap, ◌∙◌}
use mathlib.Core.List.{List, ◌∷◌, ◌++◌, append-nil}
use native.Mathlib.Omega.{arith}
use lib.ListN.{length, take, drop}
use lib.Seq.{sets, drop-length}
use Rattle.words.proofs.PartStores.{part_same, part-stored, sets-joined-before}
use Rattle.words.specs.Blocks.{block_size}
use Rattle.words.specs.Laying.{Stored}
use Rattle.words.specs.Numbers.{two}
use Rattle.words.specs.Outcome.{Outcome, refused, accepted}
use Rattle.model.specs.Calls.{number}
use Rattle.model.specs.OnBytes.{number_of, restore_bytes}
use Rattle.model.specs.Views.{output_after}
use Rattle.model.specs.Written.{Written}
use Rattle.calls.specs.Asked.{restore, answer, run, restore_reply, reply_to, next_after}
use Rattle.calls.specs.Promises.{at}
use Rattle.calls.specs.Doing.{Did}
use Rattle.claims.proofs.form.Proper.{Proper, not_refused}
use Rattle.calls.proofs.Proper.{restore_proper}
use Rattle.answers.proofs.Blocks.{restore-whole}

module _ (spare : ℕ) (b pool : List ℕ) (v k first many : ℕ) (part part' : List ℕ) (n : ℕ) (size : length part ≡ many * block_size)
    (e : Written (restore_bytes b pool v k first many (length part)) part n part') where
  abbrev outcome : Outcome (List ℕ)
  outcome = restore_bytes b pool v k first many (many * block_size)

  restored : Written outcome part n part'
  restored = rw size at e

  refused-reply : (n ≡ 0 → ⊥) → (part' ≡ part) × (reply_to spare (at b pool) (restore v k first many) ≡ answer (number n))
  unfolding reply_to restore_reply
  refused-reply h = go outcome restored.number restored.output
    where
      go : (x : Outcome (List ℕ)) → n ≡ number_of x → part' ≡ output_after x part → (part' ≡ part) × (restore_reply many x ≡ answer (number n))
      go (refused j) m q = (q, ap (λ (i : ℕ). answer (number i)) (sym m))
      go (accepted c) m q = absurd (h m)

  done-reply : n ≡ 0 → reply_to spare (at b pool) (restore v k first many) ≡ run many part'
  unfolding reply_to restore_reply
  done-reply z = go outcome refl (restore_proper b pool v k first many (many * block_size)) restored.number restored.output
    where
      go : (x : Outcome (List ℕ)) → outcome ≡ x → Proper x → n ≡ number_of x → part' ≡ output_after x part
          → restore_reply many x ≡ run many part'
      go (refused j) f p m q = absurd (not_refused j p (sym m ∙ z))
      go (accepted c) f p m q =
          let long = restore-whole b pool v k first many (many * block_size) c f in
          let same : length c ≡ length part = omega arith in
          ap (run many)
          (sym (q ∙ ap (λ (r : List ℕ). c ++ r) (ap (λ (i : ℕ). drop i part) same ∙ drop-length part) ∙ append-nil c))

  module _ (out : List ℕ) (to : ℕ) (inside : to + 3 + many * block_size ≤ length out)
      (lent : part ≡ take (to + 3 + many * block_size - (to + 3)) (drop (to + 3) out)) where
    abbrev end : ℕ
    end = to + 3 + many * block_size

    -- the answers with the part back in its place
    abbrev back : List ℕ
    back = take (to + 3) out ++ (part' ++ drop (end - (to + 3)) (drop (to + 3) out))

    pub restore-refused : {out' : List ℕ} {r : ℕ} → (n ≡ 0 → ⊥) → Stored back to (0 ∷ two n) out' r
        → Did spare b pool (restore v k first many) out to b pool out' r
    unfolding next_after
    restore-refused h s =
        let w = refused-reply h in
        let same = part_same out (to + 3) end (omega arith) inside part' (w.0 ∙ lent) in
        record { next = refl; answer = rw w.1 (rw same at s) }

    pub restore-done : {out' : List ℕ} {r tag : ℕ} → n ≡ 0 → length part' ≡ length part → Stored back to (tag ∷ two many) out' r → tag ≡ 5
        → Did spare b pool (restore v k first many) out to b pool out' end
    unfolding next_after
    restore-done {tag = tag} z same s run_tag =
        let stored = part-stored out (to + 3) end (omega arith) inside part' (omega arith) in
        record {
          next = refl;
          answer = rw (done-reply z, ← run_tag) (record {
            list = s.list ∙ ap (λ (x : List ℕ). sets x to (tag ∷ two many)) stored
                ∙ sets-joined-before (tag ∷ two many) part' out to (to + 3) refl;
            place = omega arith;
          });
        }
