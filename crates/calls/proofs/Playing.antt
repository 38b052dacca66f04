-- A list of calls that is being played: what is left of it, from where book and pool stand.
use Prim.Native.Nat.{ℕ, ◌+◌, ◌≤◌}
use mathlib.Core.Path.{◌≡◌, refl, ap, ap₂, ◌∙◌}
use mathlib.Core.List.{List, [], ◌∷◌}
use native.Mathlib.Nat.{zero-add}
use native.Mathlib.Omega.{arith}
use lib.ListN.{length, length-append}
use lib.Seq.{sets}
use Rattle.words.proofs.LayingLaws.{sets_append, sets-front}
use Rattle.model.specs.Sides.{Ours}
use Rattle.calls.specs.Asked.{Asked, reply_to, next_after, left_by}
use Rattle.calls.specs.Answers.{reply_bytes, most_of}
use Rattle.calls.specs.Promises.{at, answered}
use Rattle.calls.specs.Doing.{Did, DidAll}
use Rattle.calls.proofs.Short.{answers-short}

-- cs is being played from b₀, pool₀ and out₀; rest is left, from b, pool and the offset `to` of out
pub record Playing (spare : ℕ) (b₀ pool₀ : List ℕ) (cs : List Asked) (out₀ b pool out : List ℕ) (to : ℕ) (rest : List Asked) : Type 0 where
  pub end : left_by spare (at b pool) rest ≡ left_by spare (at b₀ pool₀) cs
  pub answers : sets out to (answered spare (at b pool) rest) ≡ sets out₀ 0 (answered spare (at b₀ pool₀) cs)
  pub reach : to + length (answered spare (at b pool) rest) ≡ length (answered spare (at b₀ pool₀) cs)

module _ {spare : ℕ} {b₀ pool₀ : List ℕ} {cs : List Asked} {out₀ : List ℕ} where
  pub playing_all : Playing spare b₀ pool₀ cs out₀ b₀ pool₀ out₀ 0 cs
  playing_all = record { end = refl; answers = refl; reach = zero-add _ }

  pub playing_none : {b pool out : List ℕ} {to : ℕ} → Playing spare b₀ pool₀ cs out₀ b pool out to [] → most_of cs ≤ length out₀
      → DidAll spare b₀ pool₀ cs out₀ b pool out to
  playing_none p h =
      let short = answers-short spare (at b₀ pool₀) cs in
      record {
        end = p.end;
        answers = p.answers ∙ sets-front (answered spare (at b₀ pool₀) cs) out₀ (omega arith);
        written = omega (arith, p.reach);
      }

  pub playing_more : {b pool out b' pool' out' : List ℕ} {to r : ℕ} (c : Asked) (rest : List Asked)
      → Playing spare b₀ pool₀ cs out₀ b pool out to (c ∷ rest)
      → Did spare b pool c out to b' pool' out' r → Playing spare b₀ pool₀ cs out₀ b' pool' out' r rest
  playing_more {b} {pool} {out} {b'} {pool'} {out'} {to} {r} c rest p d =
      let same : answered spare (at b' pool') rest ≡ answered spare (next_after spare (at b pool) c) rest =
      ap (λ (o : Ours). answered spare o rest) d.next
      in
      record {
        end = ap (λ (o : Ours). left_by spare o rest) d.next ∙ p.end;
        answers =
            ap (λ (x : List ℕ). sets out' r x) same
            ∙ ap₂ (λ (o : List ℕ) (k : ℕ). sets o k (answered spare (next_after spare (at b pool) c) rest))
            d.answer.list d.answer.place
            ∙ sets_append (reply_bytes (reply_to spare (at b pool) c)) (answered spare (next_after spare (at b pool) c) rest) out to
            ∙ p.answers;
        reach =
            omega (
              arith,
              p.reach,
              d.answer.place,
              ap length same,
              length-append (reply_bytes (reply_to spare (at b pool) c)) (answered spare (next_after spare (at b pool) c) rest),
            );
      }
