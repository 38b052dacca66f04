-- Laws of specs/Bound.antt.
-- The check of a list in one pass: what is left of it, with the longest answers so far, is refused as the whole is.
use Prim.Native.Nat.{ℕ, zero, suc, ◌+◌, ◌≤◌, ◌<◌}
use mathlib.Core.Path.{◌≡◌, refl, sym, ap, ◌∙◌}
use mathlib.Core.Bool.{Bool, true, false}
use mathlib.Core.List.{List}
use native.Mathlib.Nat.{zero-add}
use native.Mathlib.Omega.{arith}
use lib.Dec.{leb, ltb}
use lib.ListN.{length}
use borrow.Author.Tests.{leb-false, lt-ltb, le-ltb, ltb-false}
use Rattle.words.specs.Choice.{when◌then◌else◌}
use Rattle.words.specs.Outcome.{Outcome, refused, accepted, and_then, unless}
use Rattle.calls.specs.Asked.{Asked}
use Rattle.model.specs.OnBytes.{number_of}
use Rattle.calls.specs.Coding.{call_size, is_call, call_at, before, calls_from, calls_of}
use Rattle.calls.specs.Answers.{longest_reply, most_of}
use Rattle.calls.specs.Promises.{at, room_of, room_number, playable, Played}
use Rattle.calls.specs.Doing.{DidAll}
use Rattle.calls.proofs.ReadingLaws.{calls-end, calls_broken, calls-more, calls-refused, good-accepted}
use Rattle.calls.specs.Reading.{rest_of, Good}
use Rattle.calls.proofs.Short.{answers-short}
use Rattle.calls.specs.Bound.{added_to}

-- the number of the calls that are left, where those before them have answers of `most` bytes
abbrev pub number_left : ℕ → ℕ → Outcome (List Asked) → ℕ
number_left room most (refused k) = k
number_left room most (accepted cs) = room_number room (most + most_of cs)

abbrev pub number_from : ℕ → List ℕ → ℕ → ℕ → ℕ
number_from room b at most = number_left room most (calls_from (length b) b at)

module _ (room : ℕ) where
  pub room-passed : (most : ℕ) → room < most → room_number room most ≡ 20
  unfolding room_number
  room-passed most h = rw (lt-ltb room most h)

  pub room_enough : (most : ℕ) → most ≤ room → room_number room most ≡ 0
  unfolding room_number
  room_enough most h = rw (le-ltb room most h)

  room-zero : (most : ℕ) → room_number room most ≡ 0 → most ≤ room
  unfolding room_number
  room-zero most e = go (ltb room most) refl e
    where
      go : (t : Bool) → ltb room most ≡ t → ◌≡◌ {A = ℕ} (when t then 20 else 0) 0 → most ≤ room
      go true f z = absurd (omega arith)
      go false f z = ltb-false room most f

  sum_more : (most more rest : ℕ) → room_number room (most + (more + rest)) ≡ room_number room (added_to room most more + rest)
  unfolding added_to
  sum_more most more rest = go (leb most room) refl
    where
      go : (t : Bool) → leb most room ≡ t
          → room_number room (most + (more + rest)) ≡ room_number room ((when t then most + more else most) + rest)
      go true e = ap (λ (k : ℕ). room_number room k) (omega arith)
      go false e =
          let l = leb-false most room e in
          room-passed (most + (more + rest)) (omega arith) ∙ sym (room-passed (most + rest) (omega arith))

  left-more : (most : ℕ) (c : Asked) (o : Outcome (List Asked))
      → number_left room most (and_then o (before c)) ≡ number_left room (added_to room most (longest_reply c)) o
  left-more most c (refused k) = refl
  left-more most c (accepted cs) = sum_more most (longest_reply c) (most_of cs)

  module _ (b : List ℕ) where
    pub number-begin : number_of (playable b room) ≡ number_from room b 0 0
    unfolding playable calls_of
    number-begin = go (calls_from (length b) b 0)
      where
        clear : (k : ℕ) (cs : List Asked) → number_of (unless k (accepted cs)) ≡ k
        clear zero cs = refl
        clear (suc k) cs = refl

        go : (o : Outcome (List Asked))
            → number_of (and_then o (λ cs. unless (room_number room (most_of cs)) (accepted cs))) ≡ number_left room 0 o
        go (refused k) = refl
        go (accepted cs) = clear (room_number room (most_of cs)) cs ∙ ap (λ (k : ℕ). room_number room k) (sym (zero-add (most_of cs)))

    pub number_broken : (at most : ℕ) → at < length b → is_call b at ≡ false → number_from room b at most ≡ 19
    number_broken at most h e = rw (calls_broken b (length b) at h e)

    pub number_more : (at most : ℕ) → at < length b → is_call b at ≡ true
        → number_from room b at most ≡ number_from room b (at + call_size b at) (added_to room most (longest_reply (call_at b at)))
    number_more at most h e =
        ap (λ (o : Outcome (List Asked)). number_left room most o) (calls-more b (length b) at (omega arith) h e)
        ∙ left-more most (call_at b at) (calls_from (length b) b (at + call_size b at))

    pub number-end : (at most : ℕ) → length b ≤ at → number_from room b at most ≡ room_number room most
    number-end at most h = rw (calls-end b (length b) at h) (ap (λ (k : ℕ). room_number room k) (omega arith))

    -- a list that nothing refuses
    pub playable-good : number_of (playable b room) ≡ 0
        → Good b 0 × (most_of (rest_of b 0) ≤ room) × (playable b room ≡ accepted (rest_of b 0))
    unfolding playable calls_of
    playable-good e = go (calls_from (length b) b 0) refl (sym number-begin ∙ e)
      where
        go : (o : Outcome (List Asked)) → calls_from (length b) b 0 ≡ o → number_left room 0 o ≡ 0
            → Good b 0 × (most_of (rest_of b 0) ≤ room) × (playable b room ≡ accepted (rest_of b 0))
        go (refused k) f z = absurd (let n = calls-refused b (length b) 0 k f in omega arith)
        go (accepted cs) f z =
            let g = good-accepted b 0 cs f in
            let n : room_number room (most_of cs) ≡ 0 = ap (λ (k : ℕ). room_number room k) (sym (zero-add (most_of cs))) ∙ z in
            (g.0, rw g.1 (room-zero (most_of cs) n), rw (f, n))

-- ---- the two ways out of a list that is played, from the room that was checked

module _ (calls out : List ℕ) (room : ℕ) (e : room ≡ room_of (length out)) {spare : ℕ} {b pool : List ℕ} where
  pub played-refused : {w r : ℕ} → r ≡ number_of (playable calls room) → (r ≡ 0 → ⊥) → Played spare b pool calls out w r b pool out w
  played-refused {w} {r} n h = go (playable calls (room_of (length out))) refl (rw e at n)
    where
      go : (o : Outcome (List Asked)) → playable calls (room_of (length out)) ≡ o → r ≡ number_of o
          → Played spare b pool calls out w r b pool out w
      go (refused k) f m = record { number = rw f m; end = rw f; answers = rw f; written = rw f }
      go (accepted cs) f m = absurd (h m)

  module _ (n : number_of (playable calls room) ≡ 0) {b' pool' out' : List ℕ} {w' : ℕ}
      (d : DidAll spare b pool (rest_of calls 0) out b' pool' out' w') where
    pub played-all : {w : ℕ} → Played spare b pool calls out w 0 b' pool' out' w'
    played-all =
        let g = rw e at (playable-good room calls n).2 in
        record { number = rw g; end = rw g d.end; answers = rw g d.answers; written = rw g d.written }

    pub played-short : w' ≤ room
    played-short =
        let g = playable-good room calls n in
        let s = answers-short spare (at b pool) (rest_of calls 0) in
        omega (arith, d.written, g.1)

-- what was played, where the calls are known
pub played_did : {spare w r w' : ℕ} {b pool calls out b' pool' out' : List ℕ} (cs : List Asked)
    → playable calls (room_of (length out)) ≡ accepted cs
    → Played spare b pool calls out w r b' pool' out' w' → DidAll spare b pool cs out b' pool' out' w'
played_did cs e p = record { end = rw e at p.end; answers = rw e at p.answers; written = rw e at p.written }
