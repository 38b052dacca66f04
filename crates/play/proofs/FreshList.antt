-- A format and then a list, by what the two calls leave.
use Prim.Native.Nat.{ℕ, zero, suc, ◌≤◌}
use mathlib.Core.Path.{◌≡◌, refl, sym, ap, ◌∙◌}
use mathlib.Core.List.{List}
use lib.ListN.{length}
use Rattle.words.specs.Lent.{Lent}
use Rattle.words.proofs.Accepted.{refused_not, unless-refused}
use Rattle.words.specs.Outcome.{accepted, unless}
use Rattle.book.specs.Book.{Sizes}
use Rattle.book.specs.Layout.{book_size, bytes}
use Rattle.book.specs.Next.{new_sizes, fresh}
use Rattle.claims.specs.Claims.{Fresh}
use Rattle.model.specs.OnBytes.{number_of, format_number, format_bytes}
use Rattle.model.specs.Pool.{pool_size}
use Rattle.calls.proofs.BoundLaws.{played_did}
use Rattle.calls.proofs.ChainLaws.{as_plain, played-on}
use Rattle.calls.specs.Chain.{fresh_playable, PlayedFresh}
use Rattle.calls.specs.Promises.{room_of, playable, Played}
use Rattle.setup.specs.Promises.{Formatted}

module _ (book : Lent (List ℕ)) (pool spare calls out : List ℕ) (n l s j : ℕ) {k : ℕ} (f : Formatted book n l s j k) where
  abbrev b : List ℕ
  b = book.entry.now

  abbrev b₁ : List ℕ
  b₁ = book.exit.now

  abbrev z : Sizes
  z = new_sizes n l s j

  -- the format's number
  format_number_lem : k ≡ format_number b z
  unfolding format_bytes
  format_number_lem = f.number ∙ clear (format_number b z)
    where
      clear : (i : ℕ) → number_of (unless i (accepted (bytes (fresh z)))) ≡ i
      clear zero = refl
      clear (suc i) = refl

  pub fresh-refused : {b' pool' out' : List ℕ} {w' : ℕ} → (k ≡ 0 → ⊥) → PlayedFresh b pool spare z calls out k b' pool' out' w'
  unfolding fresh_playable
  fresh-refused h =
      let e = unless-refused (format_number b z) (playable calls (room_of (length out))) (λ q. h (format_number_lem ∙ q)) in
      record { number = format_number_lem ∙ sym (ap number_of e); played = λ xs a m n. absurd (refused_not (format_number b z) xs (sym e ∙ a)) }

  module _ (zero₀ : k ≡ 0) where
    -- as the format leaves it
    fresh-book : length pool ≡ pool_size n → book_size z ≤ length spare → Fresh
    unfolding format_bytes
    fresh-book h m = record {
      sizes = z;
      given = b;
      book = b₁;
      pool = pool;
      spare = length spare;
      formatted = rw (f.book, sym format_number_lem ∙ zero₀);
      pool_enough = h;
      spare_enough = m;
    }

    pub fresh-played : {w r w' : ℕ} {b' pool' out' : List ℕ} → Played (length spare) b₁ pool calls out w r b' pool' out' w'
        → PlayedFresh b pool spare z calls out r b' pool' out' w'
    unfolding fresh_playable fresh-book
    fresh-played p =
        let e : unless (format_number b z) (playable calls (room_of (length out))) ≡ playable calls (room_of (length out)) =
        ap (λ (i : ℕ). unless i (playable calls (room_of (length out)))) (sym format_number_lem ∙ zero₀)
        in
        record {
          number = p.number ∙ sym (ap number_of e);
          played = λ xs a h m.
              let d = played_did xs (sym e ∙ a) p in
              (as_plain (fresh-book h m) xs d, played-on (fresh-book h m) xs d.end);
        }
