-- A slot that retires its volume, in form (document 02, K6): its second byte, the afters of its records, the slots after it, and the layouts that
-- have it, in closed cases. It stands before the laws, so that a wrong definition is refused by what it gives.
use Prim.Native.Nat.{ℕ}
use mathlib.Core.Path.{◌≡◌, refl}
use mathlib.Core.Bool.{Bool, true, false}
use mathlib.Core.List.{List, [], ◌∷◌, ◌++◌, map}
use lib.ListN.{replicate}
use Rattle.book.specs.Book.{Sizes, Slot, Rec, Book}
use Rattle.book.specs.Layout.{entry_size, slot_bytes, slot_of}
use Rattle.book.specs.Form.{pbn_ok, rec_ok, after_ok, afters_ok, slot_ok, later_ok, days_ok, second_ok}

abbrev slot : ℕ → Bool → ℕ → ℕ → Slot
slot v retire day number = record { volume = v; retire = retire; day = day; first = 0; number = number }

abbrev to : ℕ → Rec
to after = record { lbn = 0; before = 5; after = after }

abbrev sizes : ℕ → Sizes
sizes g = record { layout = g; n = 10; l = 1; s = 4; j = 4 }

-- volumes 0 and 1 are enrolled, and the day is 9
abbrev on_day9 : ℕ → Book
on_day9 g = record {
  sizes = sizes g;
  day = 9;
  cursor = 0;
  retentions = 7 ∷ 7 ∷ [];
  entries = [];
  maps = [];
  slots = [];
  records = [];
}

-- afters of a backup's two records, and of the one that retires the volume
abbrev afters : ℕ → ℕ → ℕ → Bool
afters a b c = afters_ok (slot 0 false 1 2 ∷ slot 0 true 2 1 ∷ []) (to a ∷ to b ∷ to c ∷ [])

-- bytes with this second byte in the first slot, of a book without blocks or cells
abbrev with_second : ℕ → List ℕ
with_second k = replicate 36 0 ++ (0 ∷ k ∷ [])

pub record Retiring : Type 0 where
  pub bytes : slot_bytes (slot 2 true 258 3) ≡ 2 ∷ 1 ∷ 2 ∷ 1 ∷ 0 ∷ 0 ∷ 3 ∷ 0 ∷ []
  pub back : slot_of (2 ∷ 1 ∷ 2 ∷ 1 ∷ 0 ∷ 0 ∷ 3 ∷ 0 ∷ []) 0 ≡ slot 2 true 258 3
  -- "a record has that after exactly when its slot is a retire slot"
  pub each : afters 0 1 65535 ≡ true
  pub in_backup : afters 0 65535 65535 ≡ false
  pub in_retire : afters 0 1 2 ≡ false
  -- of 10 blocks
  pub ranges : map (λ a. rec_ok (sizes 3) (to a)) (9 ∷ 10 ∷ 65534 ∷ 65535 ∷ []) ≡ true ∷ false ∷ false ∷ true ∷ []
  -- "no slot of the volume follows it": of volume 0, but of volume 1
  pub follows : map (λ v. days_ok (slot 0 true 1 0 ∷ slot v false 2 0 ∷ [])) (0 ∷ 1 ∷ []) ≡ false ∷ true ∷ []
  pub twice : days_ok (slot 0 true 1 0 ∷ slot 0 true 2 0 ∷ []) ≡ false
  pub last : days_ok (slot 0 false 1 0 ∷ slot 0 true 2 0 ∷ []) ≡ true
  -- "from layout 3 on"
  pub layouts : map (λ g. slot_ok (on_day9 g) (slot 0 true 1 0)) (1 ∷ 2 ∷ 3 ∷ 4 ∷ []) ≡ false ∷ false ∷ true ∷ true ∷ []
  pub backups : map (λ g. slot_ok (on_day9 g) (slot 0 false 1 0)) (1 ∷ 2 ∷ 3 ∷ 4 ∷ []) ≡ true ∷ true ∷ true ∷ true ∷ []
  pub seconds : map (λ k. second_ok (with_second k) 0) (0 ∷ 1 ∷ 2 ∷ []) ≡ true ∷ true ∷ false ∷ []

pub retiring : Retiring
unfolding entry_size pbn_ok rec_ok after_ok slot_ok later_ok second_ok
retiring = record {
  bytes = refl;
  back = refl;
  each = refl;
  in_backup = refl;
  in_retire = refl;
  ranges = refl;
  follows = refl;
  twice = refl;
  last = refl;
  layouts = refl;
  backups = refl;
  seconds = refl;
}
