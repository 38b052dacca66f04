-- A collect right after a collect on the same day is accepted and frees nothing.
use Prim.Native.Nat.{ℕ}
use mathlib.Core.Path.{◌≡◌, refl}
use mathlib.Core.Bool.{Bool, true, false}
use mathlib.Core.List.{List, [], ◌∷◌, map}
use native.Mathlib.Omega.{arith}
use Rattle.words.specs.Choice.{when◌then◌else◌}
use Rattle.words.specs.Lists.{count_of}
use Rattle.book.specs.Book.{Book, Entry}
use Rattle.book.specs.Next.{with_day, with_entries, made_free}
use Rattle.model.specs.Collect.{collect_number, is_over, swept_entry, collected}
use Rattle.claims.proofs.claims.CollectLaws.{collect-days}

after_not_over : (t : ℕ) (e : Entry) → is_over t (swept_entry t e) ≡ false
unfolding is_over swept_entry made_free
after_not_over t e = go (is_over t e) refl
  where
    go : (o : Bool) → is_over t e ≡ o → is_over t (when o then made_free e else e) ≡ false
    go true f = refl
    go false f = f

pub none_over : (t : ℕ) (es : List Entry) → count_of (is_over t) (map (swept_entry t) es) ≡ 0
none_over t [] = refl
none_over t (e ∷ es) = rw (after_not_over t e, none_over t es)

pub collect-twice : (x : Book) (t : ℕ) → (collected (collected x t).book t).freed ≡ 0
unfolding collected with_day with_entries
collect-twice x t = none_over t x.entries

pub collect-twice-number : (x : Book) (t : ℕ) → collect_number x t ≡ 0 → collect_number (collected x t).book t ≡ 0
unfolding collected with_day
collect-twice-number x t e = (collect-days (collected x t).book t).1 (omega arith, ((collect-days x t).0 e).1)
