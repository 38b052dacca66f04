-- A fresh book and the plain store's start stand alike, whatever bytes the pool has.
use Prim.Native.Nat.{ℕ, zero, suc, ◌<◌}
use mathlib.Core.Path.{◌≡◌, refl, sym, ap, ◌∙◌}
use mathlib.Core.Bool.{true, not}
use mathlib.Core.List.{List, [], ◌∷◌}
use native.Mathlib.Omega.{arith}
use lib.Dec.{eqb}
use lib.ListN.{length, drop, replicate}
use borrow.Author.Tests.{eqb-true, ne_eqb}
use Rattle.words.specs.Blocks.{block_size, unmapped}
use Rattle.words.specs.Lists.{those}
use Rattle.words.proofs.Places.{get_or_replicated, none_replicated}
use Rattle.book.specs.Book.{volumes, Sizes, Entry, free_entry}
use Rattle.book.specs.Form.{sizes_ok}
use Rattle.book.specs.Next.{fresh}
use Rattle.model.specs.Pool.{pool_size}
use Rattle.model.specs.Journal.{journal}
use Rattle.model.specs.Audit.{no_maps, prints_sound}
use Rattle.model.specs.Plain.{Block, free, start, names}
use Rattle.model.specs.Sides.{blocks_in}
use Rattle.claims.proofs.agreement.Agree.{Fit, Agree, named, reaches}
use Rattle.claims.proofs.kept.Sound.{SoundAll, Days, AllRise, EmptiedAll}
use Rattle.claims.proofs.kept.Marks.{named_none, pbn_mapped}

free-blocks : (n : ℕ) (pool : List ℕ) → replicate n free ≡ blocks_in (replicate n free_entry) pool
unfolding free_entry
free-blocks zero pool = refl
free-blocks (suc n) pool = ap (λ (bs : List Block). free ∷ bs) (free-blocks n (drop block_size pool))

none-held : (n : ℕ) → those (λ e. e.held) (replicate n free_entry) ≡ []
unfolding free_entry
none-held zero = refl
none-held (suc n) = none-held n

unnamed : (z : Sizes) (p : ℕ) → sizes_ok z ≡ true → p < z.n → named (fresh z) p ≡ 0
unfolding fresh
unnamed z p ok h =
    eqb-true (named (fresh z) p) 0
    (named_none (fresh z) p ∙ ap not (none_replicated (names p) volumes (replicate z.l unmapped)
    (none_replicated (eqb p) z.l unmapped (ne_eqb p unmapped (pbn_mapped (fresh z) p ok h)))))

pub fresh-agree : (z : Sizes) (pool : List ℕ) → sizes_ok z ≡ true → length pool ≡ pool_size z.n → Fit (fresh z)
    → Agree (fresh z) pool (start z)
unfolding fresh start journal no_maps reaches prints_sound SoundAll Days AllRise EmptiedAll free_entry
fresh-agree z pool ok long fit = record {
  fit = fit;
  pool_long = long;
  sizes = refl;
  day = refl;
  cursor = refl;
  blocks = free-blocks z.n pool;
  retentions = refl;
  taken = refl;
  maps = refl;
  sound = tt;
  days = omega arith;
  rising = tt;
  emptied = tt;
  counts = λ p h. ap (λ (e : Entry). e.count) (get_or_replicated z.n free_entry p) ∙ sym (unnamed z p ok h);
  expiries = λ p h. ap (λ (e : Entry). e.expiry) (get_or_replicated z.n free_entry p);
  used = λ first p h k n. sym (ap (λ (e : Entry). e.held) (get_or_replicated z.n free_entry p)) ∙ k;
  free = λ p h k. (unnamed z p ok h, refl);
  prints = rw (none-held z.n);
}
