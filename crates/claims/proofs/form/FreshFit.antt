-- A fresh book is fit.
use Prim.Native.Nat.{zero-le}
use mathlib.Core.Path.{◌≡◌, refl}
use mathlib.Core.Bool.{true}
use lib.Dec.{eqb}
use lib.ListN.{length, replicate, length-replicate}
use borrow.Author.Tests.{eq-eqb}
use Rattle.words.specs.Blocks.{unmapped}
use Rattle.words.proofs.ChoiceLaws.{true_and}
use Rattle.words.specs.Lists.{all}
use Rattle.words.proofs.Places.{all_replicate}
use Rattle.book.specs.Book.{volumes, Sizes, free_entry}
use Rattle.book.specs.Form.{sizes_ok, retention_ok, pbn_ok}
use Rattle.book.proofs.SizesIn.{sizes-facts}
use Rattle.book.specs.Next.{fresh}
use Rattle.claims.proofs.agreement.Agree.{Fit}
use Rattle.claims.proofs.form.Bounds.{unmapped-ok}
use Rattle.claims.proofs.form.FitParts.{entry_fit, map_fit, parts-fit}
use Rattle.claims.proofs.form.EntriesFit.{free-fit}

unmapped-fit : (z : Sizes) → map_fit z (replicate z.l unmapped) ≡ true
unfolding map_fit
unmapped-fit z =
    true_and (all (pbn_ok z.n) (replicate z.l unmapped)) (eqb (length (replicate z.l unmapped)) z.l)
    (all_replicate (pbn_ok z.n) z.l unmapped (unmapped-ok z.n))
    (eq-eqb (length (replicate z.l unmapped)) z.l (length-replicate z.l unmapped))

pub fresh-fit : (z : Sizes) → sizes_ok z ≡ true → Fit (fresh z)
unfolding fresh retention_ok
fresh-fit z ok = parts-fit (record {
  sizes = ok;
  day = zero-le;
  cursor = (sizes-facts z ok).n₀;
  retention_count = refl;
  retentions = refl;
  entry_count = length-replicate z.n free_entry;
  entries = all_replicate entry_fit z.n free_entry free-fit;
  map_count = refl;
  maps = all_replicate (map_fit z) volumes (replicate z.l unmapped) (unmapped-fit z);
  slot_count = zero-le;
  slots = refl;
  days = refl;
  pairs = refl;
  record_count = zero-le;
  records = refl;
  afters = refl;
})
