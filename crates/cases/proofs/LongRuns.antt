-- A run of 65 blocks, as a list of the base may have it, is refused by 8 on both sides (document 02, K1); one of 64 is not.
use Prim.Native.Nat.{ℕ}
use mathlib.Core.Path.{◌≡◌, refl}
use mathlib.Core.List.{[], ◌∷◌}
use lib.ListN.{replicate}
use Rattle.book.specs.Book.{Sizes}
use Rattle.book.specs.Next.{new_sizes, fresh, with_retention}
use Rattle.model.specs.Calls.{enrol}
use Rattle.model.specs.Backup as ours
use Rattle.model.specs.PlainBackup as plain
use Rattle.cases.proofs.Open.{model}
use Rattle.cases.proofs.Letters.{A, over, list}
use Rattle.cases.proofs.Edges.{plain_end}

-- room for more than such a run in all that a backup is refused for
abbrev pub wide : Sizes
wide = new_sizes 1 80 1 80

unfoldable pub our_number : ℕ → ℕ
our_number n = ours.backup_number (with_retention 0 9 (fresh wide)) 0 1 (list 0 (replicate n A))

unfoldable pub plain_number : ℕ → ℕ
plain_number n = plain.backup_number (plain_end wide (enrol 0 9 ∷ [])) 0 1 (list 0 (replicate n A))

pub record Long : Type 0 where
  pub ours_64 : our_number 64 ≡ 0
  pub ours_65 : our_number 65 ≡ 8
  pub plain_64 : plain_number 64 ≡ 0
  pub plain_65 : plain_number 65 ≡ 8

pub long_run_is_8 : Long
unfolding model over list our_number plain_number
long_run_is_8 = record { ours_64 = refl; ours_65 = refl; plain_64 = refl; plain_65 = refl }
