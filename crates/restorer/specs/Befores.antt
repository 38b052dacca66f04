-- The before of an LBN's first record, among records and among a volume's backups from a slot on.
use Rattle.std.specs.Prelude.{ℕ, List, eqb, Option, Some, None}
use Rattle.std.proofs.Math.Option.{Option as Found, none, some}
use Rattle.words.specs.Lists.{first_that}
use Rattle.book.specs.Book.{Rec, Book}
use Rattle.model.specs.Read.{records_of}
use Rattle.model.specs.JournalAt.{own_from}
use Rattle.words.specs.declared.PBN.{PBN}

-- "that LBN's first record", among these
abbrev pub first_of : ℕ → List Rec → Found Rec
first_of lbn rs = first_that (λ r. eqb r.lbn lbn) rs

abbrev pub before_of : Found Rec → Option PBN
before_of none = None
before_of (some r) = Some (record { 0 = r.before })

-- "the before of that LBN's first record", which may be unmapped
unfoldable pub before_in : ℕ → List Rec → Option PBN
before_in lbn rs = before_of (first_of lbn rs)

-- ---- slots from q on

-- the first before among the volume's backups in the slots from q on
unfoldable pub before_from : Book → ℕ → ℕ → ℕ → Option PBN
before_from x v q lbn = before_in lbn (records_of (own_from x v q))
