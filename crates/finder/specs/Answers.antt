-- What a search of the pool answers, by the block that it finds.
use Rattle.std.specs.Prelude.{ℕ, Option, Some, None}
use Rattle.std.proofs.Math.Option.{Option as Found, none, some}
use Rattle.words.specs.declared.PBN.{PBN}

abbrev pub found_of : Found ℕ → Option PBN
found_of none = None
found_of (some p) = Some (record { 0 = p })
