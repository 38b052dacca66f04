-- A parameter that a caller lends: how it stands at the call's start, `entry`, and at its end, `exit`.
use Rattle.std.specs.Borrow.{Bor, MutBor}
use denote.Triple.Both.{Both}

abbrev pub Lent : Type 0 → Type 0
Lent X = Both (Bor X) (Bor X)

-- the same of a parameter that the call may write
abbrev pub lent : {X : Type 0} → Both (MutBor X) (MutBor X) → Lent X
lent x = record {
  entry = record { ref_ptr = x.entry.ref_ptr; now = x.entry.now };
  exit = record { ref_ptr = x.exit.ref_ptr; now = x.exit.now };
}
