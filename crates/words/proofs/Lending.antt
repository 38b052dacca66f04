-- A part of a slice as it is lent, `&s[o..o + m]`.
use Prim.Native.Nat.{ℕ, ◌+◌, ◌-◌}
use mathlib.Core.Path.{◌≡◌}
use mathlib.Core.List.{List, ◌++◌, append_assoc}
use native.Mathlib.Omega.{arith}
use lib.ListN.{take, drop}
use lib.Seq.{drop-drop}
use Rattle.words.specs.Sections.{part}

pub lent : (b : List ℕ) (o m : ℕ) → take (o + m - o) (drop o b) ≡ part b o m
lent b o m = let e : o + m - o ≡ m = omega arith in rw e

-- a part that comes back as m
pub spliced : (b m : List ℕ) (o k : ℕ) → take o b ++ (m ++ drop (o + k - o) (drop o b)) ≡ take o b ++ m ++ drop (o + k) b
spliced b m o k = let e : o + k - o ≡ k = omega arith in rw (e, drop-drop, append_assoc)
