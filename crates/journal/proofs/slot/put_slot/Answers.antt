-- `journal::slot::put_slot`: a slot's bytes are its volume, whether it retires it, and three numbers.
use mathlib.Core.Path.{◌≡◌, refl, ◌∙◌, ap}
use mathlib.Core.Bool.{Bool, true, false}
use mir.Val.{bool_byte}
use lib.ListN.{length, length-set}
use lib.Seq.{length-sets}
use native.Mathlib.Numerals.{towards_suc}
use native.Mathlib.Omega.{arith}
use Rattle.book.specs.Layout.{state_byte}
use Rattle.journal.proofs.slot.put_slot.Goals as goal

-- what a cast makes of a test
second-byte : (r : Bool) → bool_byte r ≡ state_byte r
second-byte true = refl
second-byte false = refl

pub bounds-b-at-2 : goal.bounds-b-at-2
bounds-b-at-2 c = simp length-set (omega arith)

pub put_three-requires : goal.put_three-requires
put_three-requires c = simp length-set (omega arith)

pub shape_of-b : goal.shape_of-b
shape_of-b c = ap length c.put_three.ensures ∙ simp (length-sets, length-set)

pub returns : goal.returns
returns c = c.put_three.ensures ∙ simp (towards_suc, second-byte)

pub overflow_cast-b-2 : goal.overflow_cast-b-2
overflow_cast-b-2 c = tt
