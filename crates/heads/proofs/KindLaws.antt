-- A byte that is no kind stands in no call.
use Prim.Native.Nat.{ℕ, ◌+◌, ◌<◌}
use mathlib.Core.Path.{◌≡◌, sym, ◌∙◌}
use mathlib.Core.Bool.{true, false, ◌&&◌}
use mathlib.Core.List.{List}
use native.Mathlib.Omega.{arith}
use lib.Dec.{leb, eqb}
use lib.ListN.{length, get_or}
use borrow.Author.Tests.{ne_eqb}
use Rattle.words.proofs.ChoiceLaws.{and_true}
use Rattle.calls.specs.Coding.{call_size, unused_zero, unused_zero_at, is_call}

pub kind_above : (k a b c d size : ℕ) → 6 < k → unused_zero k a b c d size ≡ false
unfolding unused_zero
kind_above k a b c d size h =
    rw (
      ne_eqb k 0 (λ e. omega arith),
      ne_eqb k 1 (λ e. omega arith),
      ne_eqb k 2 (λ e. omega arith),
      ne_eqb k 3 (λ e. omega arith),
      ne_eqb k 4 (λ e. omega arith),
      ne_eqb k 5 (λ e. omega arith),
      ne_eqb k 6 (λ e. omega arith),
    )

pub call-kind : (b : List ℕ) (at : ℕ) → is_call b at ≡ true → 6 < get_or b at 0 → ⊥
unfolding is_call unused_zero_at
call-kind b at e h =
    let x = leb (at + 14) (length b) && eqb (get_or b (at + 1) 0) 0 in
    let w = and_true (x && unused_zero_at b at) (leb (at + call_size b at) (length b)) e in
    let z : false ≡ true = sym (kind_above (get_or b at 0) _ _ _ _ _ h) ∙ (and_true x (unused_zero_at b at) w.0).1 in
    cc
