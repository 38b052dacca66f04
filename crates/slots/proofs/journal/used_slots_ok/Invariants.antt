-- `slots::journal::used_slots_ok` meets its contract: what is left of the pass decides as the whole does.
use Prim.Native.Nat.{◌*◌, ◌≤◌}
use mathlib.Core.Path.{◌≡◌}
use Rattle.slots.specs.Days.{no_lasts, none_gone}
use Rattle.slots.specs.Slots.{slots_left}
use Rattle.slots.proofs.journal.used_slots_ok.Given as goal

abbrev pub invariant-loop-q : goal.invariant-loop-q
invariant-loop-q l =
    (l.next ≤ l.q * 65535) × (slots_left l.b 0 no_lasts none_gone 0 0 ≡ slots_left l.b l.q l.lasts l.gone l.prev l.next)
