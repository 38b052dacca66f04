-- A choice by a test.
use Rattle.std.specs.Prelude.{Bool, true, false}

module _ {ℓ} {A : Type ℓ} where
  infixr 10 when◌then◌else◌
  abbrev pub when◌then◌else◌ : Bool → A → A → A
  when true then a else b = a
  when false then a else b = b
