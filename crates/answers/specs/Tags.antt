-- The first byte of an answer (docs/FORMAT.md, "Lists of calls in bytes").
use Rattle.std.specs.Prelude.{ℕ}
use Rattle.answers.specs.declared.Tag.{Tag}
use Rattle.answers.specs.declared.Tag.TheVariants.{Number, Backed, Gave, Block, Sound, Run}

abbrev pub code : Tag → ℕ
code Number = 0
code Backed = 1
code Gave = 2
code Block = 3
code Sound = 4
code Run = 5
