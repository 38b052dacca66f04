-- The first byte of a call's head (docs/FORMAT.md, "Lists of calls in bytes").
use Rattle.std.specs.Prelude.{ℕ, ◌<◌, ◌≡◌, Result, MatchResult}
use Rattle.words.specs.declared.refusals.Refusal.{Refusal}
use Rattle.words.specs.declared.refusals.Refusal.TheVariants.{BadInput}
use Rattle.heads.specs.declared.kind.Kind.{Kind}
use Rattle.heads.specs.declared.kind.Kind.TheVariants.{Enrol, Backup, Collect, Read, Audit, Restore, Retire}

abbrev pub code : Kind → ℕ
code Enrol = 0
code Backup = 1
code Collect = 2
code Read = 3
code Audit = 4
code Restore = 5
code Retire = 6

-- the kind with this byte, or 19 where no kind has it
abbrev pub Decodes : ℕ → Result Kind Refusal → Type 0
Decodes byte r = MatchResult r (λ kind. code kind ≡ byte) (λ refusal. (refusal ≡ BadInput) × (6 < byte))
