-- A store over the whole slice.
use mathlib.Core.Path.{sym, ◌∙◌}
use Rattle.words.proofs.SectionLaws.{sets-whole}
use Rattle.intake.proofs.storing.copy.Goals as goal

pub returns : goal.returns
returns c =
    c.put_bytes.ensures ∙ sets-whole c.args.src.now c.args.dst.now (sym c.requires)
