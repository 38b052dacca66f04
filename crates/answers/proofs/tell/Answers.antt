-- `answers::tell` meets its contract.
use mathlib.Core.Path.{◌≡◌, refl}
use denote.Enum.Declared.{tag_of}
use Rattle.answers.specs.Tags.{code}
use Rattle.answers.specs.contracts.Tag.{the_type}
use Rattle.answers.specs.declared.Tag.{Tag}
use Rattle.answers.specs.declared.Tag.TheVariants.{Number, Backed, Gave, Block, Sound, Run}
use Rattle.answers.proofs.AnswersLaid.{answered}
use Rattle.answers.proofs.tell.Goals as goal

-- the byte that a tag is cast to
cast : (t : Tag) → tag_of the_type t ≡ code t
cast Number = refl
cast Backed = refl
cast Gave = refl
cast Block = refl
cast Sound = refl
cast Run = refl

pub returns : goal.returns
returns c =
    let a = c.args in answered a.answers.now a.to (code a.tag) a.v (rw (cast a.tag) at c.put_u16.ensures)
