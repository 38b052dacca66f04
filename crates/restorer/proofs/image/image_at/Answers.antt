-- `restorer::image::image_at` meets its contract: a before that was found, else the current map.
use mathlib.Core.Path.{sym, ◌∙◌}
use Rattle.restorer.proofs.BeforeLaws.{image-before, image-current}
use Rattle.restorer.proofs.image.image_at.Goals as goal

pub returns-in-None : goal.returns-in-None
returns-in-None c = c.cell.ensures ∙ sym (image-current _ _ _ _ (sym c.in-None.ensures))

pub returns-in-Some : goal.returns-in-Some
returns-in-Some c = sym (image-before _ _ _ _ _ (sym c.in-Some.ensures))
