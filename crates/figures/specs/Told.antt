-- What the code tells a host, as `model` has it.
use Rattle.book.specs.Book.{Sizes}
use Rattle.book.specs.Layout.{current}
use Rattle.fields.specs.InLayout.{in_layout}
use Rattle.fields.specs.declared.sizes.Sizes as code
use Rattle.model.specs.Views.{Used, VolumeFacts}
use Rattle.figures.specs.declared.header.Usage.{Usage}
use Rattle.figures.specs.declared.volume.VolumeFigures.{VolumeFigures}

abbrev pub sizes_told : code.Sizes → Sizes
sizes_told = in_layout current

abbrev pub used_told : Usage → Used
used_told u = record { slots = u.slots; records = u.records; day = u.day }

abbrev pub volume_told : VolumeFigures → VolumeFacts
volume_told f = record { retention = f.retention; backups = f.backups; retired = f.retired }
