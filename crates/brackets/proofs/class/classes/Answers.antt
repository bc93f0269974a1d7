-- `classes`: the table is that of the definitions.
use mathlib.Core.Path.{refl}
use Rattle.brackets.specs.Form.{class_names}
use Rattle.brackets.specs.Sets.{class_ranges}
use Rattle.brackets.proofs.class.classes.Goals as goal

pub returns : goal.returns
unfolding class_names class_ranges
returns c = record { texts = refl; ranges = refl }
