-- `c_presets::bragg_mirror` meets its contract. Assumes nothing.
use Rattle.c_presets.proofs.Mirror.{too_many, too_short, wrote}
use Rattle.c_presets.proofs.bragg_mirror.Goals as goal

pub returns-then-pairs-gt31 : goal.returns-then-pairs-gt31
returns-then-pairs-gt31 c = too_many _ _ _ _ _ _ c.if-pairs-gt31.true c.packed.ensures

pub returns-then-list-numbers : goal.returns-then-list-numbers
returns-then-list-numbers c = too_short _ _ _ _ _ c.if-pairs-gt31.false c.if-list-numbers.true

pub returns : goal.returns
returns c = wrote _ _ _ _ _ _ c.if-pairs-gt31.false c.if-list-numbers.false c.place.ensures
