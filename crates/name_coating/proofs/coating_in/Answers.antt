-- `name_coating::coating_in` meets its contract. Assumes nothing.
use mathlib.Core.Path.{ap, ◌∙◌}
use Rattle.name_coating.specs.Name.{coating_of}
use Rattle.name_coating.proofs.UpperCase.{clean_is, clean_fits, clean_size}
use Rattle.name_coating.proofs.coating_in.Goals as goal

pub slice_bounds-bytes-end : goal.slice_bounds-bytes-end
slice_bounds-bytes-end c = clean_fits _ _ c.upper-u.ensures

pub slice_bounds-coating_of-end : goal.slice_bounds-coating_of-end
slice_bounds-coating_of-end c = clean_size _ _ c.upper-u.ensures

pub returns : goal.returns
returns c = c.coating_of.ensures ∙ ap coating_of (clean_is _ _ c.upper-u.ensures)
