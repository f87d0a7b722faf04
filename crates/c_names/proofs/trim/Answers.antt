-- `c_names::trim` meets its contract. Assumes nothing.
use mathlib.Core.Path.{ap}
use Rattle.name_bytes.specs.declared.Span.{Span}
use Rattle.c_names.specs.Names.{cut}
use Rattle.c_names.proofs.trim.Goals as goal

pub returns : goal.returns
returns c = ap (λ (s : Span). cut 0 s.place s.len) c.trim_numbers-span.ensures
