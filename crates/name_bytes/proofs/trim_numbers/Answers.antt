-- `name_bytes::trim_numbers` meets its contract. Assumes nothing.
use mathlib.Core.Path.{◌∙◌}
use Rattle.name_bytes.specs.Trim.{span, span_of}
use Rattle.name_bytes.proofs.trim_numbers.Goals as goal

pub returns : goal.returns
unfolding span span_of
returns c = c.numbers.ensures ∙ (λ i. span_of (c.trim.ensures i).0.1 (c.trim.ensures i).1)
