-- `c_call::put_mueller` meets its contract. Assumes nothing.
use mathlib.Core.Path.{ap, ◌∙◌}
use mathlib.Core.List.{List}
use lib.Ieee.{Float}
use Rattle.c_call.specs.Call.{reply, written}
use borrow.Author.Rules.{rules}
use Rattle.c_call.proofs.put_mueller.Goals as goal

pub returns : goal.returns
returns c = c.put.ensures ∙ ap (λ (z : List Float). written (reply 16 z) c.args.list.now) c.mueller-numbers.ensures
