-- `c_stack::put` meets its contract. Assumes nothing.
use mathlib.Core.Path.{refl}
use lib.ListN.{length-map}
use Rattle.c_stack.proofs.Stacked.{short, whole}
use Rattle.c_stack.proofs.put.Goals as goal

pub returns-then-list-numbers : goal.returns-then-list-numbers
returns-then-list-numbers c = short _ _ (rw length-map c.requires.1) _ c.if-list-numbers.true

pub returns : goal.returns
returns c = whole _ _ (rw length-map c.requires.1) _ _ _ c.if-list-numbers.false refl c.place.ensures
