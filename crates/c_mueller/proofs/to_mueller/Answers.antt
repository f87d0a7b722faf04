-- `c_mueller::to_mueller` meets its contract. Assumes nothing.
use borrow.Author.Rules.{rules}
use Rattle.polarization_mueller.specs.Mueller.{to_mueller}
use Rattle.c_mueller.proofs.Answered.{refused, wrote}
use Rattle.c_mueller.proofs.to_mueller.Goals as goal

pub returns-then-numbers-ne8 : goal.returns-then-numbers-ne8
returns-then-numbers-ne8 c = refused to_mueller c.args.numbers.now _ _ c.if-numbers-ne8.true c.packed.ensures

pub returns : goal.returns
returns c = wrote to_mueller c.args.numbers.now _ _ _ _ c.if-numbers-ne8.false c.jones.ensures c.to_mueller.ensures c.put_mueller.ensures
