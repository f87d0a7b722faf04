-- `c_mueller::mueller_born_wolf` meets its contract. Assumes nothing.
use borrow.Author.Rules.{rules}
use Rattle.polarization_born_wolf.specs.Conversion.{to_mueller_born_wolf}
use Rattle.c_mueller.proofs.Answered.{refused, wrote}
use Rattle.c_mueller.proofs.mueller_born_wolf.Goals as goal

pub returns-then-numbers-ne8 : goal.returns-then-numbers-ne8
returns-then-numbers-ne8 c = refused to_mueller_born_wolf c.args.numbers.now _ _ c.if-numbers-ne8.true c.packed.ensures

pub returns : goal.returns
returns c = wrote to_mueller_born_wolf c.args.numbers.now _ _ _ _ c.if-numbers-ne8.false c.jones.ensures c.to_mueller_born_wolf.ensures c.put_mueller.ensures
