-- `c_call::put_answers` meets its contract. Assumes nothing.
use Rattle.c_call.proofs.Answers.{coated_short, coated_whole, bare_short, bare_whole}
use borrow.Author.Rules.{rules}
use Rattle.c_call.proofs.put_answers.Goals as goal

pub returns-then-list-lt69 : goal.returns-then-list-lt69
returns-then-list-lt69 c = coated_short c.args.a c.if-a.true c.args.list.now c.if-list-lt69.true

pub returns-then-list-lt53 : goal.returns-then-list-lt53
returns-then-list-lt53 c = bare_short c.args.a c.if-a.false c.args.list.now c.if-list-lt53.true

pub returns-else-list-lt69 : goal.returns-else-list-lt69
returns-else-list-lt69 c = coated_whole c.args.a c.if-a.true c.args.list.now _ _ _ c.if-list-lt69.false c.place_common.ensures c.response-numbers.ensures c.place.ensures

pub returns-else-list-lt53 : goal.returns-else-list-lt53
returns-else-list-lt53 c = bare_whole c.args.a c.if-a.false c.args.list.now _ c.if-list-lt53.false c.place_common-else-a.ensures
