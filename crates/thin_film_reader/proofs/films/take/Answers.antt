-- `thin_film_reader::films::take` meets its contract. Assumes nothing.
use Rattle.thin_film_reader.proofs.Pushes as Pushes
use Rattle.thin_film_reader.proofs.Steps as Steps
use Rattle.thin_film_grammar.specs.Grammar.{let', open', close, dig}
use Rattle.thin_film_reader.proofs.films.take.Goals as goal

pub returns-then-b-eq72 : goal.returns-then-b-eq72
returns-then-b-eq72 c = Pushes.as_kind c.args.f _ _ c.args.m.depth c.args.b (let' 0) (Steps.is_h _ c.if-b-eq72.true) c.letter.ensures

pub returns-then-b-eq76 : goal.returns-then-b-eq76
returns-then-b-eq76 c = Pushes.as_kind c.args.f _ _ c.args.m.depth c.args.b (let' 1) (Steps.is_l _ c.if-b-eq76.true) c.letter-then-b-eq76.ensures

pub returns-then-b-eq77 : goal.returns-then-b-eq77
returns-then-b-eq77 c = Pushes.as_kind c.args.f _ _ c.args.m.depth c.args.b (let' 2) (Steps.is_m _ c.if-b-eq77.true) c.letter-then-b-eq77.ensures

pub open-requires : goal.open-requires
open-requires c = Pushes.opens_within c.args.m _ c.if-b-eq40.true c.requires.1

pub returns-then-b-eq40 : goal.returns-then-b-eq40
returns-then-b-eq40 c = Pushes.as_kind c.args.f _ _ c.args.m.depth c.args.b open' (Steps.is_open _ c.if-b-eq40.true) c.open.ensures

pub close-requires : goal.close-requires
close-requires c = (c.requires.0, Pushes.closes_one c.args.m _ c.if-b-eq41.true c.requires.1, c.requires.1.low.depth)

pub returns-then-b-eq41 : goal.returns-then-b-eq41
returns-then-b-eq41 c = Pushes.as_kind c.args.f _ _ c.args.m.depth c.args.b close (Steps.is_close _ c.if-b-eq41.true) c.close.ensures

pub returns-then-b-lt48 : goal.returns-then-b-lt48
returns-then-b-lt48 c = Pushes.low_byte _ _ c.args.m.depth c.args.b c.if-b-lt48.true c.if-b-eq40.false c.if-b-eq41.false

pub returns-then-b-gt57 : goal.returns-then-b-gt57
returns-then-b-gt57 c = Pushes.high_byte _ _ c.args.m.depth c.args.b c.if-b-gt57.true c.if-b-eq72.false c.if-b-eq76.false c.if-b-eq77.false

pub digit-requires : goal.digit-requires
digit-requires c = (c.requires.0, c.requires.1.low, Steps.nine _ c.if-b-gt57.false)

pub returns : goal.returns
returns c = Pushes.as_kind c.args.f _ _ c.args.m.depth c.args.b (dig _) (Pushes.digit_byte _ c.if-b-lt48.false c.if-b-gt57.false) c.digit.ensures
