-- `thin_film_reader::machine::step` meets its contract. Assumes nothing.
use Rattle.thin_film_reader.proofs.Steps as Steps
use Rattle.thin_film_grammar.specs.Grammar.{blank, let', open', close, hat, dig, bad}
use Rattle.thin_film_reader.proofs.machine.step.Goals as goal

pub returns-then-b-eq32 : goal.returns-then-b-eq32
returns-then-b-eq32 c = Steps.to_kind _ _ c.args.b blank (Steps.is_blank _ c.if-b-eq32.true) c.space.ensures

pub returns-then-b-eq72 : goal.returns-then-b-eq72
returns-then-b-eq72 c = Steps.to_kind _ _ c.args.b (let' 0) (Steps.is_h _ c.if-b-eq72.true) (c.letter.ensures 0)

pub returns-then-b-eq76 : goal.returns-then-b-eq76
returns-then-b-eq76 c = Steps.to_kind _ _ c.args.b (let' 1) (Steps.is_l _ c.if-b-eq76.true) (c.letter-then-b-eq76.ensures 1)

pub returns-then-b-eq77 : goal.returns-then-b-eq77
returns-then-b-eq77 c = Steps.to_kind _ _ c.args.b (let' 2) (Steps.is_m _ c.if-b-eq77.true) (c.letter-then-b-eq77.ensures 2)

pub returns-then-b-eq40 : goal.returns-then-b-eq40
returns-then-b-eq40 c = Steps.to_kind _ _ c.args.b open' (Steps.is_open _ c.if-b-eq40.true) c.open.ensures

pub returns-then-b-eq41 : goal.returns-then-b-eq41
returns-then-b-eq41 c = Steps.to_kind _ _ c.args.b close (Steps.is_close _ c.if-b-eq41.true) c.close.ensures

pub returns-then-b-eq94 : goal.returns-then-b-eq94
returns-then-b-eq94 c = Steps.to_kind _ _ c.args.b hat (Steps.is_hat _ c.if-b-eq94.true) c.caret.ensures

pub returns-then-b-lt48 : goal.returns-then-b-lt48
returns-then-b-lt48 c = Steps.to_kind _ _ c.args.b bad (Steps.below _ (Steps.others _ c.if-b-eq32.false c.if-b-eq72.false c.if-b-eq76.false c.if-b-eq77.false c.if-b-eq40.false c.if-b-eq41.false c.if-b-eq94.false) c.if-b-lt48.true) (Steps.bad_stops _ _ c.stopped.ensures)

pub returns-then-b-gt57 : goal.returns-then-b-gt57
returns-then-b-gt57 c = Steps.to_kind _ _ c.args.b bad (Steps.above _ (Steps.others _ c.if-b-eq32.false c.if-b-eq72.false c.if-b-eq76.false c.if-b-eq77.false c.if-b-eq40.false c.if-b-eq41.false c.if-b-eq94.false) c.if-b-lt48.false c.if-b-gt57.true) (Steps.bad_stops _ _ c.stopped-then-b-gt57.ensures)

pub digit-requires : goal.digit-requires
digit-requires c = (c.requires, Steps.nine _ c.if-b-gt57.false)

pub returns : goal.returns
returns c = Steps.to_kind _ _ c.args.b (dig _) (Steps.is_digit _ (Steps.others _ c.if-b-eq32.false c.if-b-eq72.false c.if-b-eq76.false c.if-b-eq77.false c.if-b-eq40.false c.if-b-eq41.false c.if-b-eq94.false) c.if-b-lt48.false c.if-b-gt57.false) c.digit.ensures
