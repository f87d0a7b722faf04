-- `thin_film_shorthand::layer` meets its contract. Assumes nothing.
use Rattle.thin_film_shorthand.proofs.Made as Made
use Rattle.thin_film_shorthand.proofs.layer.Goals as goal

pub returns-then-film-eq0 : goal.returns-then-film-eq0
returns-then-film-eq0 c = Made.alone _ _ _ _ c.args.film _ c.index-n.ensures _ c.quarter_wave-quarter.ensures c.if-film-eq0.true

pub returns : goal.returns
returns c = Made.multiplied _ _ _ _ c.args.film _ c.index-n.ensures _ _ c.quarter_wave-quarter.ensures c.dielectric.ensures c.if-film-eq0.false
