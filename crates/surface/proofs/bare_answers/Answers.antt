-- `surface::bare_answers` meets its contract. Assumes nothing.
use Rattle.std.proofs.Common.{ap, false}
use Rattle.std.proofs.lemmas.Result.{err_from_is_err_and}
use Rattle.refusal.specs.Outcome.{map}
use Rattle.thin_film_solver.specs.Solve.{no_response}
use Rattle.surface.specs.Answers.{assembled, bare_powers, bare_answers}
use Rattle.surface.proofs.bare_answers.Goals as goal

pub returns-in_err-jones : goal.returns-in_err-jones
unfolding bare_answers
returns-in_err-jones c =
    let p = err_from_is_err_and c.from_residual.result c.from_residual.ensures.1 in
    rw (p.1, p.2) (ap (map (assembled false (bare_powers c.args.surface) no_response)) c.in_err-jones.ensures)

pub returns : goal.returns
unfolding bare_answers
returns c = simp (c.assembled.ensures, c.no_response.ensures, c.bare_powers-powers.ensures) (ap (map (assembled false (bare_powers c.args.surface) no_response)) c.in_ok-jones.ensures)
