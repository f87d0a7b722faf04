-- 02 slip 2, of a sheet's surface. Assumes nothing.
use Rattle.refusal.specs.Outcome.{Outcome, answer, refusal, map}
use Rattle.thin_film_solver.specs.Absorptance.{RustResponse, with_absorptance}
use Rattle.thin_film.specs.Evaluate.{evaluate_surface}
use Rattle.thin_film.specs.Absorptance.{Gains}
use Rattle.thin_film.proofs.InTheGlass.{gains}
use Rattle.surface.specs.declared.Answers.{Answers}
use Rattle.surface.specs.Answers.{assembled, coated_answers, answers_of}
use Rattle.surface.specs.Absorptance.{CoatedGains}

-- the answers hold the response as it is
held : (rust : Outcome RustResponse) → Gains (map (λ (a : Answers). a.response) (map coated_answers (map with_absorptance rust))) rust
unfolding assembled coated_answers
held (answer r) = gains (answer r)
held (refusal number place) = gains (refusal number place)

pub coated_gains : CoatedGains
unfolding answers_of evaluate_surface
coated_gains coating wavelength s layers = held _
