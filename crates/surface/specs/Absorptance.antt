-- 02 slip 2, of a sheet's surface: the response in the answers of a coated one. Definitions only; proofs/InTheGlass.antt has the proof.
use Rattle.std.specs.Prelude.{List, Float, Some}
use Rattle.refusal.specs.Outcome.{map}
use Rattle.thin_film_solver.specs.declared.ThinFilmLayer.{ThinFilmLayer}
use Rattle.thin_film.specs.declared.SurfaceCoating.{SurfaceCoating}
use Rattle.thin_film.specs.Evaluate.{rust_evaluate_surface}
use Rattle.thin_film.specs.Absorptance.{Gains}
use Rattle.gate_limits.specs.declared.Surface.{Surface}
use Rattle.surface.specs.declared.Answers.{Answers}
use Rattle.surface.specs.Answers.{answers_of}

abbrev pub CoatedGains : Type 0
CoatedGains =
    (coating : SurfaceCoating) (wavelength : Float) (s : Surface) (layers : List ThinFilmLayer)
    → Gains (map (λ (a : Answers). a.response) (answers_of (Some coating) wavelength s layers))
    (rust_evaluate_surface coating layers s.n_incident s.n_substrate s.angle_rad wavelength)
