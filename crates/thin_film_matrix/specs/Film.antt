-- One film of evaluate_tmm_multilayer in thin_film.rs, by its numbers, in the Rust's order of operations. Definitions only.
-- `snell` is n_incident * sin_theta0, `n-c` the film's complex index.
use Rattle.std.specs.Prelude.{Float}
use Rattle.std.specs.Float.Ieee.{neg}
use Rattle.ieee.specs.Functions.{zero_f, one, half}
use Rattle.thin_film_complex.specs.declared.Complex.{Complex}
use Rattle.thin_film_complex.specs.Complex.{real, scale, exp, sqrt, ◌⊞◌, ◌⊟◌, ◌⊠◌, ◌⧄◌}
use Rattle.thin_film_matrix.specs.Matrix.{Matrix, matrix}

-- Snell angle in layer: n_c * sin(theta) = n0 * sin(theta0)
unfoldable pub sin_theta : Float → Complex → Complex
sin_theta snell n-c = real snell ⧄ n-c

unfoldable pub cos_theta : Float → Complex → Complex
cos_theta snell n-c = sqrt (real one ⊟ sin_theta snell n-c ⊠ sin_theta snell n-c)

-- e^(i delta)
unfoldable pub exp_pos : Complex → Complex
exp_pos δ = exp (record { re = neg δ.im; im = δ.re })

-- e^(-i delta)
unfoldable pub exp_neg : Complex → Complex
exp_neg δ = exp (record { re = δ.im; im = neg δ.re })

unfoldable pub cos_delta : Complex → Complex
cos_delta δ = scale (exp_pos δ ⊞ exp_neg δ) half

-- (e^(i d) - e^(-i d)) / (2 i)
unfoldable pub sin_delta : Complex → Complex
sin_delta δ = (exp_pos δ ⊟ exp_neg δ) ⊠ record { re = zero_f; im = neg half }

-- i * sin(delta)
unfoldable pub i_sin_delta : Complex → Complex
i_sin_delta δ = record { re = neg (sin_delta δ).im; im = (sin_delta δ).re }

-- the characteristic matrix of a film of phase thickness δ and admittance eta
unfoldable pub characteristic : Complex → Complex → Matrix
characteristic δ eta = matrix (cos_delta δ) (i_sin_delta δ ⧄ eta) (i_sin_delta δ ⊠ eta) (cos_delta δ)
