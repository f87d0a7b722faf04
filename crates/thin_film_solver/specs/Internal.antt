-- Internal: what the code holds between Layer.antt and Solve.antt. A reader need not believe it: `LayerByLayer` ties it to `evaluate`.
use Rattle.std.specs.Prelude.{◌≡◌, List, Float}
use Rattle.ieee.specs.Operators.{◌⊗◌}
use Rattle.math_trig.specs.Trig.{sin, cos}
use Rattle.thin_film_complex.specs.declared.Complex.{Complex}
use Rattle.thin_film_complex.specs.Complex.{◌⊠◌, ◌⧄◌}
use Rattle.thin_film_matrix.specs.declared.Phase.{Phase}
use Rattle.thin_film_matrix.specs.Film.{cos_theta, cos_delta, i_sin_delta}
use Rattle.thin_film_matrix.specs.Matrix.{Matrix, matrix, mat_mul, identity}
use Rattle.thin_film_solver.specs.declared.ThinFilmLayer.{ThinFilmLayer}
use Rattle.thin_film_solver.specs.declared.CoatingResponse.{CoatingResponse}
use Rattle.thin_film_solver.specs.declared.Incidence.{Incidence}
use Rattle.thin_film_solver.specs.declared.Terms.{Terms}
use Rattle.thin_film_solver.specs.Layer.{index, delta}
use Rattle.thin_film_solver.specs.Solve.{eta0_s, eta0_p, eta_sub_s, eta_sub_p, product_s, product_p, solve, respond, evaluate}

-- before any layer is read
unfoldable pub incidence : Float → Float → Float → Float → Incidence
incidence n_incident n_substrate angle wavelength = record {
  n_incident = n_incident;
  n_substrate = n_substrate;
  cos_theta0 = cos angle;
  snell = n_incident ⊗ sin angle;
  wavelength_nm = wavelength;
}

-- what m_layer_s and m_layer_p are made of: cos(delta), i * sin(delta), and the admittances
unfoldable pub terms_of : Float → Float → ThinFilmLayer → Terms
terms_of snell wavelength layer =
    let δ = delta snell wavelength layer in
    let cos = cos_theta snell (index layer) in
    record { phase = record { cos = cos_delta δ; i_sin = i_sin_delta δ }; eta_s = index layer ⊠ cos; eta_p = index layer ⧄ cos }

-- the characteristic matrix of a film of phase q and admittance eta
abbrev pub film : Phase → Complex → Matrix
film q eta = matrix q.cos (q.i_sin ⧄ eta) (q.i_sin ⊠ eta) q.cos

-- M = M * M_layer
unfoldable pub step_s : Matrix → Terms → Matrix
step_s ms t = mat_mul ms (film t.phase t.eta_s)

unfoldable pub step_p : Matrix → Terms → Matrix
step_p mp t = mat_mul mp (film t.phase t.eta_p)

-- the response, of the products of all the layers' matrices
unfoldable pub finish : Incidence → Matrix → Matrix → CoatingResponse
finish i ms mp =
    respond
    (solve ms (eta0_s i.n_incident i.cos_theta0) (eta_sub_s i.snell i.n_substrate))
    (solve mp (eta0_p i.n_incident i.cos_theta0) (eta_sub_p i.snell i.n_substrate))

-- the response, of the products so far and the layers that are left
unfoldable pub onward : Incidence → Matrix → Matrix → List ThinFilmLayer → CoatingResponse
onward i ms mp layers = finish i (product_s i.snell i.wavelength_nm ms layers) (product_p i.snell i.wavelength_nm mp layers)

-- the response of a list of layers
abbrev pub solved : Incidence → List ThinFilmLayer → CoatingResponse
solved i layers = onward i identity identity layers

-- it is the solver's; proofs/Steps.antt has the proof
abbrev pub LayerByLayer : Type 0
LayerByLayer =
    (n_incident n_substrate angle wavelength : Float) (layers : List ThinFilmLayer)
    → solved (incidence n_incident n_substrate angle wavelength) layers ≡ evaluate n_incident n_substrate angle wavelength layers
