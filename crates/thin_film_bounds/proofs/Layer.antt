-- The products of the matrices of a surface's layers: up to 16 lossless ones, or up to 4 that absorb. Assumes nothing.
use mathlib.Core.List.{List}
use native.Mathlib.Omega.{arith}
use lib.Ieee.{Float}
use Rattle.ieee.specs.Range.{Mag, In}
use Rattle.thin_film_solver.specs.declared.ThinFilmLayer.{ThinFilmLayer}
use Rattle.thin_film_matrix.specs.Matrix.{identity}
use Rattle.thin_film_solver.specs.Solve.{product_s, product_p}
use Rattle.thin_film_bounds.specs.Range.{MPow}
use Rattle.thin_film_bounds.specs.Solver.{AdmittedLayer, AbsorbingLayer, AdmittedLayers, all_lossless, all_absorbing}
use Rattle.thin_film_bounds.proofs.Powers.{mpow_up}
use Rattle.thin_film_bounds.proofs.Film.{product_s_pow, product_p_pow}
use Rattle.thin_film_bounds.proofs.Lossless.{bounds_lossless, made_lossless}
use Rattle.thin_film_bounds.proofs.Absorbing.{bounds_absorbing, made_absorbing}

pub record Products (snell wavelength : Float) (layers : List ThinFilmLayer) : Type 0 where
  pub s : MPow 176 (product_s snell wavelength identity layers)
  pub p : MPow 176 (product_p snell wavelength identity layers)

-- a layer's entries are up to 2 ^ 9, of 16 lossless ones, or up to 2 ^ 36, of 4 that absorb
pub all_products : (snell w : Float) (layers : List ThinFilmLayer) → Mag 4 0 snell → In 100 0 10000 0 w → AdmittedLayers snell w layers → Products snell w layers
all_products snell w layers S W (all_lossless gs few) =
    let made = made_lossless snell w S W in
    record {
      s = mpow_up (product_s_pow snell w bounds_lossless (AdmittedLayer snell) made layers gs (omega (arith, few))) (omega (arith, few));
      p = mpow_up (product_p_pow snell w bounds_lossless (AdmittedLayer snell) made layers gs (omega (arith, few))) (omega (arith, few));
    }
all_products snell w layers S W (all_absorbing Z gs few) =
    let made = made_absorbing snell w Z W in
    record {
      s = mpow_up (product_s_pow snell w bounds_absorbing (AbsorbingLayer w) made layers gs (omega (arith, few))) (omega (arith, few));
      p = mpow_up (product_p_pow snell w bounds_absorbing (AbsorbingLayer w) made layers gs (omega (arith, few))) (omega (arith, few));
    }
