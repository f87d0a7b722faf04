-- An evaluation by the code of its coating: one that has a coating, one that has none, and layers that are cut off. Assumes nothing.
use Rattle.std.specs.Prelude.{None, Option, Some}
use Prim.Native.Nat.{ℕ, ◌%◌}
use mathlib.Core.Path.{◌≡◌, sym}
use mathlib.Core.List.{List}
use lib.ListN.{length}
use lib.Ieee.{Float}
use borrow.Author.Tests.{eq-eqb, ne_eqb}
use Rattle.refusal.specs.Outcome.{invalid_parameter}
use Rattle.thin_film.specs.declared.SurfaceCoating.{SurfaceCoating}
use Rattle.thin_film.specs.Evaluate.{evaluate_surface}
use Rattle.c_layers.specs.Evaluate.{layers, call_coating, evaluate_coded, evaluate}

module _ (code : ℕ) (design n_incident n_substrate angle wavelength : Float) (flat : List Float) where
  pub ragged : (length flat % 3 ≡ 0 → ⊥) → invalid_parameter ≡ evaluate code design n_incident n_substrate angle wavelength flat
  unfolding evaluate
  ragged h = simp (ne_eqb _ _ h)

  module _ (whole : length flat % 3 ≡ 0) (k : Option SurfaceCoating) (k_is : k ≡ call_coating code design) where
    pub unknown : k ≡ None → invalid_parameter ≡ evaluate code design n_incident n_substrate angle wavelength flat
    unfolding evaluate evaluate_coded
    unknown e = simp (eq-eqb _ _ whole, sym k_is, e)

    pub known : (s : SurfaceCoating) → k ≡ Some s → evaluate_surface s (layers flat) n_incident n_substrate angle wavelength ≡ evaluate code design n_incident n_substrate angle wavelength flat
    unfolding evaluate evaluate_coded
    known s e = simp (eq-eqb _ _ whole, sym k_is, e)
