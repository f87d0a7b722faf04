-- 02 slip 6: an edition 1 sheet from an edition 2 sheet. Definitions only. What runs alike is crate `edition_1_claim`'s.
use Rattle.std.specs.Prelude.{cond, List, [], ◌∷◌, ◌++◌, map, ℕ, leb, length, drop, Float}
use Rattle.std.specs.Float.{binary64}
use Rattle.std.specs.Float.Ieee.{to_bits}
use Rattle.refusal.specs.Outcome as Outcome
use Rattle.refusal.specs.Outcome.{Outcome, answer, refusal}
use Rattle.sheet.specs.Sheet.{SheetLayer, layer, cauchy, SheetSurface, Sheet, encode}
use Rattle.sheet_values.specs.Values.{value, cauchy_value, cauchy_index}
use Rattle.sheet_untuned.specs.Untuned.{without_tuning}

-- ---- the new sheet
-- 'each kind 6 becomes a LAYER with the computed index and k +0'
abbrev pub plain : Float → SheetLayer → SheetLayer
plain wavelength (layer n k thickness) = layer n k thickness
plain wavelength (cauchy a b c thickness) =
    layer (to_bits binary64 (cauchy_index wavelength (cauchy_value a b c thickness))) 0 thickness

abbrev pub plain_surface : Float → SheetSurface → SheetSurface
plain_surface wavelength y =
    record {
      tuning = y.tuning;
      payload = y.payload;
      n_incident = y.n_incident;
      n_substrate = y.n_substrate;
      angle = y.angle;
      layers = map (plain wavelength) y.layers;
    }

-- 'OPEN's payload is 1, all else is unchanged'; where there is no kind 7, the BEAM's wavelength is that of every SURFACE
unfoldable pub translated : Sheet → Sheet
translated x =
    record {
      edition = 1;
      wavelength = x.wavelength;
      s = x.s;
      p = x.p;
      surfaces = map (plain_surface (value x.wavelength)) x.surfaces;
    }

-- ---- '12 with the word of the first kind 7, after 4, 5 and 6'
unfoldable pub edition_1 : List ℕ → Outcome Sheet
edition_1 src = Outcome.map translated (without_tuning src)

-- ---- 'then 8 if the output is too short. Each leaves the output untouched'
-- 'the new sheet's length in bytes is returned, and bytes past it keep what they held'
pub record Written : Type 0 where
  pub result : Outcome ℕ
  pub output : List ℕ

abbrev pub laid : List ℕ → List ℕ → Written
laid new output =
    cond (leb (length new) (length output))
    (record { result = answer (length new); output = new ++ drop (length new) output })
    (record { result = refusal 8 0; output = output })

abbrev pub written : Outcome Sheet → List ℕ → Written
written (answer y) output = laid (encode y) output
written (refusal number place) output = record { result = refusal number place; output = output }

unfoldable pub to_edition_1 : List ℕ → List ℕ → Written
to_edition_1 src output = written (edition_1 src) output
