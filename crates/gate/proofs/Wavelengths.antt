-- A sheet is within the limits exactly where its BEAM and each of its kinds 7 pass, and each SURFACE with its layers at the wavelength that it is met with. Assumes nothing.
use mathlib.Core.Path.{◌≡◌, refl, sym, ap, subst}
use mathlib.Core.Bool.{Bool, true, false, ◌&&◌, ◌||◌}
use mathlib.Core.Logic.{◌⊎◌, inl, inr}
use mathlib.Core.List.{List, [], ◌∷◌}
use Prim.Native.Nat.{ℕ, zero, suc, ◌<◌}
use native.Mathlib.Omega.{arith}
use lib.Dec.{T}
use lib.ListN.{length}
use lib.Ieee.{Float}
use Rattle.ieee.proofs.Range.Falls.{or_l, or_r}
use Rattle.gate_limits.specs.Limits.{wavelength_passes, power_passes, beam_passes, layer_within, layers_within, surface_passes, metal_passes, passes}
use Rattle.sheet.specs.Blocks.{All}
use Rattle.sheet.specs.Sheet.{SheetLayer, Tuning, keeps, tunes, SheetSurface, nth, Sheet}
use Rattle.sheet_values.specs.Values.{value, film, films, surface_value, met_with, met_at}
use Rattle.gate.specs.Gate.{coefficients_finite, layer_admitted, all_finite, metal_admitted, snell_of}
use Rattle.gate.specs.Wavelength.{layers_admitted, surface_admitted, unless_tuned, layers_hold, holds}
use Rattle.gate.specs.Internal.{tuning_passes}
use Rattle.gate.specs.Claim.{untuned, HoldsFrom, AllHold, WithinLimits}

pub both : (a b : Bool) → T (a && b) → T a × T b
both true b t = (tt, t)
both false b t = absurd t

pub and : (a b : Bool) → T a → T b → T (a && b)
and true b s t = t
and false b s t = absurd s

pub one_of : (a b : Bool) → T (a || b) → T a ⊎ T b
one_of true b t = inl tt
one_of false b t = inr t

-- the SURFACEs, the first of which is reached with a wavelength
abbrev pub AllMet : Float → List SheetSurface → Type 0
AllMet w [] = Unit
AllMet w (y ∷ ys) =
    T (tuning_passes y.tuning) × (T (surface_passes (surface_value y)) × (T (surface_admitted (met_with w y.tuning) y) × AllMet (met_with w y.tuning) ys))

abbrev AllPass : List SheetSurface → Type 0
AllPass ys = All (λ (y : SheetSurface). T (surface_passes (surface_value y))) ys

-- ---- there
pub met_holds : (w : Float) (ys : List SheetSurface) → AllMet w ys → T (layers_hold w ys)
unfolding layers_hold
met_holds w [] h = tt
met_holds w (y ∷ ys) h = by y.tuning h.1.1 (λ m. met_holds w ys m)
  where
    by : (t : Tuning) → T (surface_admitted (met_with w t) y) × AllMet (met_with w t) ys → (AllMet w ys → T (layers_hold w ys))
        → T (unless_tuned t (surface_admitted w y && layers_hold w ys))
    by keeps h again = and (surface_admitted w y) (layers_hold w ys) h.0 (again h.1)
    by (tunes v) h again = tt

met_tuned : (w : Float) (ys : List SheetSurface) → AllMet w ys → AllHold ys
unfolding holds layers_hold
met_tuned w [] h = tt
met_tuned w (y ∷ ys) h = (by y.tuning h.0 h.1.1, met_tuned (met_with w y.tuning) ys h.1.1.1)
  where
    by : (t : Tuning) → T (tuning_passes t) → T (surface_admitted (met_with w t) y) × AllMet (met_with w t) ys → HoldsFrom t (untuned y ∷ ys)
    by keeps p h = tt
    by (tunes v) p h =
        and (wavelength_passes (value v)) (surface_admitted (value v) y && layers_hold (value v) ys) p
        (and (surface_admitted (value v) y) (layers_hold (value v) ys) h.0 (met_holds (value v) ys h.1))

met_pass : (w : Float) (ys : List SheetSurface) → AllMet w ys → AllPass ys
met_pass w [] h = tt
met_pass w (y ∷ ys) h = (h.1.0, met_pass (met_with w y.tuning) ys h.1.1.1)

beam_range : (w s p : Float) → T (beam_passes w s p) → T (wavelength_passes w)
unfolding beam_passes
beam_range w s p h = (both (wavelength_passes w) (power_passes s && power_passes p) h).0

pub met_within : (x : Sheet) → T (beam_passes (value x.wavelength) (value x.s) (value x.p)) → AllMet (value x.wavelength) x.surfaces → WithinLimits x
unfolding holds
met_within x b h =
    let w = value x.wavelength in
    record {
      beam = b;
      surfaces = met_pass w x.surfaces h;
      holds = and (wavelength_passes w) (layers_hold w x.surfaces) (beam_range w (value x.s) (value x.p) b) (met_holds w x.surfaces h);
      tuned = met_tuned w x.surfaces h;
    }

-- ---- and back
holds_met : (w : Float) (ys : List SheetSurface) → T (layers_hold w ys) → AllHold ys → AllPass ys → AllMet w ys
unfolding holds layers_hold
holds_met w [] h t p = tt
holds_met w (y ∷ ys) h t p = by y.tuning h t.0 (λ v g. holds_met v ys g t.1 p.1)
  where
    by : (u : Tuning) → T (unless_tuned u (surface_admitted w y && layers_hold w ys)) → HoldsFrom u (untuned y ∷ ys) → ((v : Float) → T (layers_hold v ys) → AllMet v ys)
        → T (tuning_passes u) × (T (surface_passes (surface_value y)) × (T (surface_admitted (met_with w u) y) × AllMet (met_with w u) ys))
    by keeps h f again = let b = both (surface_admitted w y) (layers_hold w ys) h in (tt, (p.0, (b.0, again w b.1)))
    by (tunes v) h f again =
        let a = both (wavelength_passes (value v)) (surface_admitted (value v) y && layers_hold (value v) ys) f in
        let b = both (surface_admitted (value v) y) (layers_hold (value v) ys) a.1 in
        (a.0, (p.0, (b.0, again (value v) b.1)))

pub all_met : (x : Sheet) → WithinLimits x → AllMet (value x.wavelength) x.surfaces
unfolding holds
all_met x h = let w = value x.wavelength in holds_met w x.surfaces (both (wavelength_passes w) (layers_hold w x.surfaces) h.holds).1 h.tuned h.surfaces

-- ---- a SURFACE within the limits at the wavelength that it is met with
films_within : (w b : Float) (ls : List SheetLayer) → T (layers_admitted w b ls) → T (layers_within b (films w ls))
unfolding layers_admitted layers_within films
films_within w b [] h = tt
films_within w b (l ∷ ls) h =
    let p = both (layer_admitted w b l) (layers_admitted w b ls) h in
    and (layer_within b (film w l)) (layers_within b (films w ls)) (both (coefficients_finite l) (layer_within b (film w l)) p.0).1 (films_within w b ls p.1)

pub films_length : (w : Float) (ls : List SheetLayer) → length (films w ls) ≡ length ls
unfolding films
films_length w [] = refl
films_length w (l ∷ ls) = ap suc (films_length w ls)

pub passes_met : (w : Float) (y : SheetSurface) → T (surface_passes (surface_value y)) → T (surface_admitted w y) → T (passes w (surface_value y) (films w y.layers))
unfolding passes
passes_met w y p h =
    let L = layers_within (snell_of y) (films w y.layers) in
    let M = metal_passes w (surface_value y) (films w y.layers) in
    and (surface_passes (surface_value y)) (L || M) p (elim (one_of (layers_admitted w (snell_of y) y.layers) (metal_admitted w y) h) [
      | inl t ↦ or_l L M (films_within w (snell_of y) y.layers t)
      | inr t ↦ or_r L M (both (all_finite y.layers) M t).1
    ])

later : (w : Float) (y : SheetSurface) (ys : List SheetSurface) (i : ℕ) → met_at w (y ∷ ys) (suc i) ≡ met_at (met_with w y.tuning) ys i
unfolding met_at
later w y ys zero = refl
later w y ys (suc i) = ap (λ (v : Float). met_with v (nth ys (suc i)).tuning) (later w y ys i)

tuned_range : (w : Float) (t : Tuning) → T (wavelength_passes w) → T (tuning_passes t) → T (wavelength_passes (met_with w t))
tuned_range w keeps h p = h
tuned_range w (tunes v) h p = p

abbrev pub Met : Float → SheetSurface → Type 0
Met w y = T (wavelength_passes w) × T (passes w (surface_value y) (films w y.layers))

nth_met : (w : Float) (ys : List SheetSurface) (i : ℕ) → T (wavelength_passes w) → AllMet w ys → i < length ys → Met (met_at w ys i) (nth ys i)
unfolding met_at
nth_met w [] i t h lt = absurd (omega arith)
nth_met w (y ∷ ys) zero t h lt = (tuned_range w y.tuning t h.0, passes_met (met_with w y.tuning) y h.1.0 h.1.1.0)
nth_met w (y ∷ ys) (suc i) t h lt = subst (λ (v : Float). Met v (nth ys i)) (sym (later w y ys i)) (nth_met (met_with w y.tuning) ys i (tuned_range w y.tuning t h.0) h.1.1.1 (omega arith))

-- by a list of steps alone
pub met : (x : Sheet) → WithinLimits x → (i : ℕ) → i < length x.surfaces → Met (met_at (value x.wavelength) x.surfaces i) (nth x.surfaces i)
met x h i lt = nth_met (value x.wavelength) x.surfaces i (beam_range (value x.wavelength) (value x.s) (value x.p) h.beam) (all_met x h) lt
