-- `band::band` meets its contract. Assumes nothing.
use mathlib.Core.Path.{◌≡◌, sym, ap, ◌∙◌}
use mathlib.Core.Bool.{Bool, true, false, not}
use mathlib.Core.List.{List}
use Prim.Native.Nat.{ℕ, ◌≤◌, ◌<◌}
use native.Mathlib.Nat.{zero-add}
use native.Mathlib.Omega.{arith}
use borrow.Author.Tests.{not-true, not-false}
use lib.Dec.{T}
use lib.ListN.{length}
use lib.Ieee.{Float}
use Rattle.std.proofs.lemmas.Result.{err_from_is_err_and}
use Rattle.ieee.proofs.Signs.{of_true}
use Rattle.refusal.specs.declared.Refusal.{Refusal}
use Rattle.refusal.specs.Outcome.{Outcome, answer, refusal, refused, map, bind, number_of, place_of}
use Rattle.sheet.specs.Blocks.{All}
use Rattle.sheet.specs.Sheet.{Sheet}
use Rattle.sheet.specs.Read.{surfaces_of}
use Rattle.sheet.proofs.Stands.{Known}
use Rattle.gate.specs.Gate.{gated}
use Rattle.gate.specs.Wavelength.{holds}
use Rattle.gate.specs.Internal.{holds_at}
use Rattle.gate.proofs.Admitted.{gives}
use Rattle.gate.proofs.HoldsHere.{holds_here}
use Rattle.sheet_untuned.specs.Untuned.{without_tuning}
use Rattle.sheet_untuned.proofs.Admitted.{taken, not_taken}
use Rattle.band.specs.declared.BandPowers.{BandPowers}
use Rattle.band.specs.Band.{lines_fit, weight_passes, each_line, tested, whole_sum, powers, band}
use Rattle.band.specs.Internal.{first_false, AllPass}
use Rattle.band.proofs.Lines.{line_refused, lines_pass}
use Rattle.band.proofs.Sums.{light}
use Rattle.band.proofs.band.Goals as goal

module _ (src : List ℕ) (ws : List Float) (ns : List ℕ) where
  module _ (n : ℕ) (e : answer n ≡ map surfaces_of (without_tuning src)) (fit : Bool) (fit_is : fit ≡ lines_fit ws ns) where
    abbrev x : Sheet
    x = (taken src n e).sheet

    unfit : not fit ≡ true → refusal 15 64 ≡ band src ws ns
    unfolding band
    unfit f = rw ((taken src n e).is, sym fit_is ∙ not-true fit f)

    module _ (f : not fit ≡ false) where
      fits_now : lines_fit ws ns ≡ true
      fits_now = sym fit_is ∙ not-false fit f

      module _ (i : ℕ) (i-is : i ≡ first_false weight_passes ns) where
        heavy_line : i < length ns → refusal 15 i ≡ band src ws ns
        unfolding band
        heavy_line lt = rw ((taken src n e).is, fits_now, line_refused 15 weight_passes 0 ns (rw (sym i-is) lt)) (ap (refusal 15) (i-is ∙ sym (zero-add (first_false weight_passes ns))))

        module _ (le : length ns ≤ i) where
          all_light : (each_line 15 weight_passes 0 ns ≡ answer tt) × All (λ (k : ℕ). T (weight_passes k)) ns
          all_light = lines_pass 15 weight_passes 0 ns (rw (sym i-is) le)

          small : whole_sum ns < 0x1_0000_0000
          small = omega (arith, light ws ns (of_true _ fits_now) all_light.1)

          module _ (known : Known src) (j : ℕ) (j-is : j ≡ first_false (holds_at src 0 n) ws) where
            same : j ≡ first_false (λ w. holds w x.surfaces) ws
            same = j-is ∙ ap (λ (k : ℕ). first_false (holds_at src 0 k) ws) (sym (taken src n e).counts) ∙ ap (λ (g : Float → Bool). first_false g ws) (λ k w. holds_here src w x (gives src known x (taken src n e).gated_is).0 0 k)

            bad_line : j < length ws → refusal 16 j ≡ band src ws ns
            unfolding band
            bad_line lt = rw ((taken src n e).is, fits_now, all_light.0, line_refused 16 (λ w. holds w x.surfaces) 0 ws (rw (sym same) lt)) (ap (refusal 16) (same ∙ sym (zero-add (first_false (λ w. holds w x.surfaces) ws))))

            weighs : length ws ≤ j → (b : BandPowers) → ((x : Sheet) → gated src ≡ answer x → length x.surfaces ≡ n → AllPass x ws → b ≡ powers x ws ns) → answer b ≡ band src ws ns
            unfolding band
            weighs le b is =
                let p = lines_pass 16 (λ w. holds w x.surfaces) 0 ws (rw (sym same) le) in
                rw ((taken src n e).is, fits_now, all_light.0, p.0) (ap answer (is x (taken src n e).gated_is (taken src n e).counts p.1))

  not_run : (r : Refusal) → refused r ≡ map surfaces_of (without_tuning src) → refused r ≡ band src ws ns
  unfolding band
  not_run r e = sym (ap (λ (o : Outcome Sheet). bind o (λ (x : Sheet). map (λ t. powers x ws ns) (tested x ws ns))) (not_taken src (number_of r) (place_of r) e))

pub returns-then-not-lines_fit : goal.returns-then-not-lines_fit
returns-then-not-lines_fit c = unfit _ _ _ _ c.in_ok-count.ensures _ c.lines_fit.ensures (ap not c.if-not-lines_fit.true)

pub returns-then-weight-weights : goal.returns-then-weight-weights
returns-then-weight-weights c = heavy_line _ _ _ _ c.in_ok-count.ensures _ c.lines_fit.ensures (ap not c.if-not-lines_fit.false) _ c.first_weight_outside-weight.ensures c.if-weight-weights.true

pub returns-then-wavelength-wavelengths : goal.returns-then-wavelength-wavelengths
returns-then-wavelength-wavelengths c = bad_line _ _ _ _ c.in_ok-count.ensures _ c.lines_fit.ensures (ap not c.if-not-lines_fit.false) _ c.first_weight_outside-weight.ensures c.if-weight-weights.false c.type_inv.src _ c.first_wavelength_outside-wavelength.ensures c.if-wavelength-wavelengths.true

pub weighed-requires : goal.weighed-requires
weighed-requires c = (of_true _ (fits_now _ c.args.wavelengths.now c.args.weights.now _ c.in_ok-count.ensures _ c.lines_fit.ensures (ap not c.if-not-lines_fit.false)), small _ c.args.wavelengths.now c.args.weights.now _ c.in_ok-count.ensures _ c.lines_fit.ensures (ap not c.if-not-lines_fit.false) _ c.first_weight_outside-weight.ensures c.if-weight-weights.false)

pub returns : goal.returns
returns c = weighs _ _ _ _ c.in_ok-count.ensures _ c.lines_fit.ensures (ap not c.if-not-lines_fit.false) _ c.first_weight_outside-weight.ensures c.if-weight-weights.false c.type_inv.src _ c.first_wavelength_outside-wavelength.ensures c.if-wavelength-wavelengths.false _ c.weighed.ensures

pub returns-in_err-count : goal.returns-in_err-count
returns-in_err-count c =
    let p = err_from_is_err_and c.from_residual.result c.from_residual.ensures.1 in
    rw (p.1, p.2) (not_run _ _ _ _ c.in_err-count.ensures)
