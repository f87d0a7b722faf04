-- The claim of slip 11. Assumes nothing.
use mathlib.Core.Path.{◌≡◌, refl, sym, ap, ◌∙◌, subst}
use mathlib.Core.Bool.{Bool, true, false, not, cond}
use Prim.Native.Nat.{ℕ, ◌+◌, ◌*◌, ◌/◌, ◌%◌, ◌≤◌, ◌<◌}
use native.Mathlib.Nat.{div-add-mod', mod-lt}
use lib.Arith.{digits_div, digits_mod}
use lib.Dec.{T}
use lib.Ieee.{Float}
use Rattle.ieee.specs.Count.{count}
use Rattle.refusal.specs.Outcome.{answer, refusal}
use Rattle.quarter_waves.specs.declared.QuarterWaves.{QuarterWaves}
use Rattle.quarter_waves.specs.Waves.{path, quarter_wave, divided, admitted, quarter_waves}
use Rattle.quarter_waves.specs.Claim.{Splits, Admitted, QuarterWavesClaim}
use Rattle.quarter_waves.proofs.Counts.{of, Counted, of_count, mod_counts}
use Rattle.quarter_waves.proofs.Steps.{waves, both, by_counts}
use Rattle.quarter_waves.proofs.Lengths as lengths

pub within : (n thickness wavelength : Float) → T (admitted n thickness wavelength) → quarter_waves n thickness wavelength ≡ answer (divided (path n thickness) (quarter_wave wavelength))
unfolding quarter_waves
within n thickness wavelength = go (admitted n thickness wavelength)
  where
    go : (b : Bool) → T b → cond b (answer (divided (path n thickness) (quarter_wave wavelength))) (refusal 14 0) ≡ answer (divided (path n thickness) (quarter_wave wavelength))
    go true t = refl
    go false t = absurd t

pub outside : (n thickness wavelength : Float) → T (not (admitted n thickness wavelength)) → quarter_waves n thickness wavelength ≡ refusal 14 0
unfolding quarter_waves
outside n thickness wavelength = go (admitted n thickness wavelength)
  where
    go : (b : Bool) → T (not b) → cond b (answer (divided (path n thickness) (quarter_wave wavelength))) (refusal 14 0) ≡ refusal 14 0
    go true t = absurd t
    go false t = refl

module _ (n thickness wavelength : Float) (h : Admitted n thickness wavelength) where
  abbrev p : Float
  p = path n thickness

  abbrev q : Float
  q = quarter_wave wavelength

  some : 0 < count q
  some = lengths.some n thickness wavelength h.0 h.1

  is : divided p q ≡ waves (count p / count q) (of (count p % count q))
  is = by_counts p q (count p) (count q) refl refl

  rest : Counted (of (count p % count q)) (count p % count q)
  rest = mod_counts (lengths.abs_counted n thickness wavelength h.0 h.1) (lengths.quarter_counted n thickness wavelength h.0 h.1) some

  split : Splits p q (waves (count p / count q) (of (count p % count q)))
  split = record {
    exact = sym (ap (λ (r : ℕ). count p / count q * count q + r) rest.is ∙ div-add-mod' (count p) (count q));
    below = subst (λ (r : ℕ). r < count q) (sym rest.is) (mod-lt (count p) some);
    held = rest.held;
    sign = rest.sign;
  }

  splits : (w : QuarterWaves) × ((quarter_waves n thickness wavelength ≡ answer w) × (Splits p q w × (w.count ≤ 16000)))
  splits = (waves (count p / count q) (of (count p % count q)), (within n thickness wavelength h.1 ∙ ap answer is, (split, lengths.few n thickness wavelength h.0 h.1)))

  -- a count and a remainder that split p are the quotient and the rest
  only : (w : QuarterWaves) → Splits p q w → quarter_waves n thickness wavelength ≡ answer w
  only w s =
      let r = count w.remainder_nm in
      let c : Counted w.remainder_nm r = record { held = s.held; sign = s.sign; is = refl } in
      let u : count p / count q ≡ w.count = ap (λ (m : ℕ). m / count q) s.exact ∙ digits_div w.count s.below in
      let v : count p % count q ≡ r = ap (λ (m : ℕ). m % count q) s.exact ∙ digits_mod w.count s.below in
      within n thickness wavelength h.1 ∙ ap answer (is ∙ both (count p / count q) w.count (of (count p % count q)) w.remainder_nm u (ap of v ∙ of_count c))

pub quarter_waves_claim : QuarterWavesClaim
quarter_waves_claim = record { splits = splits; lengths = λ n thickness wavelength h. lengths.lengths n thickness wavelength h.0 h.1; only = only; outside = outside }
