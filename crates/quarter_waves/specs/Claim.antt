-- 02 slip 11: the claim. Definitions only; proofs/Claim.antt has the proof.
use Rattle.std.specs.Prelude.{◌≡◌, not, ◌+◌, ◌*◌, ◌≤◌, ◌<◌, T, Float}
use Rattle.std.specs.Float.{binary64}
use Rattle.std.specs.Float.Ieee.{fits}
use Rattle.std.specs.Float.Ieee.Scale.{finite}
use Rattle.ieee.specs.Count.{count}
use Rattle.ieee.specs.Range.{sgn, plus}
use Rattle.refusal.specs.Outcome.{answer, refusal}
use Rattle.quarter_waves.specs.declared.QuarterWaves.{QuarterWaves}
use Rattle.quarter_waves.specs.Waves.{path, quarter_wave, admitted, quarter_waves}

-- 'p = count·q + remainder holds with no rounding and the remainder is at least 0 (a zero is +0) and below q', over whole counts of
-- 2 ^ -1074
pub record Splits (p q : Float) (waves : QuarterWaves) : Type 0 where
  pub exact : count p ≡ waves.count * count q + count waves.remainder_nm
  pub below : count waves.remainder_nm < count q
  -- an f64 that is finite and whose sign is clear
  pub held : T (fits binary64 waves.remainder_nm)
  pub sign : T (plus waves.remainder_nm)

-- p and q themselves: p is finite and at least 0, of which -0 counts as 0; four of q are the wavelength
pub record Lengths (wavelength p q : Float) : Type 0 where
  pub path_finite : T (finite p)
  pub path_sign : T (sgn p) → count p ≡ 0
  pub quarter_sign : T (plus q)
  pub quarter_exact : 4 * count q ≡ count wavelength

-- numbers within the limits; the wavelength is an f64, and any number may stand for the other two
abbrev pub Admitted : Float → Float → Float → Type 0
Admitted n thickness wavelength = T (fits binary64 wavelength) × T (admitted n thickness wavelength)

pub record QuarterWavesClaim : Type 0 where
  -- a call within the limits has an answer, which splits p, of at most 16,000 quarter waves: 'the count is a u32'
  pub splits : (n thickness wavelength : Float) → Admitted n thickness wavelength → (waves : QuarterWaves) ×
      ((quarter_waves n thickness wavelength ≡ answer waves) ×
      (Splits (path n thickness) (quarter_wave wavelength) waves × (waves.count ≤ 16000)))
  pub lengths : (n thickness wavelength : Float) → Admitted n thickness wavelength →
      Lengths wavelength (path n thickness) (quarter_wave wavelength)
  -- nothing else splits it
  pub only : (n thickness wavelength : Float) → Admitted n thickness wavelength → (waves : QuarterWaves) →
      Splits (path n thickness) (quarter_wave wavelength) waves → quarter_waves n thickness wavelength ≡ answer waves
  -- outside the limits it is 14
  pub outside : (n thickness wavelength : Float) → T (not (admitted n thickness wavelength)) →
      quarter_waves n thickness wavelength ≡ refusal 14 0
