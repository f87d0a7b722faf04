-- A refusal of quarter_waves is 14 with no place, and a count is a u32. Assumes nothing.
use mathlib.Core.Path.{◌≡◌, refl, sym, ◌∙◌, subst}
use mathlib.Core.Bool.{Bool, true, false}
use Prim.Native.Nat.{ℕ, ◌^◌, ◌≤◌, ◌<◌}
use native.Mathlib.Omega.{arith}
use lib.Dec.{T, lit<}
use lib.Ieee.{Float, binary64, fits}
use Rattle.refusal.specs.Outcome.{Outcome, answer, refusal}
use Rattle.quarter_waves.specs.declared.QuarterWaves.{QuarterWaves}
use Rattle.quarter_waves.specs.Waves.{admitted, quarter_waves}
use Rattle.quarter_waves.proofs.Claim.{within, outside, quarter_waves_claim}
use Rattle.c_call.proofs.Returned.{Sound}

module _ (n thickness wavelength : Float) where
  pub sound : Sound (quarter_waves n thickness wavelength)
  sound = go (admitted n thickness wavelength) refl
    where
      go : (b : Bool) → admitted n thickness wavelength ≡ b → Sound (quarter_waves n thickness wavelength)
      go true e = subst Sound (sym (within n thickness wavelength (rw e tt))) tt
      go false e = subst Sound (sym (outside n thickness wavelength (rw e tt))) (lit< tt, lit< tt)

  pub small : T (fits binary64 wavelength) → (waves : QuarterWaves) → quarter_waves n thickness wavelength ≡ answer waves → waves.count < 2 ^ 32
  small held waves e = go (admitted n thickness wavelength) refl
    where
      same : (o : Outcome QuarterWaves) (a b : QuarterWaves) → o ≡ answer a → o ≡ answer b → a.count ≡ b.count
      same o a b p q = cc

      below : (a b : ℕ) → a ≡ b → a ≤ 16000 → b < 2 ^ 32
      below a b e h = omega arith

      never : refusal 14 0 ≡ answer waves → ⊥
      never e = let z : ◌≡◌ {A = ℕ} 0 1 = cc in omega arith

      go : (b : Bool) → admitted n thickness wavelength ≡ b → waves.count < 2 ^ 32
      go true t =
          let s = quarter_waves_claim.splits n thickness wavelength (held, rw t tt) in
          below s.0.count waves.count (same (quarter_waves n thickness wavelength) s.0 waves s.1.0 e) s.1.1.1
      go false t = absurd (never (sym (outside n thickness wavelength (rw t tt)) ∙ e))
