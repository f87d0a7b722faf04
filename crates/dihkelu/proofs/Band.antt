-- The refusals of a band: each has a place that leaves its number apart. Assumes nothing.
use mathlib.Core.Path.{◌≡◌, refl, sym, subst}
use mathlib.Core.Logic.{◌⊎◌, inl, inr}
use mathlib.Core.List.{List}
use Prim.Native.Nat.{ℕ, ◌^◌, ◌≤◌, ◌<◌}
use native.Mathlib.Omega.{arith}
use lib.Dec.{lit<}
use lib.ListN.{length}
use lib.Ieee.{Float}
use Rattle.refusal.specs.Outcome.{Outcome, answer, refusal}
use Rattle.sheet.specs.Sheet.{Sheet}
use Rattle.sheet.specs.Claim.{Bytes}
use Rattle.gate.specs.Gate.{gated}
use Rattle.gate.proofs.Claim.{gate_claim}
use Rattle.sheet_untuned.specs.Claim.{Untuned, FirstTuning}
use Rattle.sheet_untuned.proofs.Claim.{untuned_claim}
use Rattle.band.specs.declared.BandPowers.{BandPowers}
use Rattle.band.specs.Band.{powers, band}
use Rattle.band.specs.Claim.{Told, lists, weight, wavelength, passed}
use Rattle.band.proofs.Claim.{band_claim}
use Rattle.c_call.proofs.Returned.{Sound}
use Rattle.dihkelu.proofs.Places.{place_below, gate_sound}

abbrev Held : Outcome BandPowers → Type 0
Held o = Sound o × ((b : BandPowers) → o ≡ answer b → b.lines < 2 ^ 32)

never : (number place : ℕ) (b : BandPowers) → refusal number place ≡ answer b → b.lines < 2 ^ 32
never number place b e = absurd (let z : ◌≡◌ {A = ℕ} 0 1 = cc in omega arith)

-- what is told of an admitted sheet: no line is past the 64th
module _ (x : Sheet) (ws : List Float) (ns : List ℕ) where
  below : (i n m : ℕ) → i < n → m ≡ n → m ≤ 64 → i < 2 ^ 32
  below i n m l e h = omega arith

  same : (a b : BandPowers) → answer a ≡ answer b → a.lines ≡ b.lines
  same a b e = cc

  few : (o : Outcome BandPowers) → Told x ws ns o → Held o
  few _ (lists f) = ((lit< tt, lit< tt), never 15 64)
  few _ (weight l i f) = ((lit< tt, below i (length ns) (length ws) f.inside l.equal l.most), never 15 i)
  few _ (wavelength l h i f) = ((lit< tt, below i (length ws) (length ws) f.inside refl l.most), never 16 i)
  few _ (passed l h p) = (tt, λ b e. omega (arith, same (powers x ws ns) b e, l.most))

module _ (src : List ℕ) (bytes : Bytes src) (ws : List Float) (ns : List ℕ) where
  both : Held (band src ws ns)
  both = go (gated src) refl (gate_sound src bytes)
    where
      go : (o : Outcome Sheet) → gated src ≡ o → Sound o → Held (band src ws ns)
      go (refusal number place) g s = subst Held (sym (band_claim.turned_back src number place g ws ns)) (s, never number place)
      go (answer x) g s = by (untuned_claim.either x ((gate_claim.admits src bytes x).0 g).0.0)
        where
          by : Untuned x ⊎ ((place : ℕ) × FirstTuning x place) → Held (band src ws ns)
          by (inl u) = few x ws ns (band src ws ns) (band_claim.told src bytes x g u ws ns)
          by (inr (place, f)) =
              subst Held (sym (band_claim.twelve src x g place f ws ns))
              ((lit< tt, omega (arith, place_below x ((gate_claim.admits src bytes x).0 g).0.0 place f.block f.inside f.stands)), never 12 place)

  pub band_sound : Sound (band src ws ns)
  band_sound = both.0

  pub band_small : (b : BandPowers) → band src ws ns ≡ answer b → b.lines < 2 ^ 32
  band_small = both.1
