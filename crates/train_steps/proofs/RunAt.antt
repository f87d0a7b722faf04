-- A run at a wavelength that holds takes the surfaces of the sheet one after another. Assumes nothing.
use mathlib.Core.Path.{◌≡◌, refl, sym, ap, ◌∙◌}
use mathlib.Core.List.{List}
use Prim.Native.Nat.{ℕ, zero, suc, ◌+◌, ◌<◌}
use native.Mathlib.Omega.{arith}
use lib.Dec.{T}
use lib.ListN.{length, drop, drop_of_length-le}
use lib.Seq.{drop-cons}
use lib.Ieee.{Float}
use Rattle.sheet.specs.Sheet.{no_surface, nth, Sheet}
use Rattle.sheet.specs.Internal.{next_place, place_on, layer_run, onto, begin}
use Rattle.sheet.proofs.Stands.{Standing}
use Rattle.sheet_values.specs.declared.Beam.{Beam}
use Rattle.sheet_values.specs.Internal.{beam_at}
use Rattle.gate.specs.Wavelength.{holds}
use Rattle.gate.specs.Claim.{WithinLimits}
use Rattle.train_steps.specs.declared.State.{State}
use Rattle.train_steps.specs.Train.{fresh, after_one, with_wavelength}
use Rattle.train_steps.specs.Internal.{moved_at, moved_on, run_at, after_all}
use Rattle.train_steps.proofs.Takes.{takes}
use Rattle.train_steps.proofs.Here.{beam_is, moved_here}

module _ (src : List ℕ) (x : Sheet) (stands : Standing src x) (within : WithinLimits x) where
  moves : (n i : ℕ) → i + n ≡ length x.surfaces → (at : ℕ) → at ≡ begin src i → (st : State) → T (holds st.wavelength_nm (drop i x.surfaces)) → moved_on n src at st ≡ after_all st (drop i x.surfaces)
  unfolding moved_on after_all
  moves zero i e at q st h = sym (ap (after_all st) (drop_of_length-le x.surfaces {i = i} (omega arith)))
  moves (suc n) i e at q st h =
      let ys = x.surfaces in
      let lt : i < length ys = omega arith in
      let m = takes x within st.wavelength_nm i h lt in
      let s : moved_at src at st ≡ after_one st (nth ys i) = moved_here src x stands within i lt at q st m.0 in
      ap (moved_on n src (place_on src (onto src at) (suc (layer_run 16 src (onto src at))))) s
      ∙ moves n (suc i) (omega arith) (place_on src (onto src at) (suc (layer_run 16 src (onto src at)))) (next i at q) (after_one st (nth ys i)) (unfold after_one in m.1)
      ∙ sym (ap (after_all st) (drop-cons ys i no_surface lt))
    where
      next : (i at : ℕ) → at ≡ begin src i → place_on src (onto src at) (suc (layer_run 16 src (onto src at))) ≡ begin src (suc i)
      next i at q = unfold begin in ap (λ (k : ℕ). place_on src (onto src k) (suc (layer_run 16 src (onto src k)))) q

  pub ran_at : (w : Float) → T (holds w x.surfaces) → run_at src (length x.surfaces) w ≡ after_all (with_wavelength w (fresh x)) x.surfaces
  unfolding run_at
  ran_at w h =
      ap (λ (b : Beam). moved_on (length x.surfaces) src (begin src 0) (record { done = 0; s = b.s; p = b.p; wavelength_nm = w })) (beam_is src x stands within (beam_at src (next_place src 0)) refl)
      ∙ moves (length x.surfaces) 0 (omega arith) (begin src 0) refl (with_wavelength w (fresh x)) h
