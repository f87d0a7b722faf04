-- A train that is run from its start at a line's wavelength is that of the sheet with this wavelength. Assumes nothing.
use mathlib.Core.Path.{◌≡◌, refl, sym, ap, ◌∙◌, subst}
use Prim.Native.Nat.{ℕ}
use mathlib.Core.List.{List, [], ◌∷◌}
use lib.Dec.{T}
use lib.ListN.{length, take}
use lib.Ieee.{Float, binary64, fits, to_bits}
use lib.Ieee.Bits.{of_bits-to_bits}
use Rattle.refusal.specs.Outcome.{answer}
use Rattle.sheet.specs.Sheet.{SheetSurface, Sheet}
use Rattle.sheet.proofs.Stands.{Known}
use Rattle.gate.specs.Gate.{gated}
use Rattle.gate.specs.Wavelength.{holds}
use Rattle.gate.proofs.Admitted.{gives}
use Rattle.train_steps.proofs.RunAt.{ran_at}
use Rattle.sheet_values.specs.Values.{value, met_with}
use Rattle.train_steps.specs.declared.State.{State}
use Rattle.train_steps.specs.Train.{fresh, after_one, with_wavelength}
use Rattle.train_steps.specs.Internal.{after_all, run_at}
use Rattle.train_claim.specs.Claim.{steps, course, product, chosen_s, chosen_p, worked_out}
use Rattle.train_claim.proofs.Writes.{run_met, course_steps}
use Rattle.band.specs.Band.{at_line}
use Rattle.band.specs.Internal.{Line}

all_s : (st : State) (ys : List SheetSurface) → (after_all st ys).s ≡ product st.s (chosen_s (run_met st.wavelength_nm ys) ys)
unfolding after_all product chosen_s after_one run_met
all_s st [] = refl
all_s st (y ∷ ys) = all_s (after_one st y) ys

all_p : (st : State) (ys : List SheetSurface) → (after_all st ys).p ≡ product st.p (chosen_p (run_met st.wavelength_nm ys) ys)
unfolding after_all product chosen_p after_one run_met
all_p st [] = refl
all_p st (y ∷ ys) = all_p (after_one st y) ys

take_all : (w : Float) (ys : List SheetSurface) → take (length ys) (run_met w ys) ≡ run_met w ys
unfolding run_met
take_all w [] = refl
take_all w (y ∷ ys) = ap (λ (ws : List Float). met_with w y.tuning ∷ ws) (take_all (met_with w y.tuning) ys)

module _ (x : Sheet) (w : Float) (held : T (fits binary64 w)) where
  met_is : run_met w x.surfaces ≡ (course x.surfaces (value (to_bits binary64 w)) 0 (steps (length x.surfaces))).met
  met_is = sym (take_all w x.surfaces) ∙ sym (course_steps x.surfaces (length x.surfaces) 0 w) ∙ ap (λ (v : Float). (course x.surfaces v 0 (steps (length x.surfaces))).met) (sym (of_bits-to_bits binary64 w held))

  pub line_is : Line (after_all (with_wavelength w (fresh x)) x.surfaces) (at_line x w)
  unfolding at_line worked_out
  line_is = record {
    s = all_s (with_wavelength w (fresh x)) x.surfaces ∙ ap (λ (ws : List Float). product (value x.s) (chosen_s ws x.surfaces)) met_is;
    p = all_p (with_wavelength w (fresh x)) x.surfaces ∙ ap (λ (ws : List Float). product (value x.p) (chosen_p ws x.surfaces)) met_is;
  }

-- the run of an admitted sheet's bytes at a wavelength that holds
pub ran : (src : List ℕ) → Known src → (n : ℕ) (w : Float) → T (fits binary64 w) → (x : Sheet) → gated src ≡ answer x → length x.surfaces ≡ n → T (holds w x.surfaces) → Line (run_at src n w) (at_line x w)
ran src known n w f x g l h =
    let m = gives src known x g in
    let same = ap (λ (k : ℕ). run_at src k w) (sym l) ∙ ran_at src x m.0 m.1 w h in
    subst (λ (z : State). Line z (at_line x w)) (sym same) (line_is x w f)
