-- 02 slip 14: a whole band. Definitions only.
use Rattle.std.specs.Prelude.{Bool, ◌&&◌, cond, List, [], ◌∷◌, ℕ, suc, ◌+◌, eqb, leb, pos, length, Float}
use Rattle.std.specs.Float.{binary64}
use Rattle.std.specs.Float.Ieee.{of_int, to_bits}
use Rattle.ieee.specs.Operators.{◌⊕◌, ◌⊗◌, ◌⊘◌}
use Rattle.ieee.specs.Functions.{zero_f}
use Rattle.refusal.specs.Outcome.{Outcome, answer, refusal, map, bind}
use Rattle.sheet.specs.Sheet.{Sheet}
use Rattle.gate.specs.Wavelength.{holds}
use Rattle.sheet_untuned.specs.Untuned.{without_tuning}
use Rattle.train_steps.specs.declared.State.{State}
use Rattle.train_claim.specs.Claim.{steps, worked_out}
use Rattle.band.specs.declared.BandPowers.{BandPowers}

-- ---- a line
-- 'line wavelength in place of the BEAM's'
abbrev pub at_wavelength : Sheet → Float → Sheet
at_wavelength x wavelength =
    record { edition = x.edition; wavelength = to_bits binary64 wavelength; s = x.s; p = x.p; surfaces = x.surfaces }

-- 'The train is run at each line from its start': its state after the last surface
unfoldable pub at_line : Sheet → Float → State
at_line x wavelength = worked_out (at_wavelength x wavelength) (steps (length x.surfaces))

-- ---- what is refused
-- '1 to 64 lines', else 'no lines, too many or lists of unequal length'
abbrev pub lines_fit : List Float → List ℕ → Bool
lines_fit wavelengths weights =
    leb 1 (length wavelengths) && (leb (length wavelengths) 64 && eqb (length wavelengths) (length weights))

-- 'a whole weight 1 to 1,000'
abbrev pub weight_passes : ℕ → Bool
weight_passes weight = leb 1 weight && leb weight 1000

-- a number with the first of some lines that fails a test, 'lines counted from 0'
unfoldable pub each_line : {A : Type 0} → ℕ → (A → Bool) → ℕ → List A → Outcome Unit
each_line number passes line [] = answer tt
each_line number passes line (a ∷ more) = cond (passes a) (each_line number passes (suc line) more) (refusal number line)

-- 15, then 16: 'the first line whose wavelength the gate refuses, for itself or for a layer'
abbrev pub tested : Sheet → List Float → List ℕ → Outcome Unit
tested x wavelengths weights =
    cond (lines_fit wavelengths weights)
    (bind (each_line 15 weight_passes 0 weights) (λ t. each_line 16 (λ w. holds w x.surfaces) 0 wavelengths))
    (refusal 15 64)

-- ---- the result
abbrev pub whole : ℕ → Float
whole n = of_int binary64 (pos n)

-- 'weight·s is added up first', in list order, onto a total
unfoldable pub added_up : (State → Float) → Sheet → Float → List Float → List ℕ → Float
added_up power x total [] weights = total
added_up power x total (w ∷ wavelengths) [] = total
added_up power x total (w ∷ wavelengths) (n ∷ weights) =
    added_up power x (total ⊕ whole n ⊗ power (at_line x w)) wavelengths weights

-- 'W, the whole sum of weights'
unfoldable pub whole_sum : List ℕ → ℕ
whole_sum [] = 0
whole_sum (n ∷ weights) = n + whole_sum weights

-- 'onto +0, and the total is divided by W'
abbrev pub mean : (State → Float) → Sheet → List Float → List ℕ → Float
mean power x wavelengths weights = added_up power x zero_f wavelengths weights ⊘ whole (whole_sum weights)

abbrev pub powers : Sheet → List Float → List ℕ → BandPowers
powers x wavelengths weights =
    record {
      lines = length wavelengths;
      s = mean (λ st. st.s) x wavelengths weights;
      p = mean (λ st. st.p) x wavelengths weights;
    }

-- 'Order: 4, 5, 6, 12, 15, 16'
unfoldable pub band : List ℕ → List Float → List ℕ → Outcome BandPowers
band src wavelengths weights =
    bind (without_tuning src) (λ x. map (λ t. powers x wavelengths weights) (tested x wavelengths weights))
