-- 02 slip 5: a surface's answers after a retune made right before it is stepped. Definitions only; what a retune and a step have to do with
-- it is in crate `train_claim`'s `EveryCall`.
use Rattle.std.specs.Prelude.{cond, List, ℕ, ltb, length, drop, Float}
use Rattle.refusal.specs.Outcome.{Outcome, answer, refusal, bind}
use Rattle.surface.specs.declared.Answers.{Answers}
use Rattle.sheet.specs.Sheet.{nth, Sheet}
use Rattle.sheet_values.specs.Values.{met_with}
use Rattle.gate.specs.Gate.{gated}
use Rattle.gate.specs.Wavelength.{holds}
use Rattle.sheet_surfaces.specs.Surfaces.{its_answers}

-- of the i-th surface, counted from 0: 'a surface's answers are those at the wavelength it is met with', and a kind 7 before it 'acts when
-- that SURFACE is stepped, over any retune made earlier'. 7 where there is no such surface, then 11 'if the wavelength is NaN or outside
-- 100 to 10,000, or some layer so tested and still to come fails the gate at it', this surface's layers being the first to come
abbrev pub retuned_before : ℕ → Float → Sheet → Outcome Answers
retuned_before i wavelength x =
    let y = nth x.surfaces i in
    cond (ltb i (length x.surfaces))
    (cond (holds wavelength (drop i x.surfaces)) (its_answers (met_with wavelength y.tuning) y) (refusal 11 0))
    (refusal 7 0)

-- 'after 4, 5 and 6'
unfoldable pub answers_at : List ℕ → ℕ → Float → Outcome Answers
answers_at src i wavelength = bind (gated src) (retuned_before i wavelength)
