-- The wavelengths that a list of steps alone meets the surfaces with, and what a whole run writes, entry by entry. Assumes nothing.
use mathlib.Core.Path.{◌≡◌, refl, sym, ap, ◌∙◌}
use mathlib.Core.Bool.{Bool, true, false, cond}
use mathlib.Core.List.{List, [], ◌∷◌, ◌++◌}
use Prim.Native.Nat.{ℕ, zero, suc, ◌+◌, ◌-◌, ◌*◌, ◌≤◌, ◌<◌}
use native.Mathlib.Nat.{add-zero}
use native.Mathlib.Omega.{arith}
use lib.Dec.{ltb}
use lib.ListN.{length, get_or, take, drop, drop_of_length-le}
use lib.Seq.{get_or-append-add, get_or-drop, drop-cons}
use lib.Ieee.{Float}
use borrow.Author.Tests.{lt-ltb, ltb-true, ltb-false}
use Rattle.refusal.specs.Outcome.{refusal}
use Rattle.sheet.specs.Sheet.{SheetSurface, no_surface, nth}
use Rattle.sheet_values.specs.Values.{met_with, met_at}
use Rattle.train_steps.specs.declared.State.{State}
use Rattle.train_steps.specs.Train.{after_one, after_each}
use Rattle.train_claim.specs.Claim.{Action, a_step, Course, meets, is_told, course, product, chosen_s, chosen_p, steps}

-- the wavelengths that surfaces are met with in a run
unfoldable pub run_met : Float → List SheetSurface → List Float
run_met w [] = []
run_met w (y ∷ ys) = met_with w y.tuning ∷ run_met (met_with w y.tuning) ys

pub course_steps : (xs : List SheetSurface) (k d : ℕ) (w : Float) → (course xs w d (steps k)).met ≡ take k (run_met w (drop d xs))
unfolding course run_met
course_steps xs zero d w = refl
course_steps xs (suc k) d w = by (ltb d (length xs)) refl (λ n v. course_steps xs k n v)
  where
    by : (t : Bool) → ltb d (length xs) ≡ t → ((n : ℕ) (v : Float) → (course xs v n (steps k)).met ≡ take k (run_met v (drop n xs)))
        → (cond t (meets (met_with w (nth xs d).tuning) (course xs (met_with w (nth xs d).tuning) (suc d) (steps k))) (is_told (refusal 7 0) (course xs w d (steps k)))).met ≡ take (suc k) (run_met w (drop d xs))
    by true e again = rw (drop-cons xs d no_surface (ltb-true d (length xs) e)) (ap (λ (ws : List Float). met_with w (nth xs d).tuning ∷ ws) (again (suc d) (met_with w (nth xs d).tuning)))
    by false e again = let n = drop_of_length-le xs (ltb-false d (length xs) e) in again d w ∙ rw n (none k)
      where
        none : (k : ℕ) → take k (run_met w []) ≡ []
        none zero = refl
        none (suc k) = refl

-- ---- the wavelength held after a list of steps alone
module _ (w : Float) (xs : List SheetSurface) where
  held_on : (k i : ℕ) → i + k < length xs → (course xs (met_at w xs i) (suc i) (steps k)).held ≡ met_at w xs (i + k)
  unfolding course met_at
  held_on zero i h = ap (met_at w xs) (sym (add-zero i))
  held_on (suc k) i h = rw (lt-ltb (suc i) (length xs) (omega arith)) (held_on k (suc i) (omega arith) ∙ ap (met_at w xs) (further i k))
    where
      further : (i k : ℕ) → suc i + k ≡ i + suc k
      further i k = omega arith

  pub held_after : (i : ℕ) → i < length xs → (course xs w 0 (steps (suc i))).held ≡ met_at w xs i
  unfolding course met_at
  held_after i h = rw (lt-ltb 0 (length xs) (omega arith)) (held_on i 0 (omega arith) ∙ ap (met_at w xs) (from_zero i))
    where
      from_zero : (i : ℕ) → 0 + i ≡ i
      from_zero i = omega arith

module _ (d : Float) (rest : List Float) where
  two : (i : ℕ) → 2 * suc i ≡ suc (suc (2 * i))
  two i = omega arith

  three : (i : ℕ) → 2 * suc i + 1 ≡ suc (suc (2 * i + 1))
  three i = omega arith

  pub each_s : (st : State) (ys : List SheetSurface) (i : ℕ) → i < length ys → get_or (after_each st ys ++ rest) (2 * i) d ≡ product st.s (chosen_s (take (suc i) (run_met st.wavelength_nm ys)) ys)
  unfolding after_each product chosen_s after_one run_met
  each_s st [] i h = absurd (omega arith)
  each_s st (y ∷ ys) zero h = refl
  each_s st (y ∷ ys) (suc i) h = ap (λ (k : ℕ). get_or (after_each st (y ∷ ys) ++ rest) k d) (two i) ∙ each_s (after_one st y) ys i (omega arith)

  pub each_p : (st : State) (ys : List SheetSurface) (i : ℕ) → i < length ys → get_or (after_each st ys ++ rest) (2 * i + 1) d ≡ product st.p (chosen_p (take (suc i) (run_met st.wavelength_nm ys)) ys)
  unfolding after_each product chosen_p after_one run_met
  each_p st [] i h = absurd (omega arith)
  each_p st (y ∷ ys) zero h = refl
  each_p st (y ∷ ys) (suc i) h = ap (λ (k : ℕ). get_or (after_each st (y ∷ ys) ++ rest) k d) (three i) ∙ each_p (after_one st y) ys i (omega arith)

each_length : (st : State) (ys : List SheetSurface) → length (after_each st ys) ≡ 2 * length ys
unfolding after_each
each_length st [] = refl
each_length st (y ∷ ys) = let ih = each_length (after_one st y) ys in omega arith

pub left_alone : (d : Float) (st : State) (ys : List SheetSurface) (list : List Float) (i : ℕ) → 2 * length ys ≤ i → get_or (after_each st ys ++ drop (2 * length ys) list) i d ≡ get_or list i d
left_alone d st ys list i h =
    let a = after_each st ys in
    let n = 2 * length ys in
    ap (λ (j : ℕ). get_or (a ++ drop n list) j d) (sym (back (each_length st ys))) ∙ get_or-append-add a (drop n list) (i - n) d ∙ get_or-drop n list (i - n) d ∙ ap (λ (j : ℕ). get_or list j d) (again n h)
  where
    back : length (after_each st ys) ≡ 2 * length ys → length (after_each st ys) + (i - 2 * length ys) ≡ i
    back e = omega arith

    again : (n : ℕ) → n ≤ i → n + (i - n) ≡ i
    again n h = omega arith
