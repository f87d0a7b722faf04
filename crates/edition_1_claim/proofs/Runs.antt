-- A train of the new sheet goes as one of the old sheet does. Assumes nothing.
use mathlib.Core.Path.{◌≡◌, refl, sym, ap, ◌∙◌}
use mathlib.Core.Bool.{Bool, true, false, cond}
use mathlib.Core.List.{List, [], ◌∷◌, map}
use Prim.Native.Nat.{ℕ, zero, suc}
use lib.Dec.{ltb}
use lib.ListN.{length, drop, length-map}
use lib.Ieee.{Float}
use lib.Ieee.Bits.{is_true}
use Rattle.refusal.specs.Outcome as Outcome
use Rattle.refusal.specs.Outcome.{Outcome, answer, refusal, bind}
use Rattle.sheet.specs.Sheet.{keeps, SheetSurface, nth, Sheet}
use Rattle.surface.specs.declared.Answers.{Answers}
use Rattle.surface.specs.Answers.{answers}
use Rattle.sheet_values.specs.Values.{value, films, surface_value, met_at}
use Rattle.sheet_surfaces.specs.Surfaces.{answers_to, surface_answers}
use Rattle.gate.specs.Gate.{gated}
use Rattle.gate.specs.Wavelength.{holds}
use Rattle.gate.specs.Claim.{WithinLimits}
use Rattle.train_steps.specs.declared.State.{State}
use Rattle.train_steps.specs.Train.{chosen_powers, fresh, start, after_one, stepped, step, state_after, after_each, ran, run}
use Rattle.train_claim.specs.Claim.{a_step, act, acts, told, steps}
use Rattle.sheet_edition_1.specs.Edition.{plain_surface, translated}
use Rattle.sheet_untuned.specs.Claim.{Untuned}
use Rattle.edition_1_claim.proofs.Plain.{Keeps, plain_films, holds_on, nth_keeps, met_untuned, nth_plain}

-- ---- one surface
plain_one : (w : Float) (st : State) (y : SheetSurface) → st.wavelength_nm ≡ w → y.tuning ≡ keeps → after_one st (plain_surface w y) ≡ after_one st y
unfolding after_one chosen_powers
plain_one w st y e k = rw (k, e, plain_films w y.layers) refl

stays_held : (st : State) (y : SheetSurface) → y.tuning ≡ keeps → (after_one st y).wavelength_nm ≡ st.wavelength_nm
unfolding after_one
stays_held st y k = rw k refl

plain_each : (w : Float) (st : State) (ys : List SheetSurface) → st.wavelength_nm ≡ w → Keeps ys → after_each st (map (plain_surface w) ys) ≡ after_each st ys
unfolding after_each
plain_each w st [] e k = refl
plain_each w st (y ∷ ys) e k = rw (plain_one w st y e k.0, plain_each w (after_one st y) ys (stays_held st y k.0 ∙ e) k.1) refl

abbrev answers_of : Float → SheetSurface → Outcome Answers
answers_of w y = answers w (surface_value y) (films w y.layers)

-- ---- two admitted sheets
module _ (src new : List ℕ) (x : Sheet) (old-is : gated src ≡ answer x) (New-is : gated new ≡ answer (translated x)) (k : Untuned x) (k' : Untuned (translated x)) (inside : WithinLimits x) (inside' : WithinLimits (translated x)) where
  abbrev w : Float
  w = value x.wavelength

  same_run : (list : List Float) → ran list (answer (translated x)) ≡ ran list (answer x)
  unfolding translated
  same_run list = rw (length-map x.surfaces (plain_surface w), plain_each w (fresh x) x.surfaces refl k) refl

  pub runs : (list : List Float) → run new list ≡ run src list
  unfolding run
  runs list = ap (ran list) New-is ∙ same_run list ∙ sym (ap (ran list) old-is)

  pub starts : start new ≡ start src
  unfolding start translated
  starts = ap (Outcome.map fresh) New-is ∙ sym (ap (Outcome.map fresh) old-is)

  same_holds : (i : ℕ) → (holds w (drop i (translated x).surfaces) ≡ true) × (holds w (drop i x.surfaces) ≡ true)
  unfolding translated
  same_holds i = (is_true _ (holds_on w i (translated x).surfaces k' inside'.holds), is_true _ (holds_on w i x.surfaces k inside.holds))

  same_step : (st : State) → st.wavelength_nm ≡ w → stepped st (translated x) ≡ stepped st x
  unfolding translated
  same_step st e =
      let n = st.done in
      let ys = x.surfaces in
      let h : holds st.wavelength_nm (drop n (map (plain_surface w) ys)) ≡ holds st.wavelength_nm (drop n ys) = rw e ((same_holds n).0 ∙ sym (same_holds n).1) in
      let a : after_one st (nth (map (plain_surface w) ys) n) ≡ after_one st (nth ys n) = ap (after_one st) (nth_plain w ys n) ∙ plain_one w st (nth ys n) e (nth_keeps ys n k) in
      λ i. cond (ltb n (length-map ys (plain_surface w) i)) (cond (h i) (answer (a i)) (refusal 11 0)) (refusal 7 0)

  pub steps_alike : (st : State) → st.wavelength_nm ≡ w → step new st ≡ step src st
  unfolding step
  steps_alike st e = ap (λ (o : Outcome Sheet). bind o (stepped st)) New-is ∙ same_step st e ∙ sym (ap (λ (o : Outcome Sheet). bind o (stepped st)) old-is)

  -- a step leaves the wavelength that is held
  held_on : (st : State) → (state_after st (step src st)).wavelength_nm ≡ st.wavelength_nm
  unfolding step
  held_on st = ap (λ (o : Outcome Sheet). (state_after st (bind o (stepped st))).wavelength_nm) old-is ∙ by (ltb st.done (length x.surfaces)) (holds st.wavelength_nm (drop st.done x.surfaces))
    where
      by : (t u : Bool) → (state_after st (cond t (cond u (answer (after_one st (nth x.surfaces st.done))) (refusal 11 0)) (refusal 7 0))).wavelength_nm ≡ st.wavelength_nm
      by true true = stays_held st (nth x.surfaces st.done) (nth_keeps x.surfaces st.done k)
      by true false = refl
      by false u = refl

  pub lists : (n : ℕ) (st : State) → st.wavelength_nm ≡ w → acts new (steps n) st ≡ acts src (steps n) st
  lists zero st e = refl
  lists (suc n) st e = ap (λ (o : Outcome State). acts new (steps n) (state_after st o)) (steps_alike st e) ∙ lists n (act src a_step st) (held_on st ∙ e)

  pub told_alike : (n : ℕ) (st : State) → st.wavelength_nm ≡ w → told new (steps n) st ≡ told src (steps n) st
  told_alike zero st e = refl
  told_alike (suc n) st e = λ i. Outcome.map (λ (next : State). tt) (steps_alike st e i) ∷ (ap (λ (o : Outcome State). told new (steps n) (state_after st o)) (steps_alike st e) ∙ told_alike n (act src a_step st) (held_on st ∙ e)) i

  same_answers : (i : ℕ) → answers_to i (answer (translated x)) ≡ answers_to i (answer x)
  unfolding translated
  same_answers i =
      let ys = x.surfaces in
      let y = nth ys i in
      let a : answers_of (met_at w (map (plain_surface w) ys) i) (nth (map (plain_surface w) ys) i) ≡ answers_of (met_at w ys i) y =
      (λ j. answers_of (met_untuned w (map (plain_surface w) ys) i k' j) (nth_plain w ys i j)) ∙ ap (answers w (surface_value y)) (plain_films w y.layers) ∙ ap (λ (v : Float). answers_of v y) (sym (met_untuned w ys i k))
      in
      λ j. cond (ltb i (length-map ys (plain_surface w) j)) (a j) (refusal 7 0)

  pub answers_alike : (i : ℕ) → surface_answers new i ≡ surface_answers src i
  unfolding surface_answers
  answers_alike i = ap (answers_to i) New-is ∙ same_answers i ∙ sym (ap (answers_to i) old-is)
