-- What a call returns tells whether it answers, and what: the number and the place stay apart. Assumes nothing.
use mathlib.Core.Path.{◌≡◌, refl, sym, ◌∙◌, subst}
use mathlib.Core.Bool.{Bool, true, false, cond}
use mathlib.Core.List.{List, [], ◌∷◌, ◌++◌}
use Prim.Native.Nat.{ℕ, ◌+◌, ◌*◌, ◌^◌, ◌≤◌, ◌<◌}
use native.Mathlib.Omega.{arith}
use borrow.Author.Tests.{ltb-true}
use lib.Dec.{leb, ltb, lit<}
use lib.ListN.{length, drop}
use lib.Ieee.{Float}
use Rattle.refusal.specs.Outcome.{Outcome, answer, refusal, map, bind}
use Rattle.sheet.specs.Sheet.{nth, Sheet}
use Rattle.sheet.specs.Claim.{Bytes}
use Rattle.sheet.specs.Read.{surfaces_of}
use Rattle.gate.specs.Gate.{gated, gate}
use Rattle.gate.specs.Wavelength.{holds}
use Rattle.gate.proofs.Claim.{gate_claim}
use Rattle.surface.specs.declared.Answers.{Answers}
use Rattle.train_steps.specs.declared.State.{State}
use Rattle.train_steps.specs.Train.{fresh, after_one, stepped, step, with_wavelength, retuned, retune, Ran, ran, run}
use Rattle.sheet_surfaces.specs.Surfaces.{surface_answers}
use Rattle.sheet_retuned.specs.Retuned.{answers_at}
use Rattle.c_layers.specs.Evaluate.{evaluate}
use Rattle.c_layers.proofs.Plain.{of_code}
use Rattle.c_call.specs.Call.{done, packed, returned, Reply, answered}
use Rattle.c_call.specs.Layout.{response_numbers, common, evaluated, surface_answered, rows}
use Rattle.thin_film_solver.specs.declared.ThinFilmLayer.{ThinFilmLayer}
use Rattle.c_scan.specs.Scan.{evaluate_list, scanned}
use Rattle.c_scan.proofs.Written.{list_sound, list_small}
use Rattle.c_scan.proofs.Argument.{argument_small}
use Rattle.thin_film_shorthand.specs.Stack.{stack}
use Rattle.c_stack.specs.Stack.{stacked}
use Rattle.reflectance_range.specs.Range.{reflectance_range}
use Rattle.c_range.specs.Range.{ranged}
use Rattle.c_range.proofs.Sound.{sound}
use Rattle.quarter_waves.specs.declared.QuarterWaves.{QuarterWaves}
use Rattle.quarter_waves.specs.Waves.{quarter_waves}
use Rattle.c_quarter_waves.specs.Waves.{counted}
use Rattle.c_quarter_waves.proofs.Sound.{sound as waves-sound, small}
use Rattle.c_stack.proofs.Flat.{flat_length}
use Rattle.c_mueller.specs.Mueller.{converted}
use Rattle.c_mueller.proofs.Answered.{converted_sound}
use Rattle.c_stack.proofs.Stacked.{Few, few_layers, few_sound}
use Rattle.band.specs.Band.{band}
use Rattle.dihkelu.specs.Train.{went, started, moved, run_done}
use Rattle.sheet_edition_1.specs.Edition.{to_edition_1}
use Rattle.dihkelu.specs.Band.{banded}
use Rattle.dihkelu.specs.Numbers.{Tells, said, Numbers}
use Rattle.c_call.proofs.Returned.{Sound}
use Rattle.dihkelu.proofs.Places.{plain_sound, gate_sound}
use Rattle.dihkelu.proofs.Answered.{answers_sound, answers_at_sound}
use Rattle.dihkelu.proofs.Rewritten.{Fine, Small, fine}
use Rattle.dihkelu.proofs.Band.{band_sound, band_small}

-- ---- one number
pub tells_answer : (n : ℕ) → n < 2 ^ 32 → Tells (answer n) n
tells_answer n h = (omega arith, omega arith)

tells_refusal : (number place : ℕ) → 0 < number → place < 2 ^ 32 → Tells (refusal number place) (packed number place)
tells_refusal number place h k = (h, (omega arith, omega arith))

tells_short : Tells (refusal 8 0) (packed 8 0)
tells_short = tells_refusal 8 0 (lit< tt) (lit< tt)

pub tells_fine : (o : Outcome ℕ) → Fine Small o → Tells o (returned o)
tells_fine (answer n) h = tells_answer n h
tells_fine (refusal number place) h = tells_refusal number place h.0 h.1

-- ---- a state that is lent
tells_state : {A : Type 0} (number : A → ℕ) (next : A → State) (o : Outcome A) → Sound o → ((a : A) → o ≡ answer a → number a < 2 ^ 32) → (lent : State) → Tells (map number o) (went number next o lent).returned
tells_state number next (answer a) s small lent = tells_answer (number a) (small a refl)
tells_state number next (refusal n place) s small lent = tells_refusal n place s.0 s.1

-- ---- a list that is lent
pub tells : {A : Type 0} (layout : A → Reply) (o : Outcome A) → Sound o → ((a : A) → o ≡ answer a → (layout a).returned < 2 ^ 32) → (list : List Float) → Tells (said layout o list) (answered layout o list).returned
tells layout (answer a) s small list = go (leb (length (layout a).numbers) (length list)) (small a refl)
  where
    front : List Float
    front = (layout a).numbers ++ drop (length (layout a).numbers) list

    go : (b : Bool) → (layout a).returned < 2 ^ 32 → Tells (cond b (answer (layout a).returned) (refusal 8 0)) (cond b (done (layout a).returned front) (done (packed 8 0) list)).returned
    go true h = tells_answer (layout a).returned h
    go false h = tells_short
tells layout (refusal number place) s small list = tells_refusal number place s.0 s.1

either : (b : Bool) (x y : Ran) → Tells x.result (returned x.result) → Tells y.result (returned y.result) → Tells (cond b x y).result (returned (cond b x y).result)
either true x y h k = h
either false x y h k = k

never : {A : Type 0} (number place : ℕ) (a : A) → refusal number place ≡ answer a → ⊥
never number place a e = let z : ◌≡◌ {A = ℕ} 0 1 = cc in omega arith

-- ---- a sheet
module _ (src : List ℕ) (bytes : Bytes src) where
  few : (x : Sheet) → gated src ≡ answer x → length x.surfaces ≤ 64
  few x e = ((gate_claim.admits src bytes x).0 e).0.0.few

  below : (n : ℕ) → n ≤ 64 → n < 2 ^ 32
  below n h = omega arith

  of_gate : Tells (gate src) (returned (gate src))
  unfolding gate
  of_gate = go (gated src) (gate_sound src bytes) few
    where
      go : (o : Outcome Sheet) → Sound o → ((x : Sheet) → o ≡ answer x → length x.surfaces ≤ 64) → Tells (map surfaces_of o) (returned (map surfaces_of o))
      go (answer x) s h = tells_answer (surfaces_of x) (below (surfaces_of x) (h x refl))
      go (refusal number place) s h = tells_refusal number place s.0 s.1

  of_start : (lent : State) → Tells (gate src) (started (gated src) lent).returned
  unfolding gate
  of_start lent = tells_state surfaces_of fresh (gated src) (gate_sound src bytes) (λ x e. below (surfaces_of x) (few x e)) lent

  of_run : (list : List Float) → Tells (run src list).result (run_done (run src list)).returned
  unfolding run
  of_run list = go (gated src) (gate_sound src bytes) few
    where
      go : (o : Outcome Sheet) → Sound o → ((x : Sheet) → o ≡ answer x → length x.surfaces ≤ 64) → Tells (ran list o).result (returned (ran list o).result)
      go (answer x) s h = either (leb (2 * length x.surfaces) (length list)) _ _ (tells_answer (surfaces_of x) (below (surfaces_of x) (h x refl))) tells_short
      go (refusal number place) s h = tells_refusal number place s.0 s.1

  -- ---- a step, a retune
  or_refused : (b : Bool) (number : ℕ) (x : Outcome State) → 0 < number → Sound x → Sound (cond b x (refusal number 0))
  or_refused true number x n h = h
  or_refused false number x n h = (n, lit< tt)

  or_small : (b : Bool) (number place : ℕ) (x : Outcome State) (next : State) → (b ≡ true → x ≡ answer next → next.done < 2 ^ 32) → cond b x (refusal number place) ≡ answer next → next.done < 2 ^ 32
  or_small true number place x next h e = h refl e
  or_small false number place x next h e = absurd (never number place next e)

  done_is : (a b : State) → answer a ≡ answer b → a.done ≡ b.done
  done_is a b e = cc

  module _ (st : State) where
    pub step_sound : Sound (step src st)
    unfolding step
    step_sound = go (gated src) (gate_sound src bytes)
      where
        go : (o : Outcome Sheet) → Sound o → Sound (bind o (stepped st))
        go (answer x) s =
            let h = holds st.wavelength_nm (drop st.done x.surfaces) in
            let next = answer (after_one st (nth x.surfaces st.done)) in
            or_refused (ltb st.done (length x.surfaces)) 7 (cond h next (refusal 11 0)) (lit< tt) (or_refused h 11 next (lit< tt) tt)
        go (refusal number place) s = s

    step_small : (next : State) → step src st ≡ answer next → next.done < 2 ^ 32
    unfolding step after_one
    step_small next = go (gated src) few
      where
        go : (o : Outcome Sheet) → ((x : Sheet) → o ≡ answer x → length x.surfaces ≤ 64) → bind o (stepped st) ≡ answer next → next.done < 2 ^ 32
        go (answer x) h e =
            let n = length x.surfaces in
            let t = holds st.wavelength_nm (drop st.done x.surfaces) in
            let after = after_one st (nth x.surfaces st.done) in
            or_small (ltb st.done n) 7 0 (cond t (answer after) (refusal 11 0)) next
            (λ l. or_small t 11 0 (answer after) next (λ u f. bounded (ltb-true st.done n l) (h x refl) (done_is after next f))) e
          where
            bounded : st.done < length x.surfaces → length x.surfaces ≤ 64 → st.done + 1 ≡ next.done → next.done < 2 ^ 32
            bounded l m d = omega arith
        go (refusal number place) h e = absurd (never number place next e)

    of_step : Tells (map (λ next. next.done) (step src st)) (moved (step src st) st).returned
    of_step = tells_state (λ next. next.done) (λ next. next) (step src st) step_sound step_small st

    module _ (w : Float) where
      pub retune_sound : Sound (retune src st w)
      unfolding retune
      retune_sound = go (gated src) (gate_sound src bytes)
        where
          go : (o : Outcome Sheet) → Sound o → Sound (bind o (retuned w st))
          go (answer x) s = or_refused (holds w (drop st.done x.surfaces)) 11 (answer (with_wavelength w st)) (lit< tt) tt
          go (refusal number place) s = s

      retune_small : st.done < 2 ^ 32 → (next : State) → retune src st w ≡ answer next → next.done < 2 ^ 32
      unfolding retune
      retune_small h next = go (gated src)
        where
          go : (o : Outcome Sheet) → bind o (retuned w st) ≡ answer next → next.done < 2 ^ 32
          go (answer x) e = or_small (holds w (drop st.done x.surfaces)) 11 0 (answer (with_wavelength w st)) next (λ t f. subst (λ (n : ℕ). n < 2 ^ 32) (done_is (with_wavelength w st) next f) h) e
          go (refusal number place) e = absurd (never number place next e)

    of_retune : st.done < 2 ^ 32 → (w : Float) → Tells (map (λ next. next.done) (retune src st w)) (moved (retune src st w) st).returned
    of_retune h w = tells_state (λ next. next.done) (λ next. next) (retune src st w) (retune_sound w) (retune_small w h) st

-- ---- how many numbers are written
answers_small : (a : Answers) → (surface_answered a).returned < 2 ^ 32
answers_small a = go a.coated
  where
    go : (b : Bool) → length (common a ++ cond b (response_numbers a.response) []) < 2 ^ 32
    go true = lit< tt
    go false = lit< tt

stack_small : (o : Outcome (List ThinFilmLayer)) → Few o → (layers : List ThinFilmLayer) → o ≡ answer layers → (stacked layers).returned < 2 ^ 32
stack_small (answer x) few layers e = let s : x ≡ layers = cc in rw (sym s) (rw (flat_length x) (omega arith))
stack_small (refusal number place) few layers e = absurd (never number place layers e)

-- ---- one number that is lent
tells_count : (o : Outcome QuarterWaves) → Sound o → ((waves : QuarterWaves) → o ≡ answer waves → waves.count < 2 ^ 32) → (remainder : Float) → Tells (map (λ waves. waves.count) o) (answered counted o (remainder ∷ [])).returned
tells_count (answer waves) s small remainder = tells_answer waves.count (small waves refl)
tells_count (refusal number place) s small remainder = tells_refusal number place s.0 s.1

pub numbers : Numbers
numbers = record {
  of_gate = of_gate;
  of_start = of_start;
  of_step = of_step;
  of_retune = of_retune;
  of_run = of_run;
  of_edition_1 = λ src bytes output. tells_fine (to_edition_1 src output).result (fine src bytes output);
  of_band = λ src bytes ws ns list. tells banded (band src ws ns) (band_sound src bytes ws ns) (band_small src bytes ws ns) list;
  of_answers = λ src bytes i list. tells surface_answered (surface_answers src i) (answers_sound src bytes i) (λ a e. answers_small a) list;
  of_answers_at = λ src bytes i w list. tells surface_answered (answers_at src i w) (answers_at_sound src bytes i w) (λ a e. answers_small a) list;
  of_evaluate = λ code design n_incident n_substrate angle wavelength flat list.
      let o = evaluate code design n_incident n_substrate angle wavelength flat in
      tells evaluated o (plain_sound o (of_code n_incident n_substrate angle wavelength code design flat)) (λ r e. lit< tt) list;
  of_evaluate_list = λ code design n_incident n_substrate angles wavelengths flat list.
      let o = evaluate_list code design n_incident n_substrate angles wavelengths flat in
      tells scanned o (list_sound code design n_incident n_substrate angles wavelengths flat) (list_small code design n_incident n_substrate angles wavelengths flat) list;
  of_invalid_argument = λ n_incident n_substrate angle wavelength. tells_answer _ (argument_small n_incident n_substrate angle wavelength);
  of_stack = λ text n_h n_l n_m design list.
      let o = stack text n_h n_l n_m design in
      let few = few_layers text n_h n_l n_m design in
      tells stacked o (few_sound o few) (stack_small o few) list;
  of_mueller = λ conversion numbers list. tells rows (converted conversion numbers) (converted_sound conversion numbers list) (λ m e. lit< tt) list;
  of_reflectance_range = λ a b c d list. tells ranged (reflectance_range a b c d) (sound a b c d) (λ r e. lit< tt) list;
  of_quarter_waves = λ n thickness wavelength held remainder.
      tells_count (quarter_waves n thickness wavelength) (waves-sound n thickness wavelength) (small n thickness wavelength held) remainder;
}
