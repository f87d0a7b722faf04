-- Demand 3. Assumes nothing.
use mathlib.Core.Path.{◌≡◌, refl, sym, ap, ◌∙◌, subst}
use mathlib.Core.Bool.{Bool, true, false, cond}
use mathlib.Core.List.{List, [], ◌∷◌, ◌++◌}
use Prim.Native.Nat.{ℕ, zero, suc, ◌+◌, ◌*◌, ◌≤◌, ◌<◌, min}
use native.Mathlib.Nat.{add-zero, min-eq_left, min-eq_right}
use native.Mathlib.Numerals.{add-one}
use native.Mathlib.Omega.{arith}
use lib.Dec.{T, ltb}
use lib.ListN.{length, get_or, drop, length-append}
use lib.Ieee.{Float}
use lib.Seq.{drop-cons}
use lib.Ieee.Bits.{is_true}
use lib.Ieee.Fits.{and_l, and_r}
use Rattle.ieee.proofs.Signs.{of_true}
use borrow.Author.Tests.{lt-ltb, le-ltb, le-leb, lt-leb, ltb-true, ltb-false}
use Rattle.refusal.specs.Outcome.{Outcome, answer, refusal, map, bind}
use Rattle.gate_limits.specs.Limits.{wavelength_passes, power_passes, beam_passes}
use Rattle.thin_film_solver.specs.declared.ThinFilmLayer.{ThinFilmLayer}
use Rattle.surface.specs.declared.Powers.{Powers}
use Rattle.surface.specs.declared.Answers.{Answers}
use Rattle.surface.specs.Finite.{UnitPowers, Answered}
use Rattle.sheet.specs.Sheet.{SheetLayer, SheetSurface, no_surface, nth, Sheet, GoodSurface, WellFormed}
use Rattle.sheet.specs.Claim.{Bytes}
use Rattle.sheet_values.specs.Values.{value, film, films, surface_value, met_with, met_at}
use Rattle.sheet_surfaces.specs.Surfaces.{its_answers, of_surface, surface_of, numbered, nth_surface, no_film, layer_of, nth_layer, answers_to, surface_answers}
use Rattle.sheet_surfaces.proofs.Answers.{all_nth, answered}
use Rattle.gate.specs.Gate.{gated}
use Rattle.gate.specs.Wavelength.{holds}
use Rattle.gate.specs.Claim.{WithinLimits}
use Rattle.gate.proofs.Wavelengths.{Met}
use Rattle.train_steps.proofs.Takes.{takes}
use Rattle.gate.proofs.Claim.{gate_claim}
use Rattle.train_steps.specs.declared.State.{State}
use Rattle.train_steps.specs.Train.{chosen, chosen_of, chosen_powers, fresh, start, after_one, stepped, step, with_wavelength, retuned, retune, state_after, after_each, Ran, ran, run}
use Rattle.sheet_retuned.specs.Retuned.{retuned_before, answers_at}
use Rattle.train_claim.specs.Claim.{Action, a_step, a_retune, answer_to, act, acts, told, count_steps, steps, Course, meets, is_told, course, course_of, product, chosen_s, chosen_p, worked_out, Falls, AllFall, AllAnswered, AdmittedSheet, EveryCall, TurnedBack, TrainClaim}
use Rattle.train_claim.proofs.One.{one, two, metal}
use Rattle.train_claim.proofs.Falls.{Unit-powers, stays, taken, unit, begun, power_finite, sum_finite}
use Rattle.train_claim.proofs.Writes.{course_steps, held_after, each_s, each_p, left_alone}

abbrev Whole : Float → SheetSurface → Type 0
Whole w y = Answered w (surface_value y) (films w y.layers)

-- ---- a layer by its number
films_at : (w : Float) (before : List SheetLayer) (l : SheetLayer) (behind : List SheetLayer) (d : ThinFilmLayer) → get_or (films w (before ++ l ∷ behind)) (length before) d ≡ film w l
unfolding films
films_at w [] l behind d = refl
films_at w (b ∷ before) l behind d = films_at w before l behind d

within_length : (before : List SheetLayer) (l : SheetLayer) (behind : List SheetLayer) → length before < length (before ++ l ∷ behind)
within_length before l behind = rw (length-append before (l ∷ behind)) (omega arith)

layer_here : (w : Float) (y : SheetSurface) (before : List SheetLayer) (l : SheetLayer) (behind : List SheetLayer) → y.layers ≡ before ++ l ∷ behind → layer_of (length before) w y ≡ answer (film w l)
layer_here w y before l behind e = rw e (rw (lt-ltb (length before) (length (before ++ l ∷ behind)) (within_length before l behind)) (ap answer (films_at w before l behind no_film)))

-- ---- the chosen powers of a surface that is answered are from 0 to 1
module _ (w : Float) (y : SheetSurface) where
  chosen_unit : (b : Bool) (r : Powers) → UnitPowers r → T (power_passes (chosen b r).s) × T (power_passes (chosen b r).p)
  chosen_unit true r u = (u.reflectance_s, u.reflectance_p)
  chosen_unit false r u = (u.transmittance_s, u.transmittance_p)

  factor_unit : Whole w y → T (power_passes (chosen_powers w y).s) × T (power_passes (chosen_powers w y).p)
  unfolding chosen_powers
  factor_unit a = rw a.is (chosen_unit (surface_value y).reflected a.value.powers a.powers)

-- ---- one admitted sheet
module _ (src : List ℕ) (x : Sheet) (is_admitted : gated src ≡ answer x) (formed : WellFormed x) (inside : WithinLimits x) where
  abbrev xs : List SheetSurface
  xs = x.surfaces

  abbrev Held : State → Type 0
  Held st = T (holds st.wavelength_nm (drop st.done xs))

  on_step : (st : State) → step src st ≡ stepped st x
  unfolding step
  on_step st = ap (λ (o : Outcome Sheet). bind o (stepped st)) is_admitted

  on_retune : (st : State) (w : Float) → retune src st w ≡ retuned w st x
  unfolding retune
  on_retune st w = ap (λ (o : Outcome Sheet). bind o (retuned w st)) is_admitted

  on_seven : (st : State) → length xs ≤ st.done → step src st ≡ refusal 7 0
  on_seven st l = on_step st ∙ rw (le-ltb st.done (length xs) l)

  on_taken : (st : State) → st.done < length xs → holds st.wavelength_nm (drop st.done xs) ≡ true → step src st ≡ answer (after_one st (nth xs st.done))
  on_taken st l h = on_step st ∙ rw (lt-ltb st.done (length xs) l, h)

  on_eleven : (st : State) → st.done < length xs → holds st.wavelength_nm (drop st.done xs) ≡ false → step src st ≡ refusal 11 0
  on_eleven st l h = on_step st ∙ rw (lt-ltb st.done (length xs) l, h)

  on_tuned : (st : State) (w : Float) → holds w (drop st.done xs) ≡ true → retune src st w ≡ answer (with_wavelength w st)
  on_tuned st w h = on_retune st w ∙ rw h

  on_untuned : (st : State) (w : Float) → holds w (drop st.done xs) ≡ false → retune src st w ≡ refusal 11 0
  on_untuned st w h = on_retune st w ∙ rw h

  -- ---- a surface's answers after a retune made right before it is stepped
  on_answers_at : (i : ℕ) (w : Float) → answers_at src i w ≡ retuned_before i w x
  unfolding answers_at
  on_answers_at i w = ap (λ (o : Outcome Sheet). bind o (retuned_before i w)) is_admitted

  module _ (st : State) (w : Float) (l : st.done < length xs) where
    abbrev met_there : SheetSurface
    met_there = nth xs st.done

    here_at : answers_at src st.done w ≡ cond (holds w (drop st.done xs)) (its_answers (met_with w met_there.tuning) met_there) (refusal 11 0)
    here_at = on_answers_at st.done w ∙ rw (lt-ltb st.done (length xs) l)

    apart : {A : Type 0} (next : State) (number place : ℕ) → answer next ≡ refusal number place → A
    apart next number place e = let z : ◌≡◌ {A = ℕ} 0 1 = cc in absurd (omega arith)

    untuned_at : (number place : ℕ) → retune src st w ≡ refusal number place → answers_at src st.done w ≡ refusal number place
    untuned_at number place e = by (holds w (drop st.done xs)) refl
      where
        by : (b : Bool) → holds w (drop st.done xs) ≡ b → answers_at src st.done w ≡ refusal number place
        by true h = apart (with_wavelength w st) number place (sym (on_tuned st w h) ∙ e)
        by false h = here_at ∙ rw h (ap (λ (o : Outcome State). bind o (λ next. its_answers w met_there)) (sym (on_untuned st w h) ∙ e))

    abbrev Stepped : State → Type 0
    Stepped next = (after : State) × ((step src next ≡ answer after)
        × ((answers_at src st.done w ≡ its_answers after.wavelength_nm met_there) × Whole after.wavelength_nm met_there))

    then_stepped : holds w (drop st.done xs) ≡ true → Stepped (with_wavelength w st)
    unfolding after_one
    then_stepped h =
        let m = (takes x inside w st.done (of_true _ h) l).0 in
        let v = met_with w met_there.tuning in
        (after_one (with_wavelength w st) met_there, (on_taken (with_wavelength w st) l h, (here_at ∙ rw h, answered v m.0 met_there m.1 (all_nth _ xs st.done formed.surfaces l).few)))

    tuned_at : (next : State) → retune src st w ≡ answer next → Stepped next
    tuned_at next e = by (holds w (drop st.done xs)) refl
      where
        by : (b : Bool) → holds w (drop st.done xs) ≡ b → Stepped next
        by true h = let q : answer (with_wavelength w st) ≡ answer next = sym (on_tuned st w h) ∙ e in let p : with_wavelength w st ≡ next = cc in subst Stepped p (then_stepped h)
        by false h = apart next 11 0 (sym e ∙ on_untuned st w h)

  -- ---- what comes of a list of actions from a state, by a course
  record Follows (actions : List Action) (st : State) (c : Course) : Type 0 where
    ends : acts src actions st ≡ record { done = st.done + length c.met; s = product st.s (chosen_s c.met (drop st.done xs)); p = product st.p (chosen_p c.met (drop st.done xs)); wavelength_nm = c.held }
    answers_are : told src actions st ≡ c.answers
    falls : AllFall src actions st
    answers : AllAnswered c.met (drop st.done xs)
    held : Held (acts src actions st)
    powers : Unit-powers (acts src actions st)
    under : count_steps actions + st.done ≤ length xs → length c.met ≡ count_steps actions
    over : length xs ≤ count_steps actions + st.done → length c.met + st.done ≡ length xs

  nothing : (st : State) → st.done ≤ length xs → Held st → Unit-powers st → Follows [] st (course xs st.wavelength_nm st.done [])
  unfolding course product chosen_s chosen_p
  nothing st le h u = record {
    ends = λ i. record { done = sym (add-zero st.done) i; s = st.s; p = st.p; wavelength_nm = st.wavelength_nm };
    answers_are = refl;
    falls = tt;
    answers = tt;
    held = h;
    powers = u;
    under = λ k. refl;
    over = λ k. omega arith;
  }

  abbrev plain : Outcome State → Outcome Unit
  plain o = map (λ (next : State). tt) o

  -- an action that leaves done, s and p as they are: a retune, and whatever is refused
  module _ (a : Action) (more : List Action) (st : State) (w : Float) (o : Outcome Unit) (c : Course) (q : plain (answer_to src a st) ≡ o) (n : act src a st ≡ with_wavelength w st)
      (u : Unit-powers st) (f : Follows more (with_wavelength w st) c) where
    rests : (count_steps (a ∷ more) + st.done ≤ length xs → length c.met ≡ count_steps (a ∷ more)) → (length xs ≤ count_steps (a ∷ more) + st.done → length c.met + st.done ≡ length xs) → Follows (a ∷ more) st (is_told o c)
    rests under over = record {
      ends = ap (acts src more) n ∙ f.ends;
      answers_are = λ i. q i ∷ (ap (told src more) n ∙ f.answers_are) i;
      falls = subst (λ (z : State). Falls st z × AllFall src more z) (sym n) (stays st w u, f.falls);
      answers = f.answers;
      held = subst (λ (z : State). Held (acts src more z)) (sym n) f.held;
      powers = subst (λ (z : State). Unit-powers (acts src more z)) (sym n) f.powers;
      under = under;
      over = over;
    }

  -- a step that is taken
  module _ (more : List Action) (st : State) (lt : st.done < length xs) (h : Held st) (u : Unit-powers st) where
    abbrev y : SheetSurface
    y = nth xs st.done

    abbrev w : Float
    w = met_with st.wavelength_nm y.tuning

    on : Met w y × T (holds w (drop (suc st.done) xs))
    on = takes x inside st.wavelength_nm st.done h lt

    whole : Whole w y
    whole = answered w on.0.0 y on.0.1 (all_nth (GoodSurface x.edition) xs st.done formed.surfaces lt).few

    factors : T (power_passes (chosen_powers w y).s) × T (power_passes (chosen_powers w y).p)
    factors = factor_unit w y whole

    next_unit : Unit-powers (after_one st y)
    unfolding after_one
    next_unit = unit st u (st.done + 1) w (chosen_powers w y) factors.0 factors.1

    next_falls : Falls st (after_one st y)
    unfolding after_one
    next_falls = taken st u (st.done + 1) w (chosen_powers w y) factors.0 factors.1

    next_holds : Held (after_one st y)
    unfolding after_one
    next_holds = rw (add-one st.done) on.1

    step_is : step src st ≡ answer (after_one st y)
    step_is = on_taken st lt (is_true _ h)

    moves : (c : Course) → Follows more (after_one st y) c → Follows (a_step ∷ more) st (meets w c)
    unfolding after_one product chosen_s chosen_p
    moves c f =
        let e : drop st.done xs ≡ y ∷ drop (st.done + 1) xs = drop-cons xs st.done no_surface lt ∙ ap (λ (k : ℕ). y ∷ drop k xs) (sym (add-one st.done)) in
        let n : act src a_step st ≡ after_one st y = ap (state_after st) step_is in
        record {
          ends = ap (acts src more) n ∙ f.ends ∙ (λ i. record { done = count (length c.met) i; s = product st.s (chosen_s (w ∷ c.met) (sym e i)); p = product st.p (chosen_p (w ∷ c.met) (sym e i)); wavelength_nm = c.held });
          answers_are = λ i. plain (step_is i) ∷ (ap (told src more) n ∙ f.answers_are) i;
          falls = subst (λ (z : State). Falls st z × AllFall src more z) (sym n) (next_falls, f.falls);
          answers = subst (AllAnswered (w ∷ c.met)) (sym e) (whole, f.answers);
          held = subst (λ (z : State). Held (acts src more z)) (sym n) f.held;
          powers = subst (λ (z : State). Unit-powers (acts src more z)) (sym n) f.powers;
          under = λ le. let k = f.under (omega arith) in omega arith;
          over = λ le. let k = f.over (omega arith) in omega arith;
        }
      where
        count : (n : ℕ) → st.done + 1 + n ≡ st.done + suc n
        count n = omega arith

  abbrev Claimed : List Action → State → Type 0
  Claimed actions st = st.done ≤ length xs → Held st → Unit-powers st → Follows actions st (course xs st.wavelength_nm st.done actions)

  one_step : (more : List Action) (st : State) → ((next : State) → Claimed more next) → Claimed (a_step ∷ more) st
  unfolding course
  one_step more st again le h u = by (ltb st.done (length xs)) refl
    where
      by : (t : Bool) → ltb st.done (length xs) ≡ t
          → Follows (a_step ∷ more) st (cond t (meets (met_with st.wavelength_nm (nth xs st.done).tuning) (course xs (met_with st.wavelength_nm (nth xs st.done).tuning) (suc st.done) more)) (is_told (refusal 7 0) (course xs st.wavelength_nm st.done more)))
      by true e = let lt = ltb-true st.done (length xs) e in moves more st lt h u _ (again_on lt)
        where
          again_on : st.done < length xs → Follows more (after_one st (nth xs st.done)) (course xs (met_with st.wavelength_nm (nth xs st.done).tuning) (suc st.done) more)
          again_on lt =
              subst (λ (k : ℕ). Follows more (after_one st (nth xs st.done)) (course xs (met_with st.wavelength_nm (nth xs st.done).tuning) k more)) (add-one st.done)
              (unfold after_one in again (after_one st (nth xs st.done)) (omega arith) (next_holds more st lt h u) (next_unit more st lt h u))
      by false e =
          let l = ltb-false st.done (length xs) e in
          let f = again st le h u in
          rests a_step more st st.wavelength_nm (refusal 7 0) _ (ap plain (on_seven st l)) (ap (state_after st) (on_seven st l)) u f (λ k. absurd (omega arith)) (λ k. f.over (omega arith))

  one_retune : (v : Float) (more : List Action) (st : State) → ((next : State) → Claimed more next) → Claimed (a_retune v ∷ more) st
  unfolding course
  one_retune v more st again le h u = by (holds v (drop st.done xs)) refl
    where
      same : Unit-powers (with_wavelength v st)
      same = record { s_held = u.s_held; p_held = u.p_held; s = u.s; p = u.p }

      by : (t : Bool) → holds v (drop st.done xs) ≡ t → Follows (a_retune v ∷ more) st (cond t (is_told (answer tt) (course xs v st.done more)) (is_told (refusal 11 0) (course xs st.wavelength_nm st.done more)))
      by true e =
          let f = again (with_wavelength v st) le (of_true _ e) same in
          rests (a_retune v) more st v (answer tt) _ (ap plain (on_tuned st v e)) (ap (state_after st) (on_tuned st v e)) u f f.under f.over
      by false e =
          let f = again st le h u in
          rests (a_retune v) more st st.wavelength_nm (refusal 11 0) _ (ap plain (on_untuned st v e)) (ap (state_after st) (on_untuned st v e)) u f f.under f.over

  follows : (actions : List Action) (st : State) → Claimed actions st
  follows [] st = nothing st
  follows (a_step ∷ more) st = one_step more st (λ next. follows more next)
  follows (a_retune v ∷ more) st = one_retune v more st (λ next. follows more next)

  -- ---- from a fresh train
  fresh_unit : Unit-powers (fresh x)
  unfolding beam_passes
  fresh_unit =
      let b = and_r (wavelength_passes (value x.wavelength)) _ inside.beam in
      begun 0 x.s x.p (value x.wavelength) (and_l (power_passes (value x.s)) (power_passes (value x.p)) b) (and_r (power_passes (value x.s)) (power_passes (value x.p)) b)

  from_fresh : (actions : List Action) → Follows actions (fresh x) (course_of x actions)
  from_fresh actions = follows actions (fresh x) (omega arith) inside.holds fresh_unit

  lists : (actions : List Action) → acts src actions (fresh x) ≡ worked_out x actions
  unfolding worked_out
  lists actions =
      let c = course_of x actions in
      (from_fresh actions).ends ∙ (λ i. record { done = count (ltb (count_steps actions) (length xs)) refl i; s = product (value x.s) (chosen_s c.met xs); p = product (value x.p) (chosen_p c.met xs); wavelength_nm = c.held })
    where
      count : (t : Bool) → ltb (count_steps actions) (length xs) ≡ t → 0 + length (course_of x actions).met ≡ min (count_steps actions) (length xs)
      count true e =
          let l = ltb-true (count_steps actions) (length xs) e in
          let m : min (count_steps actions) (length xs) ≡ count_steps actions = min-eq_left (omega arith) in
          omega (arith, (from_fresh actions).under (omega arith))
      count false e =
          let l = ltb-false (count_steps actions) (length xs) e in
          let m : min (count_steps actions) (length xs) ≡ length xs = min-eq_right l in
          omega (arith, (from_fresh actions).over (omega arith))

  pub powers_after : (actions : List Action) → Unit-powers (worked_out x actions)
  powers_after actions = subst Unit-powers (lists actions) (from_fresh actions).powers

  -- ---- the whole run
  module _ (list : List Float) (room : 2 * length xs ≤ length list) where
    ran_whole : run src list ≡ record { result = answer (length xs); list = after_each (fresh x) xs ++ drop (2 * length xs) list }
    unfolding run
    ran_whole = ap (ran list) is_admitted ∙ rw (le-leb (2 * length xs) (length list) room)

    entry : (d : Float) (i : ℕ) → get_or (run src list).list i d ≡ get_or (after_each (fresh x) xs ++ drop (2 * length xs) list) i d
    entry d i = ap (λ (r : Ran). get_or r.list i d) ran_whole

  pub admitted : AdmittedSheet src x
  unfolding start
  admitted = record {
    starts = ap (map fresh) is_admitted;
    lists = lists;
    told = λ actions. (from_fresh actions).answers_are;
    falls = λ actions. (from_fresh actions).falls;
    held = λ actions. (from_fresh actions).held;
    runs = λ list room. ap (λ (r : Ran). r.result) (ran_whole list room);
    writes_s = λ list room d i h. entry list room d (2 * i) ∙ each_s d (drop (2 * length xs) list) (fresh x) xs i h ∙ ap (λ (ws : List Float). product (value x.s) (chosen_s ws xs)) (sym (course_steps xs (suc i) 0 (value x.wavelength))) ∙ out_s i;
    writes_p = λ list room d i h. entry list room d (2 * i + 1) ∙ each_p d (drop (2 * length xs) list) (fresh x) xs i h ∙ ap (λ (ws : List Float). product (value x.p) (chosen_p ws xs)) (sym (course_steps xs (suc i) 0 (value x.wavelength))) ∙ out_p i;
    answers = λ actions. (from_fresh actions).answers;
    finite = λ actions. let u = powers_after actions in ((power_finite _ u.s, power_finite _ u.p), sum_finite _ _ u.s u.p);
  }
    where
      out_s : (i : ℕ) → product (value x.s) (chosen_s (course_of x (steps (suc i))).met xs) ≡ (worked_out x (steps (suc i))).s
      out_s i = unfold worked_out in refl

      out_p : (i : ℕ) → product (value x.p) (chosen_p (course_of x (steps (suc i))).met xs) ≡ (worked_out x (steps (suc i))).p
      out_p i = unfold worked_out in refl

  pub every_call : EveryCall src x
  unfolding run surface_answers nth_surface nth_layer
  every_call = record {
    seven = on_seven;
    eleven = on_eleven;
    taken = on_taken;
    tuned = on_tuned;
    untuned = on_untuned;
    leaves = λ list room d i h. entry list room d i ∙ left_alone d (fresh x) xs list i h;
    eight = λ list l. ap (ran list) is_admitted ∙ rw (lt-leb (2 * length xs) (length list) l);
    answered = λ i l. ap (answers_to i) is_admitted ∙ rw (lt-ltb i (length xs) l);
    met = λ i l. held_is i ∙ held_after (value x.wavelength) xs i l;
    no_surface = λ i l. ap (answers_to i) is_admitted ∙ rw (le-ltb i (length xs) l);
    no_surface_at = λ i w l. on_answers_at i w ∙ rw (le-ltb i (length xs) l);
    untuned_at = untuned_at;
    tuned_at = tuned_at;
    surface = λ i l. ap (λ (o : Outcome Sheet). map numbered (surface_of i o)) is_admitted ∙ rw (lt-ltb i (length xs) l);
    layer = λ i l before y behind e. ap (of_surface (layer_of (length before)) i) is_admitted ∙ rw (lt-ltb i (length xs) l) (layer_here (met_at (value x.wavelength) xs i) (nth xs i) before y behind e);
    no_layer = λ i j l past. ap (of_surface (layer_of j) i) is_admitted ∙ rw (lt-ltb i (length xs) l) (rw (le-ltb j (length (nth xs i).layers) past));
  }
    where
      held_is : (i : ℕ) → (worked_out x (steps (suc i))).wavelength_nm ≡ (course_of x (steps (suc i))).held
      held_is i = unfold worked_out in refl

-- ---- bytes that the gate refuses
turned_back : (src : List ℕ) (number place : ℕ) → gated src ≡ refusal number place → TurnedBack src number place
unfolding start step retune run surface_answers answers_at nth_surface nth_layer
turned_back src number place e = record {
  starts = ap (map fresh) e;
  steps = λ st. ap (λ (o : Outcome Sheet). bind o (stepped st)) e;
  retunes = λ st w. ap (λ (o : Outcome Sheet). bind o (retuned w st)) e;
  runs = λ list. ap (ran list) e;
  answered = λ i. ap (answers_to i) e;
  answered_at = λ i w. ap (λ (o : Outcome Sheet). bind o (retuned_before i w)) e;
  surface = λ i. ap (λ (o : Outcome Sheet). map numbered (surface_of i o)) e;
  layer = λ i j. ap (of_surface (layer_of j) i) e;
}

pub train_claim : TrainClaim
train_claim = record {
  gate = gate_claim;
  admitted = λ src bs x e. let g = ((gate_claim.admits src bs x).0 e).0 in admitted src x e g.0 g.1;
  every_call = λ src bs x e. let g = ((gate_claim.admits src bs x).0 e).0 in every_call src x e g.0 g.1;
  turned_back = turned_back;
  one = one;
  two = two;
  metal = metal;
}
