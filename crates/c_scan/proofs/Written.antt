-- All cases: how many numbers they give, and where a refusal is. Assumes nothing.
use mathlib.Core.Path.{◌≡◌, refl, sym, ap, ◌∙◌, subst}
use mathlib.Core.Bool.{Bool, true, false, ◌&&◌, cond}
use mathlib.Core.List.{List, [], ◌∷◌, ◌++◌}
use Prim.Native.Nat.{ℕ, suc, ◌+◌, ◌*◌, ◌^◌, ◌≤◌, ◌<◌}
use native.Mathlib.Omega.{arith}
use lib.Dec.{eqb, ltb, lit<}
use lib.ListN.{length, drop}
use lib.Ieee.{Float}
use borrow.Author.Tests.{le-leb, lt-leb, eq-eqb, ne_eqb, lt-ltb, le-ltb, eqb-true, ltb-true}
use Rattle.refusal.specs.Outcome.{Outcome, answer, refusal, map, bind}
use Rattle.thin_film_solver.specs.declared.CoatingResponse.{CoatingResponse}
use Rattle.c_layers.specs.Evaluate.{evaluate}
use Rattle.c_layers.proofs.Plain.{Plain, of_code}
use Rattle.c_call.specs.Call.{done, answered}
use Rattle.c_call.specs.Layout.{response_numbers}
use Rattle.c_call.proofs.Returned.{Sound}
use Rattle.c_scan.specs.Scan.{at_case, responses, too_many_cases, paired, evaluate_list, all_numbers, scanned}
use Rattle.c_scan.specs.Internal.{cases, refusal_of_all, numbers_of}

and_first : (a b : Bool) → (a && b) ≡ true → a ≡ true
and_first true b e = refl
and_first false b e = e

and_second : (a b : Bool) → (a && b) ≡ true → b ≡ true
and_second true b e = e
and_second false true e = refl
and_second false false e = e

-- ---- numbers
pub one_more : (rs : List CoatingResponse) (r : CoatingResponse) → all_numbers (rs ++ (r ∷ [])) ≡ all_numbers rs ++ response_numbers r
unfolding all_numbers
one_more [] r = refl
one_more (x ∷ rs) r = ap (λ (z : List Float). response_numbers x ++ z) (one_more rs r)

pub sixteen : (rs : List CoatingResponse) → length (all_numbers rs) ≡ 16 * length rs
unfolding all_numbers
sixteen [] = refl
sixteen (x ∷ rs) = let h = sixteen rs in omega (arith, h)

-- ---- a refusal is at a case; an answer has them all
abbrev pub Cases : ℕ → ℕ → Outcome (List CoatingResponse) → Type 0
Cases i count (answer rs) = length rs ≡ count
Cases i count (refusal number place) = (0 < number) × (place < i + count)

further : (i count : ℕ) (o : Outcome CoatingResponse) (rest : Outcome (List CoatingResponse)) → Plain o → Cases (suc i) count rest → Cases i (suc count) (bind (at_case i o) (λ r. map (λ rs. r ∷ rs) rest))
further i count (answer r) (answer rs) p h = ap suc h
further i count (answer r) (refusal number place) p h = (h.0, omega (arith, h.1))
further i count (refusal number place) rest p h = (p.0, omega arith)

module _ (e : Float → Float → Outcome CoatingResponse) (plain : (angle wavelength : Float) → Plain (e angle wavelength)) where
  pub all_cases : (i : ℕ) (angles wavelengths : List Float) → length angles ≡ length wavelengths → Cases i (length angles) (responses e i angles wavelengths)
  unfolding responses
  all_cases i [] wavelengths same = refl
  all_cases i (angle ∷ angles) [] same = absurd (omega arith)
  all_cases i (angle ∷ angles) (wavelength ∷ wavelengths) same =
      further i (length angles) (e angle wavelength) (responses e (suc i) angles wavelengths) (plain angle wavelength) (all_cases (suc i) angles wavelengths (omega arith))

pub cases_sound : (count : ℕ) (o : Outcome (List CoatingResponse)) → Cases 0 count o → count < 2 ^ 28 → Sound o
cases_sound count (answer rs) h l = tt
cases_sound count (refusal number place) h l = (h.0, omega (arith, h.1))

-- an answer has fewer than 2^32 numbers
abbrev pub Few : Outcome (List CoatingResponse) → Type 0
Few (answer rs) = length (all_numbers rs) < 2 ^ 32
Few (refusal number place) = Unit {0}

cases_few : (count : ℕ) (o : Outcome (List CoatingResponse)) → Cases 0 count o → count < 2 ^ 28 → Few o
cases_few count (answer rs) h l = omega (arith, sixteen rs)
cases_few count (refusal number place) h l = tt

few_answer : (o : Outcome (List CoatingResponse)) → Few o → (rs : List CoatingResponse) → o ≡ answer rs → (scanned rs).returned < 2 ^ 32
few_answer o f rs e = subst Few e f

-- ---- what is returned and left
pub is_refused : (o : Outcome (List CoatingResponse)) (number place : ℕ) → refusal number place ≡ refusal_of_all o → refusal number place ≡ o
is_refused (answer rs) number place e = cc
is_refused (refusal n p) number place e = ap (map (λ (x : Unit {0}). [])) e

module _ (count : ℕ) (list : List Float) where
  pub short : (o : Outcome (List CoatingResponse)) → Cases 0 count o → answer tt ≡ refusal_of_all o → length list < 16 * count → done 0x8_0000_0000 list ≡ answered scanned o list
  short (answer rs) h e l = simp (lt-leb (length (all_numbers rs)) (length list) (omega (arith, sixteen rs)))
  short (refusal number place) h e l = absurd cc

  pub whole : (o : Outcome (List CoatingResponse)) (out : List Float) → Cases 0 count o → answer tt ≡ refusal_of_all o → 16 * count ≤ length list → out ≡ numbers_of o ++ drop (16 * count) list → done (16 * count) out ≡ answered scanned o list
  whole (answer rs) out h e l is =
      let n : length (all_numbers rs) ≡ 16 * count = omega (arith, sixteen rs) in
      simp (le-leb (length (all_numbers rs)) (length list) (omega arith))
      (ap (λ (k : ℕ). done k out) (sym n) ∙ ap (done (length (all_numbers rs))) (is ∙ ap (λ (k : ℕ). all_numbers rs ++ drop k list) (sym n)))
  whole (refusal number place) out h e l is = absurd cc

-- ---- the cases of a call
module _ (code : ℕ) (design n_incident n_substrate : Float) (angles wavelengths flat : List Float) where
  module _ (same : length angles ≡ length wavelengths) where
    pub counted : Cases 0 (length angles) (cases code design n_incident n_substrate angles wavelengths flat)
    counted = all_cases (λ angle wavelength. evaluate code design n_incident n_substrate angle wavelength flat) (λ angle wavelength. of_code n_incident n_substrate angle wavelength code design flat) 0 angles wavelengths same

    pub call_sound : length angles < 2 ^ 28 → Sound (cases code design n_incident n_substrate angles wavelengths flat)
    call_sound few = cases_sound (length angles) (cases code design n_incident n_substrate angles wavelengths flat) counted few

    pub in_pairs : length angles < 2 ^ 28 → cases code design n_incident n_substrate angles wavelengths flat ≡ evaluate_list code design n_incident n_substrate angles wavelengths flat
    unfolding evaluate_list
    in_pairs few = simp (eq-eqb (length angles) (length wavelengths) same, lt-ltb (length angles) (2 ^ 28) few)

    pub too_many : 2 ^ 28 ≤ length angles → refusal 1 too_many_cases ≡ evaluate_list code design n_incident n_substrate angles wavelengths flat
    unfolding evaluate_list
    too_many many = simp (eq-eqb (length angles) (length wavelengths) same, le-ltb (length angles) (2 ^ 28) many)

  pub unequal : (length angles ≡ length wavelengths → ⊥) → refusal 1 too_many_cases ≡ evaluate_list code design n_incident n_substrate angles wavelengths flat
  unfolding evaluate_list
  unequal h = simp (ne_eqb (length angles) (length wavelengths) h)

  by : (b : Bool) → paired angles wavelengths ≡ b → Sound (cond b (cases code design n_incident n_substrate angles wavelengths flat) (refusal 1 too_many_cases)) × Few (cond b (cases code design n_incident n_substrate angles wavelengths flat) (refusal 1 too_many_cases))
  by true e =
      let same = eqb-true (length angles) (length wavelengths) (and_first (eqb (length angles) (length wavelengths)) (ltb (length angles) too_many_cases) e) in
      let few = ltb-true (length angles) (2 ^ 28) (and_second (eqb (length angles) (length wavelengths)) (ltb (length angles) too_many_cases) e) in
      (call_sound same few, cases_few (length angles) (cases code design n_incident n_substrate angles wavelengths flat) (counted same) few)
  by false e = ((lit< tt, lit< tt), tt)

  pub list_sound : Sound (evaluate_list code design n_incident n_substrate angles wavelengths flat)
  unfolding evaluate_list
  list_sound = (by (paired angles wavelengths) refl).0

  pub list_small : (rs : List CoatingResponse) → evaluate_list code design n_incident n_substrate angles wavelengths flat ≡ answer rs → (scanned rs).returned < 2 ^ 32
  unfolding evaluate_list
  list_small = few_answer (evaluate_list code design n_incident n_substrate angles wavelengths flat) (by (paired angles wavelengths) refl).1
