-- How far the list is written, case by case. Assumes nothing.
use mathlib.Core.Path.{◌≡◌, refl, sym, ap, ◌∙◌, subst}
use mathlib.Core.List.{List, [], ◌∷◌, ◌++◌}
use Prim.Native.Nat.{ℕ, ◌+◌, ◌*◌, ◌≤◌, ◌<◌}
use native.Mathlib.Omega.{arith}
use lib.ListN.{length, get_or, drop}
use lib.Ieee.{Float}
use Rattle.refusal.specs.Outcome.{Outcome, answer, refusal}
use Rattle.thin_film_solver.specs.declared.CoatingResponse.{CoatingResponse}
use Rattle.c_call.proofs.Front.{Front, nothing}
use Rattle.c_scan.specs.Scan.{responses, all_numbers}
use Rattle.c_scan.specs.Internal.{refusal_of_all, placed, numbers_of}
use Rattle.c_scan.proofs.Cases.{Half, start, further, stops, end}
use Rattle.c_scan.proofs.Written.{one_more}
use Rattle.c_scan.proofs.Placed.{long_as, next}

module _ (e : Float → Float → Outcome CoatingResponse) (angles wavelengths before : List Float) where
  -- the first i cases are written
  pub record Filled (list : List Float) (i : ℕ) : Type 0 where
    gave : List CoatingResponse
    half : Half e angles wavelengths i gave
    pub long : length list ≡ length before
    front : Front before list (all_numbers gave) (16 * i)

  pub begun : Filled before 0
  unfolding all_numbers
  begun = record { gave = []; half = start e angles wavelengths; long = refl; front = nothing before }

  module _ (none : answer tt ≡ refusal_of_all (responses e 0 angles wavelengths)) (same : length angles ≡ length wavelengths) (room : 16 * length angles ≤ length before) (list out : List Float) (i : ℕ) (d : Float) (l : i < length angles) (h : Filled list i) where
    pub turn : out ≡ placed (16 * i) (e (get_or angles i d) (get_or wavelengths i d)) list → Filled out (i + 1)
    turn is = by (e (get_or angles i d) (get_or wavelengths i d)) refl is
      where
        by : (o : Outcome CoatingResponse) → e (get_or angles i d) (get_or wavelengths i d) ≡ o → out ≡ placed (16 * i) o list → Filled out (i + 1)
        by (answer r) k is =
            let at : 16 * i + 16 ≡ 16 * (i + 1) = omega arith in
            record {
              gave = h.gave ++ (r ∷ []);
              half = further e angles wavelengths same i l d h.gave r h.half k;
              long = ap length is ∙ long_as (16 * i) (answer r) list (omega (arith, h.long)) ∙ h.long;
              front = subst (λ (n : ℕ). Front before out (all_numbers (h.gave ++ (r ∷ []))) n) at (subst (λ (z : List Float). Front before out z (16 * i + 16)) (sym (one_more h.gave r)) (next (16 * i) before list (all_numbers h.gave) r out h.front is));
            }
        by (refusal number place) k is =
            let s : answer tt ≡ refusal_of_all (refusal number i) = none ∙ ap refusal_of_all (stops e angles wavelengths same i l d h.gave number place h.half k) in
            absurd cc

  pub ended : (list : List Float) (i : ℕ) → length angles ≤ i → Filled list i → list ≡ numbers_of (responses e 0 angles wavelengths) ++ drop (16 * length angles) before
  ended list i l h =
      let n : i ≡ length angles = omega (arith, h.half.most) in
      h.front.is ∙ ap (λ (k : ℕ). all_numbers h.gave ++ drop (16 * k) before) n ∙ ap (λ (o : Outcome (List CoatingResponse)). numbers_of o ++ drop (16 * length angles) before) (sym (end e angles wavelengths i h.gave l h.half))
