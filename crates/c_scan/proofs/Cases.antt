-- The cases of a call, one after the other. Assumes nothing.
use mathlib.Core.Path.{◌≡◌, refl, sym, ap, ◌∙◌}
use mathlib.Core.List.{List, [], ◌∷◌, ◌++◌, append_assoc, append-nil}
use Prim.Native.Nat.{ℕ, suc, ◌+◌, ◌≤◌, ◌<◌}
use native.Mathlib.Numerals.{add-one}
use native.Mathlib.Omega.{arith}
use lib.ListN.{length, get_or, drop, length-append, drop_of_length-le}
use lib.Seq.{drop-cons}
use lib.Ieee.{Float}
use Rattle.std.specs.Prelude.{Result, Ok, Err}
use Rattle.refusal.specs.declared.Refusal.{Refusal}
use Rattle.refusal.specs.Outcome.{Outcome, answer, refusal, map, bind, refused, number_of}
use Rattle.thin_film_solver.specs.declared.CoatingResponse.{CoatingResponse}
use Rattle.thin_film.specs.Evaluate.{refusal_of}
use Rattle.c_scan.specs.Scan.{at_case, responses}

-- ---- one case
pub is_ok : {E : Type 0} (r : Result (Unit {0}) E) → ((e : E) → r ≡ Err e → ⊥) → r ≡ Ok tt
is_ok (Ok a) h = refl
is_ok (Err e) h = absurd (h e refl)

pub was_answered : (o : Outcome CoatingResponse) → answer tt ≡ refusal_of o → (r : CoatingResponse) × (o ≡ answer r)
was_answered (answer r) e = (r, refl)
was_answered (refusal number place) e = absurd cc

pub was_refused : (o : Outcome CoatingResponse) (r : Refusal) → refused r ≡ refusal_of o → (place : ℕ) × (o ≡ refusal (number_of r) place)
was_refused (answer a) r e = absurd cc
was_refused (refusal number place) r e = let n : number ≡ number_of r = cc in (place, ap (λ (m : ℕ). refusal m place) n)

-- ---- outcomes
abbrev after : List CoatingResponse → Outcome (List CoatingResponse) → Outcome (List CoatingResponse)
after done o = map (λ rs. done ++ rs) o

after_none : (o : Outcome (List CoatingResponse)) → o ≡ after [] o
after_none (answer rs) = refl
after_none (refusal number place) = refl

after_one : (done : List CoatingResponse) (r : CoatingResponse) (o : Outcome (List CoatingResponse)) → after done (map (λ rs. r ∷ rs) o) ≡ after (done ++ (r ∷ [])) o
after_one done r (answer rs) = ap answer (sym (append_assoc done (r ∷ []) rs))
after_one done r (refusal number place) = refl

module _ (e : Float → Float → Outcome CoatingResponse) (angles wavelengths : List Float) where
  -- the first i cases gave these
  pub record Half (i : ℕ) (done : List CoatingResponse) : Type 0 where
    pub most : i ≤ length angles
    pub count : length done ≡ i
    pub is : responses e 0 angles wavelengths ≡ after done (responses e i (drop i angles) (drop i wavelengths))

  pub start : Half 0 []
  start = record { most = omega arith; count = refl; is = after_none (responses e 0 angles wavelengths) }

  module _ (same : length angles ≡ length wavelengths) (i : ℕ) (l : i < length angles) (d : Float) where
    next : responses e i (drop i angles) (drop i wavelengths) ≡ bind (at_case i (e (get_or angles i d) (get_or wavelengths i d))) (λ r. map (λ rs. r ∷ rs) (responses e (suc i) (drop (suc i) angles) (drop (suc i) wavelengths)))
    unfolding responses
    next = ap (λ (z : List Float). responses e i z (drop i wavelengths)) (drop-cons angles i d l) ∙ ap (responses e i (get_or angles i d ∷ drop (suc i) angles)) (drop-cons wavelengths i d (omega arith))

    pub further : (done : List CoatingResponse) (r : CoatingResponse) → Half i done → e (get_or angles i d) (get_or wavelengths i d) ≡ answer r → Half (i + 1) (done ++ (r ∷ []))
    further done r h k =
        let rest = responses e (suc i) (drop (suc i) angles) (drop (suc i) wavelengths) in
        record {
          most = omega arith;
          count = length-append done (r ∷ []) ∙ omega (arith, h.count);
          is =
              h.is ∙ ap (after done) (next ∙ ap (λ (o : Outcome CoatingResponse). bind (at_case i o) (λ r. map (λ rs. r ∷ rs) rest)) k)
              ∙ after_one done r rest
              ∙ ap (λ (n : ℕ). after (done ++ (r ∷ [])) (responses e n (drop n angles) (drop n wavelengths))) (sym (add-one i));
        }

    pub stops : (done : List CoatingResponse) (number place : ℕ) → Half i done → e (get_or angles i d) (get_or wavelengths i d) ≡ refusal number place → responses e 0 angles wavelengths ≡ refusal number i
    stops done number place h k =
        let rest = responses e (suc i) (drop (suc i) angles) (drop (suc i) wavelengths) in
        h.is ∙ ap (after done) (next ∙ ap (λ (o : Outcome CoatingResponse). bind (at_case i o) (λ r. map (λ rs. r ∷ rs) rest)) k)

  pub end : (i : ℕ) (done : List CoatingResponse) → length angles ≤ i → Half i done → responses e 0 angles wavelengths ≡ answer done
  unfolding responses
  end i done l h = h.is ∙ ap (λ (z : List Float). after done (responses e i z (drop i wavelengths))) (drop_of_length-le angles l) ∙ ap answer (append-nil done)
