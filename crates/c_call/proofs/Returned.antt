-- What is returned for an outcome, and what is left in the list. Assumes nothing.
use mathlib.Core.Path.{◌≡◌, sym, ap, ◌∙◌, subst}
use mathlib.Core.List.{List}
use Prim.Native.Nat.{ℕ, ◌%◌, ◌^◌, ◌<◌}
use native.Mathlib.Omega.{arith}
use lib.Ieee.{Float}
use Rattle.refusal.specs.declared.Refusal.{Refusal}
use Rattle.refusal.specs.Outcome.{Outcome, answer, refusal, refused, map, number_of, place_of}
use Rattle.c_call.specs.Call.{Done, done, packed, Apart, Reply, written, answered}

packs : (number place : ℕ) → place < 2 ^ 32 → packed number (place % 2 ^ 32) ≡ packed number place
packs number place h = omega arith

-- a refusal whose number is not 0, and whose place leaves it apart
abbrev pub Sound : {A : Type 0} → Outcome A → Type 0
Sound (answer a) = Unit {0}
Sound (refusal number place) = (0 < number) × (place < 2 ^ 32)

module _ {A : Type 0} where
  pub sound_apart : (o : Outcome A) → Sound o → Apart o
  sound_apart (answer a) h = tt
  sound_apart (refusal number place) h = h.1

  pub apart_map : {B : Type 0} (f : A → B) (o : Outcome A) → Apart o → Apart (map f o)
  apart_map f (answer a) h = tt
  apart_map f (refusal number place) h = h

  pub whole_at : (number place : ℕ) (o : Outcome A) → refusal number place ≡ o → Apart o → packed number (place % 2 ^ 32) ≡ packed number place
  whole_at number place o e h = packs number place (subst Apart (sym e) h)

  pub whole_place : (r : Refusal) (o : Outcome A) → refused r ≡ o → Apart o → packed (number_of r) (place_of r % 2 ^ 32) ≡ packed (number_of r) (place_of r)
  whole_place r = whole_at (number_of r) (place_of r)

  -- ---- the list
  pub refuses_at : (layout : A → Reply) (number place : ℕ) (o : Outcome A) (n : ℕ) (list : List Float) → refusal number place ≡ o → Apart o → n ≡ packed number (place % 2 ^ 32) → done n list ≡ answered layout o list
  refuses_at layout number place o n list e h is = ap (λ (k : ℕ). done k list) (is ∙ whole_at number place o e h) ∙ ap (λ (z : Outcome A). answered layout z list) e

  pub refuses : (layout : A → Reply) (r : Refusal) (o : Outcome A) (n : ℕ) (list : List Float) → refused r ≡ o → Apart o → n ≡ packed (number_of r) (place_of r % 2 ^ 32) → done n list ≡ answered layout o list
  refuses layout r = refuses_at layout (number_of r) (place_of r)

  pub answers : (layout : A → Reply) (a : A) (o : Outcome A) (d : Done) (list : List Float) → answer a ≡ o → d ≡ written (layout a) list → d ≡ answered layout o list
  answers layout a o d list e is = is ∙ ap (λ (z : Outcome A). answered layout z list) e
