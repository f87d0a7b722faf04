-- What stands where there are no answers, computed, and beside a refusal. Assumes nothing.
use mathlib.Core.Path.{◌≡◌, refl, sym}
use Prim.Native.Nat.{ℕ}
use lib.Ieee.{neg, add, sub, mul, of_bits}
use Rattle.thin_film_complex.specs.Complex as Complex
use Rattle.thin_film_matrix.specs.Matrix.{dot}
use Rattle.polarization_stokes.specs.Jones.{linear_horizontal, linear_vertical, linear_45, circular_right, to_stokes}
use Rattle.polarization_mueller.specs.Jones.{apply, diattenuator}
use Rattle.polarization_mueller.specs.Mueller.{response, columns, to_mueller}
use Rattle.std.specs.Prelude.{Result, Ok, Err}
use Rattle.refusal.specs.declared.Refusal.{Refusal}
use Rattle.refusal.specs.Outcome.{Outcome, refusal, outcome, number_of, place_of}
use Rattle.surface.specs.declared.Answers.{Answers}
use Rattle.surface.specs.Answers.{assembled}
use Rattle.surface.specs.Known.{KnownNoAnswers}

its_number : {n p m q : ℕ} → ◌≡◌ {A = Outcome Answers} (refusal n p) (refusal m q) → n ≡ m
its_number e = cc

its_place : {n p m q : ℕ} → ◌≡◌ {A = Outcome Answers} (refusal n p) (refusal m q) → p ≡ q
its_place e = cc

nothing : (r : Result Answers Refusal) (number place : ℕ) → outcome r ≡ refusal number place → (x : Refusal) × (r ≡ Err x) × (number ≡ number_of x) × (place ≡ place_of x)
nothing (Ok a) number place e = absurd cc
nothing (Err x) number place e = (x, refl, sym (its_number e), sym (its_place e))

pub known_no_answers : KnownNoAnswers
unfolding assembled diattenuator to_mueller columns response apply dot linear_horizontal linear_vertical linear_45 circular_right to_stokes Complex.real Complex.add Complex.mul add sub mul neg of_bits
known_no_answers = record { naughts = refl; beside_a_refusal = nothing }
