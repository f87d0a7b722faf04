-- The outcome of any call that can refuse: an answer, or a refusal's number and place (01, 'Turned back'). One definition for all crates.
use Rattle.std.specs.Prelude.{ℕ, Result, Ok, Err}
use Rattle.refusal.specs.declared.Refusal.{Refusal}
use Rattle.refusal.specs.declared.Refusal.TheVariants as R

-- The numbers of the table: 1 the Rust's InvalidParameter; 2 a name over 32 bytes or not ASCII; 3 over 64 explicit layers or 31 pairs; 4 a
-- sheet's length; 5 its grammar; 6 its limits; 7 no surface left; 8 a list that is too short. Of document 02: 9 a stack's text; 10 more
-- than 64 layers of a stack; 11 a wavelength that is refused; 12 a kind 7 where none is taken; 13 no ranges of indices; 14 a film outside
-- the limits; 15 a band's lines or weights; 16 a line's wavelength.
pub data Outcome (A : Type 0) : Type 0 where
  answer : A → Outcome A
  refusal : ℕ → ℕ → Outcome A

-- the number of a case in the table
abbrev pub number_of : Refusal → ℕ
number_of R.InvalidParameter = 1
number_of (R.Name place) = 2
number_of R.TooManyLayers = 3
number_of R.Length = 4
number_of (R.Grammar place) = 5
number_of (R.Limits place) = 6
number_of R.NoSurface = 7
number_of R.TooShort = 8
number_of (R.Text place) = 9
number_of R.TooManyFilms = 10
number_of R.Wavelength = 11
number_of (R.Tuning place) = 12
number_of R.Range = 13
number_of R.Film = 14
number_of (R.Weight place) = 15
number_of (R.Line place) = 16

-- its place, 0 where the table gives none
abbrev pub place_of : Refusal → ℕ
place_of R.InvalidParameter = 0
place_of (R.Name place) = place
place_of R.TooManyLayers = 0
place_of R.Length = 0
place_of (R.Grammar place) = place
place_of (R.Limits place) = place
place_of R.NoSurface = 0
place_of R.TooShort = 0
place_of (R.Text place) = place
place_of R.TooManyFilms = 0
place_of R.Wavelength = 0
place_of (R.Tuning place) = place
place_of R.Range = 0
place_of R.Film = 0
place_of (R.Weight place) = place
place_of (R.Line place) = place

abbrev pub refused : {A : Type 0} → Refusal → Outcome A
refused r = refusal (number_of r) (place_of r)

-- what a function returns as a `Result`
abbrev pub outcome : {A : Type 0} → Result A Refusal → Outcome A
outcome (Ok a) = answer a
outcome (Err r) = refused r

-- 1: the Rust's InvalidParameter
abbrev pub invalid_parameter : {A : Type 0} → Outcome A
invalid_parameter = refusal 1 0

-- 3: more than 64 explicit layers, or more than 31 pairs
abbrev pub too_many_layers : {A : Type 0} → Outcome A
too_many_layers = refusal 3 0

-- an answer through f; a refusal as it is
abbrev pub map : {A B : Type 0} → (A → B) → Outcome A → Outcome B
map f (answer a) = answer (f a)
map f (refusal number place) = refusal number place

-- an answer through f, which may refuse; a refusal as it is
abbrev pub bind : {A B : Type 0} → Outcome A → (A → Outcome B) → Outcome B
bind (answer a) f = f a
bind (refusal number place) f = refusal number place
