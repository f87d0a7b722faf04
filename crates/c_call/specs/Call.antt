-- What an exported call returns, and what it leaves in the list that it was lent. Definitions only.
use Rattle.std.specs.Prelude.{ℕ, ◌+◌, ◌*◌, ◌^◌, ◌<◌, cond, List, ◌++◌, leb, length, drop, Float}
use Rattle.refusal.specs.Outcome.{Outcome, answer, refusal}

-- the number that a call returns, and the list that it leaves
pub record Done : Type 0 where
  pub returned : ℕ
  pub left : List Float

abbrev pub done : ℕ → List Float → Done
done returned left = record { returned = returned; left = left }

-- a refusal: its number times 2^32, and its place
abbrev pub packed : ℕ → ℕ → ℕ
packed number place = number * 2 ^ 32 + place

-- a number, or a refusal
abbrev pub returned : Outcome ℕ → ℕ
returned (answer n) = n
returned (refusal number place) = packed number place

-- whether a refusal's place leaves its number apart
abbrev pub Apart : {A : Type 0} → Outcome A → Type 0
Apart (answer a) = Unit {0}
Apart (refusal number place) = place < 2 ^ 32

-- an answer as a number that is returned and the numbers that are written
pub record Reply : Type 0 where
  pub returned : ℕ
  pub numbers : List Float

abbrev pub reply : ℕ → List Float → Reply
reply returned numbers = record { returned = returned; numbers = numbers }

-- where nothing else is to be returned: how many numbers are written
abbrev pub counted : List Float → Reply
counted numbers = reply (length numbers) numbers

-- the numbers at the front of a list; 8 where the list is shorter than they are
abbrev pub written : Reply → List Float → Done
written r list =
    cond (leb (length r.numbers) (length list))
    (done r.returned (r.numbers ++ drop (length r.numbers) list))
    (done (packed 8 0) list)

-- an outcome, for a layout of its answers: no refusal changes the list
abbrev pub answered : {A : Type 0} → (A → Reply) → Outcome A → List Float → Done
answered layout (answer a) list = written (layout a) list
answered layout (refusal number place) list = done (packed number place) list
