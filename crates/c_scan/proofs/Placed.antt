-- The numbers of one case, written to the part of a list that starts at a place. Assumes nothing.
use mathlib.Core.Path.{◌≡◌, refl, sym, ap, ◌∙◌}
use mathlib.Core.List.{List, [], ◌++◌, append-nil, append_assoc}
use Prim.Native.Nat.{ℕ, ◌+◌, ◌-◌, ◌≤◌}
use native.Mathlib.Omega.{arith}
use lib.ListN.{length, take, drop, length-drop, length-append, length-take, drop_of_length-le}
use lib.Seq.{take_all, drop-drop}
use lib.Ieee.{Float}
use borrow.Author.Tests.{le-leb}
use Rattle.refusal.specs.Outcome.{Outcome, answer, refusal}
use Rattle.thin_film_solver.specs.declared.CoatingResponse.{CoatingResponse}
use Rattle.c_call.specs.Call.{Done, done, written}
use Rattle.c_call.specs.Layout.{response_numbers, evaluated}
use Rattle.c_call.proofs.Front.{Front, more}
use Rattle.c_scan.specs.Internal.{placed}

module _ (at : ℕ) (list sub : List Float) (r : CoatingResponse) (n : ℕ) (room : at + 16 ≤ length list) where
  long : length (drop at list) ≡ length list - at
  long = length-drop at list

  whole : take (length list - at) (drop at list) ≡ drop at list
  whole = take_all (length list - at) (drop at list) (omega (arith, long))

  nothing : drop (length list - at) (drop at list) ≡ []
  nothing = let h : length (drop at list) ≤ length list - at = omega (arith, long) in drop_of_length-le (drop at list) h

  wrote : done n sub ≡ written (evaluated r) (drop at list) → sub ≡ response_numbers r ++ drop 16 (drop at list)
  wrote e = ap (λ (z : Done). z.left) (simp (le-leb 16 (length (drop at list)) (omega (arith, long))) at e)

  pub part : done n sub ≡ written (evaluated r) (take (length list - at) (drop at list)) → take at list ++ (sub ++ drop (length list - at) (drop at list)) ≡ placed at (answer r) list
  part e =
      let w = wrote (e ∙ ap (written (evaluated r)) whole) in
      ap (λ (z : List Float). take at list ++ (sub ++ z)) nothing ∙ ap (λ (z : List Float). take at list ++ z) (append-nil sub ∙ w ∙ ap (λ (z : List Float). response_numbers r ++ z) (drop-drop 16 at list))

-- ---- from the front on
pub long_as : (at : ℕ) (o : Outcome CoatingResponse) (list : List Float) → at + 16 ≤ length list → length (placed at o list) ≡ length list
long_as at (answer r) list room = simp (length-append, length-take, length-drop) (omega arith)
long_as at (refusal number place) list room = refl

-- the first i cases stand at the front
pub next : (at : ℕ) (before list xs : List Float) (r : CoatingResponse) (out : List Float) → Front before list xs at → out ≡ placed at (answer r) list → Front before out (xs ++ response_numbers r) (at + 16)
next at before list xs r out f e = more before list xs at f (response_numbers r) 16 refl out (e ∙ sym (append_assoc (take at list) (response_numbers r) (drop (at + 16) list)))
