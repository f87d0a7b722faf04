-- `sheet_edition_1::put_word` meets its contract. Assumes nothing.
use mathlib.Core.Path.{◌≡◌}
use mathlib.Core.List.{List, [], ◌∷◌}
use Prim.Native.Nat.{ℕ, suc, ◌+◌, ◌/◌, ◌%◌, ◌^◌}
use native.Mathlib.Omega.{arith}
use lib.ListN.{set, length-set}
use lib.Seq.{sets}
use Rattle.sheet.specs.Sheet.{bytes}
use Rattle.sheet_edition_1.proofs.put_word.Goals as goal

four : (l : List ℕ) (i w : ℕ) → set (set (set (set l i (w / 2 ^ 24)) (i + 1) (w / 2 ^ 16 % 256)) (i + 2) (w / 2 ^ 8 % 256)) (i + 3) (w % 256) ≡ sets l i (bytes (w ∷ []))
unfolding bytes
four l i w = λ t. set (set (set (set l i (w / 2 ^ 24)) (one t) (w / 2 ^ 16 % 256)) (two t) (w / 2 ^ 8 % 256)) (three t) (w % 256)
  where
    one : i + 1 ≡ suc i
    one = omega arith

    two : i + 2 ≡ suc (suc i)
    two = omega arith

    three : i + 3 ≡ suc (suc (suc i))
    three = omega arith

pub bounds-output-i-2 : goal.bounds-output-i-2
bounds-output-i-2 c = simp length-set (omega arith)

pub bounds-output-i-3 : goal.bounds-output-i-3
bounds-output-i-3 c = simp length-set (omega arith)

pub bounds-output-i-4 : goal.bounds-output-i-4
bounds-output-i-4 c = simp length-set (omega arith)

pub returns : goal.returns
returns c = four _ _ _
