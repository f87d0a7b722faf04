-- `c_call::place` meets its contract. Assumes nothing.
use mathlib.Core.Path.{◌≡◌, refl, sym, ap, ◌∙◌}
use mathlib.Core.List.{List, ◌++◌}
use Prim.Native.Nat.{ℕ, ◌+◌, ◌-◌, ◌≤◌, ◌<◌}
use native.Mathlib.Numerals.{add-one}
use native.Mathlib.Omega.{arith}
use lib.ListN.{length, get_or, set, take, drop, length-set}
use lib.Seq.{take-length, paste, paste-zero, paste-suc}
use lib.Ieee.{Float}
use borrow.Author.Rules.{rules}
use Rattle.c_call.proofs.place.Invariants.{Half}
use Rattle.c_call.proofs.place.Goals as goal

module _ (at : ℕ) (numbers list₀ : List Float) (room : at + length numbers ≤ length list₀) where
  further : (list : List Float) (i : ℕ) (x : Float) → Half at numbers list₀ list i → i < length numbers → Half at numbers list₀ (set list (at + i) (get_or numbers i x)) (i + 1)
  further list i x h l = record {
    most = omega arith;
    long = length-set list (at + i) (get_or numbers i x) ∙ h.long;
    front =
        ap (λ (z : List Float). set z (at + i) (get_or numbers i x)) h.front
        ∙ paste-suc list₀ at numbers i x (omega arith) l
        ∙ ap (paste list₀ at numbers) (sym (add-one i));
  }

  whole : (list : List Float) (i : ℕ) → Half at numbers list₀ list i → length numbers ≤ i → list ≡ take at list₀ ++ numbers ++ drop (at + length numbers) list₀
  whole list i h l =
      let e : i ≡ length numbers = omega (arith, h.most) in
      h.front ∙ ap (paste list₀ at numbers) e ∙ ap (λ (z : List Float). take at list₀ ++ z ++ drop (at + length numbers) list₀) (take-length numbers)

pub loop-i-init : goal.loop-i-init
loop-i-init c = record { most = omega arith; long = refl; front = paste-zero _ c.args.at c.args.numbers.now }

pub loop-i-preserved : goal.loop-i-preserved
loop-i-preserved c = further _ _ _ c.requires _ _ _ c.loop-i.invariant c.loop-i-test.true

pub shape_of-list : goal.shape_of-list
shape_of-list c = c.loop-i.invariant.long

pub returns : goal.returns
returns c = whole _ _ _ c.requires _ _ c.loop-i.invariant c.loop-i-test.false
