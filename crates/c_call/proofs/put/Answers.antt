-- `c_call::put` meets its contract. Assumes nothing.
use mathlib.Core.Path.{◌≡◌, ap, ◌∙◌}
use mathlib.Core.List.{List, ◌++◌}
use Prim.Native.Nat.{ℕ, ◌+◌, ◌≤◌}
use native.Mathlib.Nat.{zero-add}
use lib.ListN.{length, take, drop}
use lib.Ieee.{Float}
use borrow.Author.Tests.{le-leb, lt-leb}
use Rattle.c_call.specs.Call.{done, reply, written}
use borrow.Author.Rules.{rules}
use Rattle.c_call.proofs.put.Goals as goal

whole : (n : ℕ) (numbers list₀ list : List Float) → length numbers ≤ length list₀ → list ≡ take 0 list₀ ++ numbers ++ drop (0 + length numbers) list₀ → done n list ≡ written (reply n numbers) list₀
whole n numbers list₀ list h e =
    simp (le-leb (length numbers) (length list₀) h) (ap (done n) (e ∙ ap (λ (k : ℕ). numbers ++ drop k list₀) (zero-add (length numbers))))

pub returns-then-list-numbers : goal.returns-then-list-numbers
returns-then-list-numbers c = simp (lt-leb (length c.args.numbers.now) (length c.args.list.now) c.if-list-numbers.true)

pub returns : goal.returns
returns c = whole _ c.args.numbers.now c.args.list.now _ c.if-list-numbers.false c.place.ensures
