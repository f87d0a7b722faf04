-- `c_names::put` meets its contract. Assumes nothing.
use mathlib.Core.Path.{◌≡◌, ap}
use mathlib.Core.List.{List, ◌++◌}
use Prim.Native.Nat.{ℕ, ◌≤◌}
use lib.ListN.{length, drop}
use borrow.Author.Tests.{le-leb, lt-leb}
use Rattle.c_names.specs.Names.{left, laid}
use borrow.Author.Rules.{rules}
use Rattle.c_names.proofs.put.Goals as goal

whole : (name output₀ output : List ℕ) → length name ≤ length output₀ → output ≡ name ++ drop (length name) output₀ → left (length name) output ≡ laid name output₀
whole name output₀ output h e = simp (le-leb (length name) (length output₀) h) (ap (left (length name)) e)

pub returns-then-output-name : goal.returns-then-output-name
returns-then-output-name c = simp (lt-leb (length c.args.name.now) (length c.args.output.now) c.if-output-name.true)

pub returns : goal.returns
returns c = whole c.args.name.now c.args.output.now _ c.if-output-name.false c.copy.ensures
