-- `response_real::plain` meets its contract. Assumes nothing.
use mathlib.Core.Path.{◌≡◌, sym, ◌∙◌}
use mathlib.Core.Bool.{Bool, true, false}
use Rattle.response_real.specs.declared.Amplitudes.{Amplitudes}
use Rattle.response_real.specs.Internal.{no_zero, plain}
use borrow.Author.Rules.{rules}
use Rattle.response_real.proofs.plain.Goals as goal

module _ (k : Amplitudes) (p : Bool) (p_is : p ≡ no_zero k.r) where
  some : p ≡ false → false ≡ plain k
  unfolding plain
  some e = let h : no_zero k.r ≡ false = sym p_is ∙ e in simp h

  rest : p ≡ true → (q : Bool) → q ≡ no_zero k.t → q ≡ plain k
  unfolding plain
  rest e q q-is = let h : no_zero k.r ≡ true = sym p_is ∙ e in simp (h, q-is)

pub returns-then-no_zero : goal.returns-then-no_zero
returns-then-no_zero c = rest _ _ c.no_zero.ensures c.if-no_zero.true _ c.no_zero-then-no_zero.ensures

pub returns-else-no_zero : goal.returns-else-no_zero
returns-else-no_zero c = some _ _ c.no_zero.ensures c.if-no_zero.false
