-- `response_real::certain` meets its contract. Assumes nothing.
use mathlib.Core.Path.{◌≡◌, sym, ◌∙◌}
use mathlib.Core.Bool.{Bool, true, false}
use lib.Ieee.Scale.{finite}
use Rattle.ieee.specs.Operators.{◌⊕◌}
use Rattle.response_real.specs.declared.Amplitudes.{Amplitudes}
use Rattle.response_real.specs.Internal.{plain, certain}
use borrow.Author.Rules.{rules}
use Rattle.response_real.proofs.certain.Goals as goal

module _ (s p : Amplitudes) (f : Bool) (f-is : f ≡ finite ((s.shares.r ⊕ s.shares.t) ⊕ (p.shares.r ⊕ p.shares.t))) where
  endless : f ≡ false → false ≡ certain s p
  unfolding certain
  endless e = let h : finite ((s.shares.r ⊕ s.shares.t) ⊕ (p.shares.r ⊕ p.shares.t)) ≡ false = sym f-is ∙ e in simp h

  module _ (e : f ≡ true) (a : Bool) (a-is : a ≡ plain s) where
    some : a ≡ false → false ≡ certain s p
    unfolding certain
    some g = let h : finite ((s.shares.r ⊕ s.shares.t) ⊕ (p.shares.r ⊕ p.shares.t)) ≡ true = sym f-is ∙ e in let k : plain s ≡ false = sym a-is ∙ g in simp (h, k)

    rest : a ≡ true → (b : Bool) → b ≡ plain p → b ≡ certain s p
    unfolding certain
    rest g b b-is = let h : finite ((s.shares.r ⊕ s.shares.t) ⊕ (p.shares.r ⊕ p.shares.t)) ≡ true = sym f-is ∙ e in let k : plain s ≡ true = sym a-is ∙ g in simp (h, k, b-is)

pub returns-then-plain : goal.returns-then-plain
returns-then-plain c = rest _ _ _ c.is_finite.ensures c.if-is_finite.true _ c.plain.ensures c.if-plain.true _ c.plain-then-plain.ensures

pub returns-else-plain : goal.returns-else-plain
returns-else-plain c = some _ _ _ c.is_finite.ensures c.if-is_finite.true _ c.plain.ensures c.if-plain.false

pub returns-else-is_finite : goal.returns-else-is_finite
returns-else-is_finite c = endless _ _ _ c.is_finite.ensures c.if-is_finite.false
