-- `thin_film_complex::Complex::sqrt` meets its contract. Assumes nothing.
use mathlib.Core.Path.{◌≡◌, ap, ◌∙◌, sym, subst}
use mathlib.Core.Bool.{true, false}
use lib.Dec.{T}
use lib.Ieee.{Float, binary64, neg, le, fits}
use Rattle.ieee.specs.Operators.{◌⊕◌, ◌⊖◌}
use Rattle.ieee.specs.Functions.{zero_f}
use Rattle.thin_film_complex.specs.declared.Complex.{Complex}
use Rattle.thin_film_complex.specs.Complex.{norm, half_root, sqrt}
use Rattle.thin_film_complex.proofs.RealRoot.{root_is}
use borrow.Author.Rules.{rules}
use Rattle.thin_film_complex.proofs.Complex.sqrt.Goals as goal

module _ (z : Complex) (r u v : Float) (r_is : r ≡ norm z) (u_is : u ≡ half_root (r ⊕ z.re)) (v-is : v ≡ half_root (r ⊖ z.re)) where
  upper : le zero_f z.im ≡ true → ◌≡◌ {A = Complex} (record { re = u; im = v }) (sqrt z)
  unfolding sqrt
  upper e = simp (e, u_is, v-is, r_is)

  lower : le zero_f z.im ≡ false → ◌≡◌ {A = Complex} (record { re = u; im = neg v }) (sqrt z)
  unfolding sqrt
  lower e = simp (e, u_is, v-is, r_is)

pub returns-then-self-3 : goal.returns-then-self-3
returns-then-self-3 c =
    let g = c.well_formed in
    let held : T (fits binary64 c.args.self.re) = subst T (sym g.0.1.1.0.1) tt in
    ap (λ (x : Float). record { re = x; im = zero_f }) c.half_root.ensures ∙ root_is _ held c.if-self.true c.if-self-2.true c.if-self-3.true

pub returns-then-self-4 : goal.returns-then-self-4
returns-then-self-4 c = upper _ _ _ _ c.norm-r.ensures c.half_root-u.ensures c.half_root-v.ensures c.if-self-4.true

pub returns-else-self-4 : goal.returns-else-self-4
returns-else-self-4 c = lower _ _ _ _ c.norm-r.ensures c.half_root-u.ensures c.half_root-v.ensures c.if-self-4.false
