-- The powers of a product of real films are those of its matrix, bit for bit, where they are finite: they are sums of squares. Assumes nothing.
use mathlib.Core.Path.{◌≡◌, refl, sym, ap, ap₂, ◌∙◌, subst}
use mathlib.Core.Bool.{Bool, true, false, cond}
use lib.Ieee.{Float, binary64, neg, lt, of_bits}
use lib.Ieee.Fits.{mul-fits}
use Rattle.ieee.specs.Operators.{◌⊕◌, ◌⊖◌, ◌⊗◌, ◌⊘◌}
use Rattle.ieee.specs.Functions.{zero_f, one, two, tiny, clamp}
use Rattle.ieee.proofs.Range.Constants.{zero_mag}
use Rattle.thin_film_complex.specs.declared.Complex.{Complex}
use Rattle.thin_film_complex.specs.Complex.{real, scale, norm_sq, add, sub, mul, quotient, div, ◌⊞◌, ◌⊟◌, ◌⊠◌, ◌⧄◌}
use Rattle.thin_film_matrix.specs.Matrix.{Matrix}
use Rattle.thin_film_solver.specs.Solve.{b_of, c_of, reflection, transmission, reflectance, transmittance}
use Rattle.polarization_value.proofs.Keeps.{Zero, Keeps, kept, keeps_more}
use Rattle.thin_film_real.proofs.Keeps.{Fine, Divides, mul_back, add_back, div_back, zero_times, keeps_fine, keeps_mul, keeps_add, keeps_sub, keeps_div, keeps_less, zero_plus, zero_less, keeps_square}
use Rattle.thin_film_real.proofs.Parts.{Re, Both, im_re, re_re}
use Rattle.surface_real.specs.declared.Product.{Product}
use Rattle.surface_real.specs.declared.Shares.{Shares}
use Rattle.surface_real.specs.Internal.{no_number, power_of, power}
use Rattle.surface_real.proofs.Back.{no_fine}
use Rattle.surface_real.proofs.Products.{Finite, For}

two_fine : Fine two
unfolding of_bits
two_fine = record { fine = tt }

split : (b : Bool) (x : Shares) → Fine (cond b (record { r = no_number; t = no_number }) x).r → (b ≡ false) × (cond b (record { r = no_number; t = no_number }) x ≡ x)
split true x f = no_fine f
split false x f = (refl, refl)

module _ (e0 e nr ni dr di D : Float) where
  abbrev pub rr : Float
  rr = (nr ⊗ dr ⊕ ni ⊗ di) ⊘ D

  abbrev pub ri : Float
  ri = (ni ⊗ dr ⊖ nr ⊗ di) ⊘ D

  abbrev pub tr : Float
  tr = (e0 ⊗ two ⊗ dr) ⊘ D

  abbrev pub ti : Float
  ti = neg (e0 ⊗ two ⊗ di) ⊘ D

  abbrev shares : Shares
  shares = record { r = rr ⊗ rr ⊕ ri ⊗ ri; t = e ⊘ e0 ⊗ (tr ⊗ tr ⊕ ti ⊗ ti) }

  -- what finite powers are made of
  pub record Made : Type 0 where
    pub is : power_of e0 e nr ni dr di D ≡ shares
    pub large : lt D tiny ≡ false
    pub divides : Divides D
    pub nr_fine : Fine nr
    pub ni_fine : Fine ni
    pub dr_fine : Fine dr
    pub di_fine : Fine di
    pub e0_fine : Fine (e0 ⊗ two)

  pub made : Fine (power_of e0 e nr ni dr di D).r → Fine (power_of e0 e nr ni dr di D).t → Made
  unfolding power_of
  made f g =
      let s = split (lt D tiny) shares f in
      let r = div_back (nr ⊗ dr ⊕ ni ⊗ di) D (mul_back rr rr (add_back (rr ⊗ rr) (ri ⊗ ri) (subst (λ (x : Shares). Fine x.r) s.1 f)).0).0 in
      let n = add_back (nr ⊗ dr) (ni ⊗ di) r.0 in
      let u = mul_back nr dr n.0 in
      let v = mul_back ni di n.1 in
      let t = (mul_back (e ⊘ e0) (tr ⊗ tr ⊕ ti ⊗ ti) (subst (λ (x : Shares). Fine x.t) s.1 g)).1 in
      let w = div_back (e0 ⊗ two ⊗ dr) D (mul_back tr tr (add_back (tr ⊗ tr) (ti ⊗ ti) t).0).0 in
      record { is = s.1; large = s.0; divides = r.1; nr_fine = u.0; ni_fine = v.0; dr_fine = u.1; di_fine = v.1; e0_fine = (mul_back (e0 ⊗ two) dr w.0).0 }

-- ---- from the numerator and the denominator
module _ {nr ni dr di e0 e : Float} {num den : Complex} (n : Both nr ni num) (d : Both dr di den)
    (h : Made e0 e nr ni dr di (dr ⊗ dr ⊕ di ⊗ di)) where
  abbrev D : Float
  D = dr ⊗ dr ⊕ di ⊗ di

  norm_is : norm_sq den ≡ D
  unfolding norm_sq
  norm_is = ap₂ ◌⊕◌ (keeps_square d.re) (keeps_square d.im)

  div_is : (z : Complex) → z ⧄ den ≡ quotient z den D
  unfolding div
  div_is z = simp (norm_is, h.large)

  -- both amplitudes, part by part
  pub reflection_both : Both (rr e0 e nr ni dr di D) (ri e0 e nr ni dr di D) (num ⧄ den)
  unfolding quotient
  reflection_both = rw (div_is num) (record {
    re = keeps_div (keeps_add (keeps_mul n.re d.re h.nr_fine h.dr_fine) (keeps_mul n.im d.im h.ni_fine h.di_fine) (mul-fits binary64 nr dr) (mul-fits binary64 ni di)) h.divides;
    im = keeps_div (keeps_sub (keeps_mul n.im d.re h.ni_fine h.dr_fine) (keeps_mul n.re d.im h.nr_fine h.di_fine) (mul-fits binary64 ni dr) (mul-fits binary64 nr di)) h.divides;
  })

  pub transmission_both : Both (tr e0 e nr ni dr di D) (ti e0 e nr ni dr di D) (scale (real e0) two ⧄ den)
  unfolding real scale quotient
  transmission_both =
      let e0_kept : Keeps (e0 ⊗ two) (e0 ⊗ two) = kept in
      let two_zero : Zero (zero_f ⊗ two) = zero_times zero_mag two_fine in
      rw (div_is (scale (real e0) two)) (record {
        re = keeps_div (keeps_more (keeps_mul e0_kept d.re h.e0_fine h.dr_fine) (mul-fits binary64 (e0 ⊗ two) dr) (zero_times two_zero (keeps_fine d.im h.di_fine))) h.divides;
        im = keeps_div (zero_less (zero_times two_zero (keeps_fine d.re h.dr_fine)) (keeps_mul e0_kept d.im h.e0_fine h.di_fine) (mul-fits binary64 (e0 ⊗ two) di)) h.divides;
      })

  pub reflected : reflectance (num ⧄ den) ≡ clamp (power_of e0 e nr ni dr di D).r zero_f one
  unfolding reflectance norm_sq
  reflected =
      ap₂ (λ (x y : Float). clamp (x ⊕ y) zero_f one) (keeps_square reflection_both.re) (keeps_square reflection_both.im)
      ∙ ap (λ (x : Shares). clamp x.r zero_f one) (sym h.is)

  pub transmitted : (eta : Complex) → eta.re ≡ e → transmittance (real e0) eta (scale (real e0) two ⧄ den) ≡ clamp (power_of e0 e nr ni dr di D).t zero_f one
  unfolding transmittance norm_sq real
  transmitted eta e-is =
      ap₂ (λ (x y : Float). clamp (eta.re ⊘ e0 ⊗ (x ⊕ y)) zero_f one) (keeps_square transmission_both.re) (keeps_square transmission_both.im)
      ∙ ap (λ (x : Float). clamp (x ⊘ e0 ⊗ (tr e0 e nr ni dr di D ⊗ tr e0 e nr ni dr di D ⊕ ti e0 e nr ni dr di D ⊗ ti e0 e nr ni dr di D)) zero_f one) e-is
      ∙ ap (λ (x : Shares). clamp x.t zero_f one) (sym h.is)

-- ---- from the product's matrix
module _ (m : Product) (M : Matrix) (e0 e : Float) (f : Fine (power m e0 e).r) (g : Fine (power m e0 e).t) where
  abbrev pub br : Float
  br = e0 ⊗ m.a

  abbrev pub bi : Float
  bi = e0 ⊗ (m.b ⊗ e)

  abbrev pub cr : Float
  cr = m.d ⊗ e

  abbrev pub den_re : Float
  den_re = br ⊕ cr

  abbrev pub den_im : Float
  den_im = bi ⊕ m.c

  all : Made e0 e (br ⊖ cr) (bi ⊖ m.c) den_re den_im (den_re ⊗ den_re ⊕ den_im ⊗ den_im)
  unfolding power
  all = made e0 e (br ⊖ cr) (bi ⊖ m.c) den_re den_im (den_re ⊗ den_re ⊕ den_im ⊗ den_im) f g

  e0_fine : Fine e0
  e0_fine = (mul_back e0 two all.e0_fine).0

  a_fine : Fine m.a
  a_fine = (mul_back e0 m.a (add_back br cr all.dr_fine).0).1

  d_fine : Fine m.d × Fine e
  d_fine = mul_back m.d e (add_back br cr all.dr_fine).1

  be_fine : Fine (m.b ⊗ e)
  be_fine = (mul_back e0 (m.b ⊗ e) (add_back bi m.c all.di_fine).0).1

  c_fine : Fine m.c
  c_fine = (add_back bi m.c all.di_fine).1

  b_fine : Fine m.b
  b_fine = (mul_back m.b e be_fine).0

  pub eta_fine : Fine e
  eta_fine = d_fine.1

  pub finite : Finite m
  finite = record { a = a_fine; b = b_fine; c = c_fine; d = d_fine.0 }

  module _ (h : For m M) (eta : Complex) (k : Re e eta) (e-is : eta.re ≡ e) where
    b_both : Both m.a (m.b ⊗ e) (b_of M eta)
    unfolding b_of add
    b_both =
        let x = im_re b_fine eta_fine h.of.m12 k in
        record { re = keeps_more h.of.m11.re h.a x.re; im = zero_plus h.of.m11.im x.im (mul-fits binary64 m.b e) }

    c_both : Both cr m.c (c_of M eta)
    unfolding c_of add
    c_both =
        let x = re_re d_fine.0 eta_fine h.of.m22 k in
        record { re = zero_plus h.of.m21.re x.re (mul-fits binary64 m.d e); im = keeps_more h.of.m21.im h.c x.im }

    eta0_both : Both br bi (real e0 ⊠ b_of M eta)
    unfolding real mul
    eta0_both =
        let e0_kept : Keeps e0 e0 = kept in
        record {
          re = keeps_less (keeps_mul e0_kept b_both.re e0_fine a_fine) (mul-fits binary64 e0 m.a) (zero_times zero_mag (keeps_fine b_both.im be_fine));
          im = keeps_more (keeps_mul e0_kept b_both.im e0_fine be_fine) (mul-fits binary64 e0 (m.b ⊗ e)) (zero_times zero_mag (keeps_fine b_both.re a_fine));
        }

    num_both : Both (br ⊖ cr) (bi ⊖ m.c) (real e0 ⊠ b_of M eta ⊟ c_of M eta)
    unfolding sub
    num_both = record {
      re = keeps_sub eta0_both.re c_both.re (mul-fits binary64 e0 m.a) (mul-fits binary64 m.d e);
      im = keeps_sub eta0_both.im c_both.im (mul-fits binary64 e0 (m.b ⊗ e)) h.c;
    }

    den_both : Both den_re den_im (real e0 ⊠ b_of M eta ⊞ c_of M eta)
    unfolding add
    den_both = record {
      re = keeps_add eta0_both.re c_both.re (mul-fits binary64 e0 m.a) (mul-fits binary64 m.d e);
      im = keeps_add eta0_both.im c_both.im (mul-fits binary64 e0 (m.b ⊗ e)) h.c;
    }

    pub reflects : clamp (power m e0 e).r zero_f one ≡ reflectance (reflection M (real e0) eta)
    unfolding power reflection
    reflects = sym (reflected num_both den_both all)

    pub transmits : clamp (power m e0 e).t zero_f one ≡ transmittance (real e0) eta (transmission M (real e0) eta)
    unfolding power transmission
    transmits = sym (transmitted num_both den_both all eta e-is)

    -- both amplitudes, part by part
    pub reflects_both : Both (rr e0 e (br ⊖ cr) (bi ⊖ m.c) den_re den_im (den_re ⊗ den_re ⊕ den_im ⊗ den_im)) (ri e0 e (br ⊖ cr) (bi ⊖ m.c) den_re den_im (den_re ⊗ den_re ⊕ den_im ⊗ den_im)) (reflection M (real e0) eta)
    unfolding reflection
    reflects_both = reflection_both num_both den_both all

    pub transmits_both : Both (tr e0 e (br ⊖ cr) (bi ⊖ m.c) den_re den_im (den_re ⊗ den_re ⊕ den_im ⊗ den_im)) (ti e0 e (br ⊖ cr) (bi ⊖ m.c) den_re den_im (den_re ⊗ den_re ⊕ den_im ⊗ den_im)) (transmission M (real e0) eta)
    unfolding transmission
    transmits_both = transmission_both num_both den_both all
