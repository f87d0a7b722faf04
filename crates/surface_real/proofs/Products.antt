-- Products of the matrices of films that do not absorb are those of section 4, up to a zero's sign, where their numbers are finite.
-- Assumes nothing.
use mathlib.Core.List.{List, [], ◌∷◌}
use lib.Dec.{T}
use lib.Ieee.{Float, binary64, fits, of_bits}
use lib.Ieee.Fits.{add-fits, sub-fits}
use Rattle.ieee.specs.Operators.{◌⊗◌}
use Rattle.ieee.proofs.Range.Constants.{zero_mag}
use Rattle.thin_film_complex.specs.Complex.{real}
use Rattle.thin_film_matrix.specs.Matrix.{Matrix, mat_mul, identity}
use Rattle.thin_film_solver.specs.declared.ThinFilmLayer.{ThinFilmLayer}
use Rattle.thin_film_solver.specs.Solve.{product_s, product_p}
use Rattle.polarization_value.proofs.Keeps.{kept}
use Rattle.thin_film_real.proofs.Keeps.{Fine, mul_back, add_back, sub_back}
use Rattle.thin_film_real.proofs.Parts.{Of, product}
use Rattle.surface_real.specs.declared.Film.{Film}
use Rattle.surface_real.specs.declared.Product.{Product}
use Rattle.surface_real.specs.declared.Stack.{Stack}
use Rattle.surface_real.specs.Internal.{film_of, times, join, no_films, stacked}
use Rattle.surface_real.proofs.Lossless.{of_s, of_p}

-- ---- finite products
pub record Finite (m : Product) : Type 0 where
  pub a : Fine m.a
  pub b : Fine m.b
  pub c : Fine m.c
  pub d : Fine m.d

-- what a finite product is made of
record Made (m : Product) (e u v : Float) : Type 0 where
  of : Finite m
  cos : Fine e
  y : Fine u
  z : Fine v

times_back : (m : Product) (cos y z : Float) → Finite (times m cos y z) → Made m cos y z
unfolding times
times_back m cos y z f =
    let p = sub_back (m.a ⊗ cos) (m.b ⊗ z) f.a in
    let q = add_back (m.c ⊗ cos) (m.d ⊗ z) f.c in
    let u = mul_back m.a cos p.0 in
    let v = mul_back m.b z p.1 in
    record {
      of = record { a = u.0; b = v.0; c = (mul_back m.c cos q.0).0; d = (mul_back m.d z q.1).0 };
      cos = u.1;
      y = (mul_back m.a y (add_back (m.a ⊗ y) (m.b ⊗ cos) f.b).0).1;
      z = v.1;
    }

-- ---- a product and its matrix; an f64 holds each number
pub record For (m : Product) (n : Matrix) : Type 0 where
  pub of : Of m.a m.b m.c m.d n
  pub a : T (fits binary64 m.a)
  pub c : T (fits binary64 m.c)

-- for s and for p
pub record Fine-stack (k : Stack) : Type 0 where
  pub s : Finite k.s
  pub p : Finite k.p

pub record Both-for (k : Stack) (ms mp : Matrix) : Type 0 where
  pub s : For k.s ms
  pub p : For k.p mp

pub begun : Both-for no_films identity identity
unfolding real of_bits fits
begun =
    let h : For no_films.s identity = record { of = record { m11 = record { re = kept; im = zero_mag }; m12 = record { re = zero_mag; im = kept }; m21 = record { re = zero_mag; im = kept }; m22 = record { re = kept; im = zero_mag } }; a = tt; c = tt } in
    record { s = h; p = h }

module _ (snell wavelength : Float) where
  join_back : (k : Stack) (f : Film) → Fine-stack (join k f) → Fine-stack k
  unfolding join
  join_back k f h = record {
    s = (times_back k.s f.cos f.y_s f.z_s h.s).of;
    p = (times_back k.p f.cos f.y_p f.z_p h.p).of;
  }

  pub stacked_back : (k : Stack) (layers : List ThinFilmLayer) → Fine-stack (stacked snell wavelength k layers) → Fine-stack k
  unfolding stacked
  stacked_back k [] h = h
  stacked_back k (layer ∷ layers) h = join_back k (film_of snell wavelength layer) (stacked_back (join k (film_of snell wavelength layer)) layers h)

  -- one film more
  turn : (k : Stack) (ms mp : Matrix) (layer : ThinFilmLayer) → Fine-stack (join k (film_of snell wavelength layer)) → Both-for k ms mp
      → Both-for (join k (film_of snell wavelength layer)) (product_s snell wavelength ms (layer ∷ [])) (product_p snell wavelength mp (layer ∷ []))
  unfolding join product_s product_p
  turn k ms mp layer h b =
      let f : Film = film_of snell wavelength layer in
      let s = times_back k.s f.cos f.y_s f.z_s h.s in
      let p = times_back k.p f.cos f.y_p f.z_p h.p in
      record {
        s = next k.s ms f.cos f.y_s f.z_s s b.s (of_s snell wavelength layer s.cos s.y p.y);
        p = next k.p mp f.cos f.y_p f.z_p p b.p (of_p snell wavelength layer s.cos s.y p.y);
      }
    where
      next : (m : Product) (n : Matrix) {l : Matrix} (cos y z : Float) → Made m cos y z → For m n → Of cos y z cos l → For (times m cos y z) (mat_mul n l)
      next m n cos y z g b l = unfold times in record {
        of = product g.of.a g.of.b g.of.c g.of.d g.cos g.y g.z b.of l;
        a = sub-fits binary64 (m.a ⊗ cos) (m.b ⊗ z);
        c = add-fits binary64 (m.c ⊗ cos) (m.d ⊗ z);
      }

  -- all of them
  pub through : (k : Stack) (ms mp : Matrix) (layers : List ThinFilmLayer) → Fine-stack (stacked snell wavelength k layers) → Both-for k ms mp
      → Both-for (stacked snell wavelength k layers) (product_s snell wavelength ms layers) (product_p snell wavelength mp layers)
  unfolding stacked product_s product_p
  through k ms mp [] h b = b
  through k ms mp (layer ∷ layers) h b =
      let k' = join k (film_of snell wavelength layer) in
      through k' (product_s snell wavelength ms (layer ∷ [])) (product_p snell wavelength mp (layer ∷ [])) layers h (turn k ms mp layer (stacked_back k' layers h) b)
