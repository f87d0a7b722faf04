-- `sheet_answers::quick::reach` meets its contract. Assumes nothing.
use mathlib.Core.Path.{◌≡◌, refl, sym, ap, ap₂, ◌∙◌}
use mathlib.Core.Bool.{Bool, true, false, cond}
use mathlib.Core.List.{List}
use Prim.Native.Nat.{ℕ, ◌+◌, ◌≤◌}
use native.Mathlib.Omega.{arith}
use lib.Ieee.{Float}
use borrow.Author.Tests.{lt-ltb}
use Rattle.thin_film_solver.specs.declared.ThinFilmLayer.{ThinFilmLayer}
use Rattle.sheet.specs.declared.PlainFloats.{PlainFloats}
use Rattle.sheet.specs.Words.{word, count}
use Rattle.sheet.specs.Sheet.{kind_word}
use Rattle.sheet.specs.Read.{raws, floats_after}
use Rattle.sheet.specs.Internal.{plain_stands, plain_floats, next_place, layer_at}
use Rattle.sheet.proofs.Plain.{whole}
use Rattle.sheet_values.specs.Values.{film}
use Rattle.sheet_answers.specs.declared.quick.Reached.{Reached}
use Rattle.sheet_answers.specs.Internal.{reached}
use Rattle.sheet_answers.proofs.quick.reach.Goals as goal

-- a LAYER that stands whole
module _ (w : Float) (src : List ℕ) (at : ℕ) (f : PlainFloats) (is : f ≡ plain_floats src at) (e : f.stands ≡ true) where
  stands : plain_stands src at ≡ true
  unfolding plain_floats
  stands = sym (by (plain_stands src at) _ _ refl refl) ∙ sym (ap (λ (z : PlainFloats). z.stands) is) ∙ e
    where
      by : (t : Bool) (p q : PlainFloats) → p.stands ≡ true → q.stands ≡ false → (cond {A = PlainFloats} t p q).stands ≡ t
      by true p q e f = e
      by false p q e f = f

  is_layer : word src at ≡ kind_word 4 0
  is_layer = (whole src at stands).1

  room : at + 7 ≤ count src
  room = (whole src at stands).0

  next : at + 7 ≡ next_place src at
  unfolding next_place raws floats_after
  next = rw (lt-ltb at (count src) (omega (arith, room)), is_layer) refl

  layer : record { n = f.first; k = f.second; thickness_nm = f.third } ≡ film w (layer_at src at)
  unfolding plain_floats
  layer = ap (λ (z : PlainFloats). record { n = z.first; k = z.second; thickness_nm = z.third }) is ∙ rw (stands, is_layer) refl

  plain : ◌≡◌ {A = Reached} (record { layer = record { n = f.first; k = f.second; thickness_nm = f.third }; next = at + 7 }) (reached w src at)
  unfolding reached
  plain = ap₂ (λ (l : ThinFilmLayer) (p : ℕ). record { layer = l; next = p }) layer next

other : (w : Float) (src : List ℕ) (at p : ℕ) (l : ThinFilmLayer) → l ≡ film w (layer_at src at) → p ≡ next_place src at → ◌≡◌ {A = Reached} (record { layer = l; next = p }) (reached w src at)
unfolding reached
other w src at p l e f = ap₂ (λ (l : ThinFilmLayer) (p : ℕ). record { layer = l; next = p }) e f

pub overflow_add-result : goal.overflow_add-result
overflow_add-result c =
    let a = c.args in
    record { fits = omega (arith, room a.wavelength_nm a.src.now a.at _ c.plain_floats-floats.ensures c.if-floats.true) }

pub returns-then-floats : goal.returns-then-floats
returns-then-floats c = plain _ _ _ _ c.plain_floats-floats.ensures c.if-floats.true

pub returns : goal.returns
returns c = other _ _ _ _ _ c.layer_at-layer.ensures c.next_place.ensures
