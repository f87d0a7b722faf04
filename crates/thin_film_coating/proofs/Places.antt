-- Layers in 64 places, of which the first count are held; and that layers are read only where there are at most 64. Assumes nothing.
use Prim.Native.Nat.{ℕ, ◌+◌, ◌-◌, ◌≤◌}
use native.Mathlib.Omega.{arith}
use mathlib.Core.Path.{◌≡◌, refl, sym, ◌∙◌, ap, subst}
use mathlib.Core.Bool.{Bool, true, false, cond, true≢false}
use mathlib.Core.List.{List, ◌++◌}
use lib.Dec.{leb}
use lib.ListN.{length, take, replicate, length-append, length-replicate}
use lib.Ieee.{Float}
use lib.Seq.{length-take-le, take-append-le}
use borrow.Author.Tests.{leb-true}
use Rattle.thin_film_solver.specs.declared.Incidence.{Incidence}
use Rattle.thin_film_solver.specs.declared.ThinFilmLayer.{ThinFilmLayer}
use Rattle.thin_film_solver.specs.Internal.{incidence}
use Rattle.thin_film_valid.specs.Valid.{valid}
use Rattle.thin_film_layers.specs.declared.Prepared.{Prepared}
use Rattle.thin_film_layers.specs.declared.Prepared.TheVariants as P
use Rattle.thin_film_layers.specs.Evaluation.{no_layer}
use Rattle.thin_film_coating.specs.declared.Coating.{Coating}
use Rattle.thin_film_coating.specs.declared.Coating.TheVariants as C
use Rattle.thin_film_coating.specs.declared.Layers.{Layers}
use Rattle.thin_film_coating.specs.Coating.{listed}
use Rattle.refusal.specs.declared.Refusal.TheVariants as R
use Rattle.thin_film_coating.specs.Internal.{refused, start, prepare}

module _ (l : Layers) where
  abbrev none : List ThinFilmLayer
  none = replicate (l.count - length l.items) no_layer

  -- there are count of them
  pub as_many : length (listed l) ≡ l.count
  unfolding listed
  as_many = length-take-le l.count (l.items ++ none) (omega (arith, length-append l.items none, length-replicate (l.count - length l.items) no_layer))

  -- they stand in the first places
  pub first_places : l.count ≤ length l.items → listed l ≡ take l.count l.items
  unfolding listed
  first_places h = take-append-le l.count l.items none h

-- ---- where layers are read, there are at most 64
abbrev reads : Prepared → Bool
reads (P.Answered a) = false
reads (P.Layers reversed light) = true

module _ (reversed : Bool) (count : ℕ) where
  counted : (light : Incidence) (t : Bool) → leb count 64 ≡ t → reads (cond t (P.Layers reversed light) (refused R.TooManyLayers)) ≡ true → count ≤ 64
  counted light true e h = leb-true count 64 e
  counted light false e h = absurd (true≢false (sym h))

  started : (coating : Coating) (light : Incidence) → reads (start coating reversed count light) ≡ true → count ≤ 64
  unfolding start
  started C.IdealAr light h = absurd (true≢false (sym h))
  started C.IdealMirror light h = absurd (true≢false (sym h))
  started C.IdealBeamsplitter light h = absurd (true≢false (sym h))
  started C.Multilayer light h = counted light (leb count 64) refl h

  tested : (coating : Coating) (light : Incidence) (t : Bool) → reads (cond t (start coating reversed count light) (refused R.InvalidParameter)) ≡ true → count ≤ 64
  tested coating light true h = started coating light h
  tested coating light false h = absurd (true≢false (sym h))

  pub few : (coating : Coating) (n_incident n_substrate angle wavelength : Float) (p : Prepared) (b : Bool) (light : Incidence) → p ≡ prepare coating reversed count n_incident n_substrate angle wavelength → p ≡ P.Layers b light → count ≤ 64
  unfolding prepare
  few coating n_incident n_substrate angle wavelength p b light e f =
      tested coating (incidence n_incident n_substrate angle wavelength) (valid n_incident n_substrate angle wavelength) (ap reads (sym e ∙ f))
