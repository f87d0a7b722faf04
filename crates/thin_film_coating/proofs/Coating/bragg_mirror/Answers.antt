-- `thin_film_coating::Coating::bragg_mirror` meets its contract. Assumes nothing.
use Prim.Native.Nat.{ℕ, zero, suc, ◌+◌, ◌*◌, ◌-◌, ◌<◌, ◌≤◌}
use native.Mathlib.Omega.{arith}
use mathlib.Core.Path.{◌≡◌, refl, sym, ◌∙◌, ap}
use mathlib.Core.Bool.{Bool, cond}
use mathlib.Core.List.{List, ◌++◌}
use lib.ListN.{length, get_or, set, replicate}
use lib.Ieee.{Float}
use lib.Seq.{paste}
use borrow.Author.Tests.{lt-leb, le-leb}
use Rattle.thin_film_solver.specs.declared.ThinFilmLayer.{ThinFilmLayer}
use Rattle.thin_film_coating.specs.declared.Built.{Built}
use Rattle.thin_film_coating.specs.declared.Coating.TheVariants as C
use Rattle.thin_film_presets.specs.Layers.{bragg_layers}
use Rattle.thin_film_layers.specs.Evaluation.{no_layer}
use Rattle.thin_film_coating.specs.Coating.{built, too_many, bragg_mirror}
use Rattle.thin_film_presets.proofs.Nth.{alike}
use Rattle.thin_film_coating.proofs.Repeat.{stored, all_stored}
use Rattle.thin_film_coating.proofs.Coating.bragg_mirror.Goals as goal

-- (H L)^pairs H has 2 pairs + 1 layers
long : (high low design : Float) (pairs : ℕ) → length (bragg_layers high low pairs design) ≡ pairs * 2 + 1
unfolding bragg_layers
long high low design zero = refl
long high low design (suc pairs) = ap (λ (n : ℕ). suc (suc n)) (long high low design pairs) ∙ omega arith

module _ (high low design : Float) (pairs : ℕ) where
  abbrev layers : List ThinFilmLayer
  layers = bragg_layers high low pairs design

  -- a turn of the loop
  turn : (d items : List ThinFilmLayer) (i : ℕ) (y : ThinFilmLayer) → d ≡ replicate 64 no_layer → pairs ≤ 31 → i < pairs * 2 + 1 → items ≡ paste d 0 layers i
      → y ≡ get_or (bragg_layers high low i design) i no_layer → set items i y ≡ paste d 0 layers (i + 1)
  turn d items i y d-is p h e f =
      ap (λ (l : List ThinFilmLayer). set l i y) e ∙ ap (set (paste d 0 layers i) i) (f ∙ alike high low design i pairs i (omega arith) (omega arith))
      ∙ stored d layers i no_layer (rw d-is (omega arith)) (rw long (omega arith))

  -- the loop is left
  whole : (d items : List ThinFilmLayer) (i : ℕ) → d ≡ replicate 64 no_layer → pairs ≤ 31 → i ≡ pairs * 2 + 1 → items ≡ paste d 0 layers i
      → ◌≡◌ {A = Built} (record { refusal = 0; coating = C.Multilayer; layers = record { items = items; count = pairs * 2 + 1 } }) (bragg_mirror high low pairs design)
  whole d items i d-is p e h =
      let items_are : items ≡ layers ++ replicate (64 - length layers) no_layer = h ∙ ap (λ (l : List ThinFilmLayer). paste l 0 layers i) d-is ∙ all_stored layers 64 i no_layer (e ∙ sym (long high low design pairs)) (omega arith) in
      ap (λ (l : List ThinFilmLayer). record { refusal = 0; coating = C.Multilayer; layers = record { items = l; count = pairs * 2 + 1 } }) items_are
      ∙ ap (λ (n : ℕ). record { refusal = 0; coating = C.Multilayer; layers = record { items = layers ++ replicate (64 - length layers) no_layer; count = n } }) (sym (long high low design pairs))
      ∙ sym (ap (λ (t : Bool). cond t (built C.Multilayer layers) too_many) (le-leb pairs 31 p))

pub returns-then-pairs-gt31 : goal.returns-then-pairs-gt31
returns-then-pairs-gt31 c = c.too_many.ensures ∙ simp (lt-leb _ _ c.if-pairs-gt31.true)

pub loop-i-preserved : goal.loop-i-preserved
loop-i-preserved c = turn _ _ _ _ _ _ _ _ c.no_layers-items.ensures (omega arith) c.loop-i-test.true c.loop-i.invariant c.bragg.ensures

pub returns : goal.returns
returns c = whole _ _ _ _ _ _ c.loop-i.i c.no_layers-items.ensures (omega arith) (omega arith) c.loop-i.invariant
