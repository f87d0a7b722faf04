-- A LAYER that stands whole at a place, and its floats. Assumes nothing.
use mathlib.Core.Path.{◌≡◌, refl, sym, ◌∙◌}
use mathlib.Core.Bool.{Bool, true, false, not}
use mathlib.Core.List.{List}
use Prim.Native.Nat.{ℕ, ◌+◌, ◌≤◌}
use lib.Ieee.{Float, binary64, of_bits}
use borrow.Author.Tests.{not-true, not-false}
use Rattle.sheet.specs.Words.{word, count, float}
use Rattle.sheet.specs.Sheet.{kind_word}
use Rattle.sheet.specs.Internal.{plain_stands, plain_floats}
use Rattle.sheet.proofs.Whole as Whole

pub whole : (src : List ℕ) (at : ℕ) → plain_stands src at ≡ true → (at + 7 ≤ count src) × (word src at ≡ kind_word 4 0)
whole src at e = Whole.whole (kind_word 4 0) 7 src at e

module _ (src : List ℕ) (at : ℕ) (t : Bool) (is : t ≡ plain_stands src at) where
  pub none : not t ≡ true → record { stands = false; first = of_bits binary64 0; second = of_bits binary64 0; third = of_bits binary64 0 } ≡ plain_floats src at
  unfolding plain_floats
  none e = rw (sym is ∙ not-true t e) refl

  module _ (e : not t ≡ false) where
    pub long : at + 7 ≤ count src
    long = (whole src at (sym is ∙ not-false t e)).0

    pub all : (x y z : Float) → x ≡ of_bits binary64 (float src (at + 1)) → y ≡ of_bits binary64 (float src (at + 3)) → z ≡ of_bits binary64 (float src (at + 5))
        → record { stands = true; first = x; second = y; third = z } ≡ plain_floats src at
    unfolding plain_floats
    all x y z p q r = rw (sym is ∙ not-false t e, p, q, r) refl
