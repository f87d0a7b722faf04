-- `sheet::float_in` meets its contract. Assumes nothing.
use mathlib.Core.Path.{◌≡◌, ◌∙◌}
use mathlib.Core.List.{List}
use Prim.Native.Nat.{ℕ, ◌+◌, ◌*◌, ◌<◌}
use native.Mathlib.Omega.{arith}
use borrow.Author.Tests.{lt-ltb}
use lib.ListN.{get_or}
use lib.Ieee.{Float, binary64, of_bits}
use Rattle.ieee.specs.Functions.{of_words}
use Rattle.sheet.specs.Words.{count, big_endian, word, float}
use Rattle.sheet.proofs.float_in.Goals as goal

module _ (src : List ℕ) (at : ℕ) (lt : at + 1 < count src) where
  first : big_endian (get_or src (4 * at) 0) (get_or src (4 * at + 1) 0) (get_or src (4 * at + 2) 0) (get_or src (4 * at + 3) 0) ≡ word src at
  unfolding word
  first = simp (lt-ltb at (count src) (omega arith))

  second : big_endian (get_or src (4 * at + 4) 0) (get_or src (4 * at + 5) 0) (get_or src (4 * at + 6) 0) (get_or src (4 * at + 7) 0) ≡ word src (at + 1)
  unfolding word
  second = rw (lt-ltb (at + 1) (count src) lt) (λ i. big_endian (get_or src (four i) 0) (get_or src (on 1 5 (omega arith) i) 0) (get_or src (on 2 6 (omega arith) i) 0) (get_or src (on 3 7 (omega arith) i) 0))
    where
      four : 4 * at + 4 ≡ 4 * (at + 1)
      four = omega arith

      on : (j k : ℕ) → k ≡ j + 4 → 4 * at + k ≡ 4 * (at + 1) + j
      on j k e = omega arith

  joined : (h l : ℕ) → h ≡ word src at → l ≡ word src (at + 1) → (r : Float) → r ≡ of_words h l → r ≡ of_bits binary64 (float src at)
  unfolding float
  joined h l p q r e = simp (e, p, q)

pub returns : goal.returns
returns c = joined _ _ c.requires _ _ (c.big_endian-high.ensures ∙ first _ _ c.requires) (c.big_endian-low.ensures ∙ second _ _ c.requires) _ c.from_words.ensures
