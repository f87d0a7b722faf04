-- The claim of specs/Nearest.antt. Assumes nothing.
use mathlib.Core.Path.{◌≡◌, refl, sym, ap, ◌∙◌, subst}
use Prim.Native.Nat.{ℕ, ◌^◌, ◌<◌}
use mathlib.Core.Bool.{Bool, true, false}
use lib.Ieee.{binary64, of_int, of_bits}
use lib.Ieee.Positive.{num, den, den_pos}
use Rattle.ieee.specs.Functions.{zero_f}
use Rattle.ieee.specs.Range.{sgn}
use Rattle.whole_f64.specs.Whole.{signed, Is}
use Rattle.whole_f64.proofs.Laws.{size_of, whole}
use Rattle.whole_nearest.specs.Nearest.{nearest_size, nearest_whole, NearestWhole}
use Rattle.whole_nearest.proofs.Laws.{nearest_is, nearest_one}

as_float : (s : Bool) (n : ℕ) → n < 2 ^ 53 → Is 0 (of_int binary64 (signed s n)) (signed s n)
as_float s n h = whole (signed s n) (subst (λ (m : ℕ). m < 2 ^ 53) (sym (size_of s n)) h)

a_zero : (s : Bool) (n : ℕ) → n ≡ 0 → of_int binary64 (signed s n) ≡ zero_f
a_zero s n e = ap (λ (m : ℕ). of_int binary64 (signed s m)) e ∙ at s
  where
    at : (s : Bool) → of_int binary64 (signed s 0) ≡ zero_f
    at true = unfold of_int of_bits in refl
    at false = unfold of_int of_bits in refl

pub nearest_whole_claim : NearestWhole
nearest_whole_claim = record {
  is = λ q. nearest_is (num q) (den q) (den_pos q);
  only = λ q K h. nearest_one (num q) (den q) K (nearest_size q) (den_pos q) h (nearest_is (num q) (den q) (den_pos q));
  value = λ q h. unfold nearest_whole in as_float (sgn q) (nearest_size q) h;
  zero = λ q e. unfold nearest_whole in a_zero (sgn q) (nearest_size q) e;
}
