-- The product and the sum of two f64 are the same in either order, bit for bit, and so is the product of two complex numbers. Assumes nothing.
use mathlib.Core.Path.{◌≡◌, refl, sym, ap, ap₂, ◌∙◌}
use Prim.Native.Nat.{ℕ, ◌+◌, ◌-◌, ◌*◌, ◌≤◌, ◌<◌}
use native.Mathlib.Nat.{add_comm, mul_comm, le_antisymm, lt_irrefl, lt_trans}
use mathlib.Core.Bool.{Bool, true, false, not, ◌&&◌, beq, cond}
use lib.Dec.{T, eqb, ltb, ltb→lt, nltb→le}
use lib.Ieee.{Float, nan, inf, fin, binary64, up, down, unlike, round, sum, add, mul}
use Rattle.ieee.specs.Operators.{◌⊕◌, ◌⊖◌, ◌⊗◌}
use Rattle.thin_film_complex.specs.declared.Complex.{Complex}
use Rattle.thin_film_complex.specs.Complex as C

unlike_comm : (s t : Bool) → unlike s t ≡ unlike t s
unlike_comm true true = refl
unlike_comm true false = refl
unlike_comm false true = refl
unlike_comm false false = refl

pub product_comm : (x y : Float) → x ⊗ y ≡ y ⊗ x
unfolding mul
product_comm nan nan = refl
product_comm nan (inf t) = refl
product_comm nan (fin t n d) = refl
product_comm (inf s) nan = refl
product_comm (inf s) (inf t) = ap inf (unlike_comm s t)
product_comm (inf s) (fin t n d) = ap (λ (b : Bool). cond (eqb n 0) nan (inf b)) (unlike_comm s t)
product_comm (fin s m e) nan = refl
product_comm (fin s m e) (inf t) = ap (λ (b : Bool). cond (eqb m 0) nan (inf b)) (unlike_comm s t)
product_comm (fin s m e) (fin t n d) =
    ap (λ (b : Bool). round binary64 b (m * up e * (n * up d)) (down e * down d)) (unlike_comm s t)
    ∙ ap₂ (round binary64 (unlike t s)) (mul_comm (m * up e) (n * up d)) (mul_comm (down e) (down d))

sum_comm : (s t : Bool) (a b c : ℕ) → sum binary64 s a t b c ≡ sum binary64 t b s a c
unfolding sum
sum_comm s t a b c = go s t (ltb a b) (ltb b a) (ltb→lt a b) (ltb→lt b a) (nltb→le a b) (nltb→le b a)
  where
    R : Bool → ℕ → Float
    R s n = round binary64 s n c

    never : a < b → b < a → ⊥
    never h g = lt_irrefl a (lt_trans h g)

    level : b ≤ a → a ≤ b → a - b ≡ b - a
    level h g = let e : a ≡ b = le_antisymm g h in ap₂ ◌-◌ e (sym e)

    go : (s t u v : Bool) → (T u → a < b) → (T v → b < a) → (T (not u) → b ≤ a) → (T (not v) → a ≤ b)
        → cond (beq s t) (R s (a + b)) (cond u (R t (b - a)) (R (s && v) (a - b))) ≡ cond (beq t s) (R t (b + a)) (cond v (R s (a - b)) (R (t && u) (b - a)))
    go true true u v f g h k = ap (R true) (add_comm a b)
    go false false u v f g h k = ap (R false) (add_comm a b)
    go true false true true f g h k = absurd (never (f tt) (g tt))
    go true false true false f g h k = refl
    go true false false true f g h k = refl
    go true false false false f g h k = ap (R false) (level (h tt) (k tt))
    go false true true true f g h k = absurd (never (f tt) (g tt))
    go false true true false f g h k = refl
    go false true false true f g h k = refl
    go false true false false f g h k = ap (R false) (level (h tt) (k tt))

pub sum_comm_f : (x y : Float) → x ⊕ y ≡ y ⊕ x
unfolding add
sum_comm_f nan nan = refl
sum_comm_f nan (inf t) = refl
sum_comm_f nan (fin t n d) = refl
sum_comm_f (inf s) nan = refl
sum_comm_f (inf true) (inf true) = refl
sum_comm_f (inf true) (inf false) = refl
sum_comm_f (inf false) (inf true) = refl
sum_comm_f (inf false) (inf false) = refl
sum_comm_f (inf s) (fin t n d) = refl
sum_comm_f (fin s m e) nan = refl
sum_comm_f (fin s m e) (inf t) = refl
sum_comm_f (fin s m e) (fin t n d) = sum_comm s t (m * up e * down d) (n * up d * down e) (down e * down d) ∙ ap (sum binary64 t (n * up d * down e) s (m * up e * down d)) (mul_comm (down e) (down d))

abbrev complex : Float → Float → Complex
complex x y = record { re = x; im = y }

pub complex_product_comm : (z w : Complex) → C.mul z w ≡ C.mul w z
unfolding C.mul
complex_product_comm z w =
    ap₂ complex
    (ap₂ ◌⊖◌ (product_comm z.re w.re) (product_comm z.im w.im))
    (ap₂ ◌⊕◌ (product_comm z.re w.im) (product_comm z.im w.re) ∙ sum_comm_f (w.im ⊗ z.re) (w.re ⊗ z.im))

pub complex_sum_comm : (z w : Complex) → C.add z w ≡ C.add w z
unfolding C.add
complex_sum_comm z w = ap₂ complex (sum_comm_f z.re w.re) (sum_comm_f z.im w.im)
