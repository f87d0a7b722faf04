-- Fractions up to so many roundings: products, quotients, other names of the same fraction. Assumes nothing.
use mathlib.Core.Path.{◌≡◌, sym, ap, ◌∙◌}
use Prim.Native.Nat.{ℕ, suc, ◌+◌, ◌*◌, ◌^◌, ◌≤◌, ◌<◌}
use native.Mathlib.Nat.{le_refl, le_trans, le_of_eq, mul_comm, mul_assoc, mul_left_comm, mul_right_comm, mul-le-mul, mul-le-mul_left, mul-le-mul_right, le_of_mul-le-mul_right, pow-succ', pow-le-pow_left}
use native.Mathlib.Omega.{arith}
use lib.Dec.{lit≤}
use lib.Pow.{pow-add}
use Rattle.ieee_near.specs.Near.{E, W, Close}

-- ---- the exact fraction itself
pub close_self : (n d : ℕ) → Close 0 n d n d
close_self n d = record { least = le_refl (1 * (n * d)); most = le_refl (1 * (n * d)) }

-- ---- products and quotients
cross : (w v a d a' d' e f n b n' b' : ℕ) → w * (a * d) ≤ e * (n * b) → v * (a' * d') ≤ f * (n' * b') → w * v * (a * a' * (d * d')) ≤ e * f * (n * n' * (b * b'))
cross w v a d a' d' e f n b n' b' h g = le_trans (le_of_eq (simp (mul_assoc, mul_comm, mul_left_comm))) (le_trans (mul-le-mul h g) (le_of_eq (simp (mul_assoc, mul_comm, mul_left_comm))))

pub close_mul : {k l A B n d A' B' n' d' : ℕ} → Close k A B n d → Close l A' B' n' d' → Close (k + l) (A * A') (B * B') (n * n') (d * d')
close_mul {k} {l} {A} {B} {n} {d} {A'} {B'} {n'} {d'} h g = record {
  least = rw (pow-add W k l, pow-add E k l) (cross (W ^ k) (W ^ l) A d A' d' (E ^ k) (E ^ l) n B n' B' h.least g.least);
  most = rw (pow-add W k l, pow-add E k l) (cross (W ^ k) (W ^ l) n B n' B' (E ^ k) (E ^ l) A d A' d' h.most g.most);
}

turn : {l A B n d : ℕ} → Close l A B n d → Close l B A d n
turn {l} {A} {B} {n} {d} h = record {
  least = le_trans (le_of_eq (ap (λ (x : ℕ). W ^ l * x) (mul_comm B n))) (le_trans h.most (le_of_eq (ap (λ (x : ℕ). E ^ l * x) (mul_comm A d))));
  most = le_trans (le_of_eq (ap (λ (x : ℕ). W ^ l * x) (mul_comm d A))) (le_trans h.least (le_of_eq (ap (λ (x : ℕ). E ^ l * x) (mul_comm n B))));
}

pub close_div : {k l A B n d A' B' n' d' : ℕ} → Close k A B n d → Close l A' B' n' d' → Close (k + l) (A * B') (B * A') (n * d') (d * n')
close_div h g = close_mul h (turn g)

-- ---- the same value under another name, n / d = n' / d'
pub close_value : {k A B : ℕ} (n d n' d' : ℕ) → 0 < d → n * d' ≡ n' * d → Close k A B n d → Close k A B n' d'
close_value {k} {A} {B} n d n' d' D e h = record {
  least = le_of_mul-le-mul_right (le_trans (le_of_eq (a (W ^ k) A d' d)) (le_trans (mul-le-mul_right d' h.least) (le_of_eq (b (E ^ k) n B d' ∙ ap (λ (x : ℕ). E ^ k * (B * x)) e ∙ c (E ^ k) B n' d)))) D;
  most = le_of_mul-le-mul_right (le_trans (le_of_eq (sym (c (W ^ k) B n' d) ∙ ap (λ (x : ℕ). W ^ k * (B * x)) (sym e) ∙ sym (b (W ^ k) n B d'))) (le_trans (mul-le-mul_right d' h.most) (le_of_eq (sym (a (E ^ k) A d' d))))) D;
}
  where
    a : (w A d' d : ℕ) → w * (A * d') * d ≡ w * (A * d) * d'
    a w A d' d = simp (mul_assoc, mul_comm, mul_left_comm)

    b : (w n B d' : ℕ) → w * (n * B) * d' ≡ w * (B * (n * d'))
    b w n B d' = simp (mul_assoc, mul_comm, mul_left_comm)

    c : (w B n' d : ℕ) → w * (B * (n' * d)) ≡ w * (n' * B) * d
    c w B n' d = simp (mul_assoc, mul_comm, mul_left_comm)

-- the exact fraction under another name, A / B = A' / B'
pub close_frac : {k n d : ℕ} (A B A' B' : ℕ) → 0 < B → A * B' ≡ A' * B → Close k A B n d → Close k A' B' n d
close_frac {k} {n} {d} A B A' B' D e h = flip (close_value A B A' B' D e (flip h))
  where
    -- A / B up to k roundings is n / d as well as the other way round
    flip : {k A B n d : ℕ} → Close k A B n d → Close k n d A B
    flip h = record { least = h.most; most = h.least }

-- ---- one after another: A / B is A' / B' up to l roundings, and n / d is A / B up to k
pub close_trans : {k l A B n d A' B' : ℕ} → 0 < B → Close k A B n d → Close l A' B' A B → Close (k + l) A' B' n d
close_trans {k} {l} {A} {B} {n} {d} {A'} {B'} p h g = record {
  least = rw (pow-add W k l, pow-add E k l) (chain (W ^ k) (E ^ k) (W ^ l) (E ^ l) A B n d A' B' p h.least g.least);
  most = rw (pow-add W k l, pow-add E k l) (le_trans (le_of_eq (ap (λ (x : ℕ). x * (n * B')) (mul_comm (W ^ k) (W ^ l)))) (le_trans (chain (W ^ l) (E ^ l) (W ^ k) (E ^ k) A B A' B' n d p g.most h.most) (le_of_eq (ap (λ (x : ℕ). x * (A' * d)) (mul_comm (E ^ l) (E ^ k))))));
}
  where
    chain : (w f v e A B n d A' B' : ℕ) → 0 < B → w * (A * d) ≤ f * (n * B) → v * (A' * B) ≤ e * (A * B') → w * v * (A' * d) ≤ f * e * (n * B')
    chain w f v e A B n d A' B' p h g =
        le_of_mul-le-mul_right
        (le_trans (le_of_eq (one w v A' d B)) (le_trans (mul-le-mul_left (w * d) g) (le_trans (le_of_eq (two w d e A B')) (le_trans (mul-le-mul_left (e * B') h) (le_of_eq (three e B' f n B)))))) p
      where
        one : (w v A' d B : ℕ) → w * v * (A' * d) * B ≡ w * d * (v * (A' * B))
        one w v A' d B = simp (mul_assoc, mul_comm, mul_left_comm)

        two : (w d e A B' : ℕ) → w * d * (e * (A * B')) ≡ e * B' * (w * (A * d))
        two w d e A B' = simp (mul_assoc, mul_comm, mul_left_comm)

        three : (e B' f n B : ℕ) → e * B' * (f * (n * B)) ≡ f * e * (n * B') * B
        three e B' f n B = simp (mul_assoc, mul_comm, mul_left_comm)

-- ---- more roundings than needed
pub close_up : {k A B n d : ℕ} (i : ℕ) → Close k A B n d → Close (k + i) A B n d
close_up {k} {A} {B} {n} {d} i h = record {
  least = rw (pow-add W k i, pow-add E k i) (widen (W ^ k) (W ^ i) (A * d) (E ^ k) (E ^ i) (n * B) (pow-le-pow_left (lit≤ {m = W} {n = E} tt) i) h.least);
  most = rw (pow-add W k i, pow-add E k i) (widen (W ^ k) (W ^ i) (n * B) (E ^ k) (E ^ i) (A * d) (pow-le-pow_left (lit≤ {m = W} {n = E} tt) i) h.most);
}
  where
    widen : (w v x e f y : ℕ) → v ≤ f → w * x ≤ e * y → w * v * x ≤ e * f * y
    widen w v x e f y g h = le_trans (le_of_eq (mul_right_comm w v x)) (le_trans (mul-le-mul h g) (le_of_eq (mul_right_comm e y f)))

-- ---- one rounding more: r / e is a / c up to one part in E
pub close_round : {k A B : ℕ} (a c r e : ℕ) → 0 < c → r * c * E ≤ a * e * E + a * e → a * e * E ≤ r * c * E + a * e → Close k A B a c → Close (suc k) A B r e
close_round {k} {A} {B} a c r e C up down h = record {
  least = rw (pow-succ' W k, pow-succ' E k) (le_of_mul-le-mul_right (low (W ^ k) (E ^ k) A B a c r e W E (under (a * e) (r * c) down) h.least) C);
  most = rw (pow-succ' W k, pow-succ' E k) (le_of_mul-le-mul_right (high (W ^ k) (E ^ k) A B a c r e W E (over (r * c) (a * e) up) h.most) C);
}
  where
    under : (x y : ℕ) → x * E ≤ y * E + x → x * W ≤ y * E
    under x y h = omega arith

    more : (x y : ℕ) → x * E ≤ y * E + y → x * E ≤ y * (E + 1)
    more x y h = omega arith

    over : (x y : ℕ) → x * E ≤ y * E + y → x * W ≤ y * E
    over x y h =
        le_of_mul-le-mul_right
        (le_trans (le_of_eq (mul_right_comm x W E))
        (le_trans (mul-le-mul_right W (more x y h))
        (le_trans (le_of_eq (mul_assoc y (E + 1) W)) (le_trans (mul-le-mul_left y (lit≤ {m = (E + 1) * W} {n = E * E} tt)) (le_of_eq (sym (mul_assoc y E E)))))))
        (lit≤ {m = 1} {n = E} tt)

    low : (w f A B a c r e u F : ℕ) → a * e * u ≤ r * c * F → w * (A * c) ≤ f * (a * B) → u * w * (A * e) * c ≤ F * f * (r * B) * c
    low w f A B a c r e u F h g =
        le_trans (le_of_eq (one u w A e c))
        (le_trans (mul-le-mul_left (u * e) g)
        (le_trans (le_of_eq (two u e f a B)) (le_trans (mul-le-mul_left (f * B) h) (le_of_eq (three f B r c F)))))
      where
        one : (u w A e c : ℕ) → u * w * (A * e) * c ≡ u * e * (w * (A * c))
        one u w A e c = simp (mul_assoc, mul_comm, mul_left_comm)

        two : (u e f a B : ℕ) → u * e * (f * (a * B)) ≡ f * B * (a * e * u)
        two u e f a B = simp (mul_assoc, mul_comm, mul_left_comm)

        three : (f B r c F : ℕ) → f * B * (r * c * F) ≡ F * f * (r * B) * c
        three f B r c F = simp (mul_assoc, mul_comm, mul_left_comm)

    high : (w f A B a c r e u F : ℕ) → r * c * u ≤ a * e * F → w * (a * B) ≤ f * (A * c) → u * w * (r * B) * c ≤ F * f * (A * e) * c
    high w f A B a c r e u F h g =
        le_trans (le_of_eq (one u w r B c))
        (le_trans (mul-le-mul_left (w * B) h)
        (le_trans (le_of_eq (two w B a e F)) (le_trans (mul-le-mul_left (e * F) g) (le_of_eq (three e F f A c)))))
      where
        one : (u w r B c : ℕ) → u * w * (r * B) * c ≡ w * B * (r * c * u)
        one u w r B c = simp (mul_assoc, mul_comm, mul_left_comm)

        two : (w B a e F : ℕ) → w * B * (a * e * F) ≡ e * F * (w * (a * B))
        two w B a e F = simp (mul_assoc, mul_comm, mul_left_comm)

        three : (e F f A c : ℕ) → e * F * (f * (A * c)) ≡ F * f * (A * e) * c
        three e F f A c = simp (mul_assoc, mul_comm, mul_left_comm)

-- ---- what so many roundings amount to: x / y is at most f / w, which is at most M / K
pub narrow : (w f M K x y : ℕ) → 0 < w → K * f ≤ M * w → w * x ≤ f * y → K * x ≤ M * y
narrow w f M K x y p n h =
    le_of_mul-le-mul_right (le_trans (le_of_eq (a K x w)) (le_trans (mul-le-mul_left K h) (le_trans (le_of_eq (sym (mul_assoc K f y))) (le_trans (mul-le-mul_right y n) (le_of_eq (mul_right_comm M w y)))))) p
  where
    a : (K x w : ℕ) → K * x * w ≡ K * (w * x)
    a K x w = omega arith
