-- The laws of absolute error: x within e of A / B and y within f of C / D give the same of x·y, x + y, |x - y| and x / y. e and f count 2 ^ -1074. Assumes nothing.
use mathlib.Core.Path.{◌≡◌, refl, sym, ap, ap₂, ◌∙◌}
use Prim.Native.Nat.{ℕ, suc, ◌+◌, ◌-◌, ◌*◌, ◌^◌, ◌≤◌, ◌<◌}
use native.Mathlib.Nat.{le_trans, le_of_eq, lt_of_le_of_lt, mul-one, mul_comm, mul_assoc, mul_left_comm, mul_right_comm, mul-le-mul, mul-le-mul_left, mul-le-mul_right, le_of_mul-le-mul_right, mul-lt-mul_of_pos_right, mul-pos, add-mul, mul-sub}
use native.Mathlib.Omega.{arith}
use lib.Dec.{T}
use lib.Pow.{pow_pos}
use lib.Ieee.{Float}
use Rattle.ieee.specs.Operators.{◌⊕◌, ◌⊖◌, ◌⊗◌, ◌⊘◌}
use Rattle.ieee.specs.Range.{plus}
use Rattle.ieee.specs.Count.{count}
use Rattle.near_abs.specs.Off.{Within}
use Rattle.ieee_near.specs.Index.{gap}
use Rattle.near_abs.proofs.Within.{same, turn, chain, widen, gaps, times, untimes, known, product}
use Rattle.near_abs.proofs.Counts.{U, Held, mul_off, div_off, add_off, sub_off}

pub record Near (e A B : ℕ) (x : Float) : Type 0 where
  pub ok : Held x
  pub base : 0 < B
  pub off : Within (e * B) (count x * B) (A * U)

-- |x| itself
pub itself : {x : Float} → Held x → Near 0 (count x) U x
itself {x} h = record { ok = h; base = pow_pos 1074; off = known (zero U) refl refl (same (count x * U)) }
  where
    zero : (u : ℕ) → 0 ≡ 0 * u
    zero u = omega arith

-- the same fraction under another name, and a wider bound
pub renamed : {e A B : ℕ} {x : Float} (A' B' : ℕ) → 0 < B' → A * B' ≡ A' * B → Near e A B x → Near e A' B' x
renamed {e} {A} {B} {x} A' B' p q h = record {
  ok = h.ok;
  base = p;
  off = untimes (e * B') (count x * B') (A' * U) B h.base (known (mul_right_comm e B B') (mul_right_comm (count x) B B') (mul_right_comm A U B' ∙ ap (λ (z : ℕ). z * U) q ∙ mul_right_comm A' B U) (times B' h.off));
}

pub wider : {e A B : ℕ} {x : Float} (f : ℕ) → e ≤ f → Near e A B x → Near f A B x
wider {e} {A} {B} f l h = record { ok = h.ok; base = h.base; off = widen (mul-le-mul_right B l) h.off }

-- the size of the f64, from the exact fraction's
pub most : {e A B : ℕ} {x : Float} (p q : ℕ) → Near e A B x → A ≤ p * B → p * U + e ≤ q * U → count x ≤ q * U
most {e} {A} {B} {x} p q h a b = le_of_mul-le-mul_right (go (count x) B A U e p q h.off.most a b) h.base
  where
    go : (c B A u e p q : ℕ) → c * B ≤ A * u + e * B → A ≤ p * B → p * u + e ≤ q * u → c * B ≤ q * u * B
    go c B A u e p q h a b =
        let x : A * u ≤ p * B * u = mul-le-mul_right u a in
        let y : (p * u + e) * B ≤ q * u * B = mul-le-mul_right B b in
        omega (arith, h, x, y)

-- ---- a product: A / B ≤ p, x ≤ r and y ≤ q
pub mul_near : {e f A B C D : ℕ} {x y : Float} (p q r k : ℕ) → k ≤ 1100 → r * q * U < 2 ^ (53 + suc k) → Near e A B x → Near f C D y → A ≤ p * B → count x ≤ r * U → count y ≤ q * U → Near (e * q + p * f + 2 ^ k) (A * C) (B * D) (x ⊗ y)
mul_near {e} {f} {A} {B} {C} {D} {x} {y} p q r k km l hx hy a rx qy =
    let z = mul_off k km hx.ok hy.ok (small (count x) (count y) r q U (2 ^ (53 + suc k)) (pow_pos 1074) rx qy l) in
    let w : Within (e * B * (count y * D) + A * U * (f * D)) (count x * B * (count y * D)) (A * U * (C * U)) = product hx.off hy.off in
    let v : Within (2 ^ k * U * (B * D)) (count (x ⊗ y) * U * (B * D)) (count x * count y * (B * D)) = times (B * D) z.off in
    record {
      ok = z.ok;
      base = mul-pos hx.base hy.base;
      off =
          untimes ((e * q + p * f + 2 ^ k) * (B * D)) (count (x ⊗ y) * (B * D)) (A * C * U) U (pow_pos 1074)
          (widen (enough (count y) A B D U e f p q (2 ^ k) a qy) (known refl (mul_right_comm (count (x ⊗ y)) U (B * D)) (four A U C) (chain v (known refl (sym (two (count x) (count y) B D)) refl w))));
    }
  where
    small : (x y r q u L : ℕ) → 0 < u → x ≤ r * u → y ≤ q * u → r * q * u < L → x * y < L * u
    small x y r q u L P a b l = lt_of_le_of_lt (mul-le-mul a b) (lt_of_le_of_lt (le_of_eq (one r q u)) (mul-lt-mul_of_pos_right l P))
      where
        one : (r q u : ℕ) → r * u * (q * u) ≡ r * q * u * u
        one r q u = simp (mul_assoc, mul_comm, mul_left_comm)

    two : (p z B Y : ℕ) → p * z * (B * Y) ≡ p * B * (z * Y)
    two p z B Y = simp (mul_assoc, mul_comm, mul_left_comm)

    four : (A U C : ℕ) → A * U * (C * U) ≡ A * C * U * U
    four A U C = simp (mul_assoc, mul_comm, mul_left_comm)

    enough : (y A B D u e f p q h : ℕ) → A ≤ p * B → y ≤ q * u → h * u * (B * D) + (e * B * (y * D) + A * u * (f * D)) ≤ (e * q + p * f + h) * (B * D) * u
    enough y A B D u e f p q h a b =
        let i : e * B * D * y ≤ e * B * D * (q * u) = mul-le-mul_left (e * B * D) b in
        let j : u * f * D * A ≤ u * f * D * (p * B) = mul-le-mul_left (u * f * D) a in
        omega (arith, i, j)

-- ---- a sum and a difference of values whose signs are clear
both_off : (e f A B C D x y : ℕ) → Within (e * B) (x * B) (A * U) → Within (f * D) (y * D) (C * U) → (Within (e * (B * D)) (x * (B * D)) (A * D * U)) × (Within (f * (B * D)) (y * (B * D)) (C * B * U))
both_off e f A B C D x y h g = (
  known (mul_assoc e B D) (mul_assoc x B D) (mul_right_comm A U D) (times D h),
  known (other f D B) (other y D B) (mul_right_comm C U B) (times B g),
)
  where
    other : (f D B : ℕ) → f * D * B ≡ f * (B * D)
    other f D B = simp (mul_assoc, mul_comm)

pub add_near : {e f A B C D : ℕ} {x y : Float} (k : ℕ) → k ≤ 1100 → count x + count y < 2 ^ (53 + suc k) * 1 → T (plus x) → T (plus y) → Near e A B x → Near f C D y → Near (e + f + 2 ^ k) (A * D + C * B) (B * D) (x ⊕ y)
add_near {e} {f} {A} {B} {C} {D} {x} {y} k km l px py hx hy =
    let z = add_off k km px py hx.ok hy.ok l in
    let w = both_off e f A B C D (count x) (count y) hx.off hy.off in
    record {
      ok = z.ok;
      base = mul-pos hx.base hy.base;
      off = go (count (x ⊕ y)) (count x) (count y) (A * D) (C * B) (B * D) U e f (2 ^ k) z.off w.0 w.1;
    }
  where
    go : (z x y a c K u e f h : ℕ) → Within (h * 1) (z * 1) (x + y) → Within (e * K) (x * K) (a * u) → Within (f * K) (y * K) (c * u) → Within ((e + f + h) * K) (z * K) ((a + c) * u)
    go z x y a c K u e f h r s t =
        let v : Within (h * 1 * K) (z * 1 * K) ((x + y) * K) = times K r in
        record { most = omega (arith, v, s, t); least = omega (arith, v, s, t) }

pub sub_near : {e f A B C D : ℕ} {x y : Float} (k : ℕ) → k ≤ 1100 → gap (count x) (count y) < 2 ^ (53 + suc k) * 1 → T (plus x) → T (plus y) → Near e A B x → Near f C D y → Near (e + f + 2 ^ k) (gap (A * D) (C * B)) (B * D) (x ⊖ y)
sub_near {e} {f} {A} {B} {C} {D} {x} {y} k km l px py hx hy =
    let z = sub_off k km px py hx.ok hy.ok l in
    let w = both_off e f A B C D (count x) (count y) hx.off hy.off in
    record {
      ok = z.ok;
      base = mul-pos hx.base hy.base;
      off = go (count (x ⊖ y)) (count x) (count y) (A * D) (C * B) (B * D) U e f (2 ^ k) z.off w.0 w.1;
    }
  where
    spread : (a b k : ℕ) → gap a b * k ≡ gap (a * k) (b * k)
    spread a b k = add-mul (a - b) (b - a) k ∙ ap₂ ◌+◌ (less a b k) (less b a k)
      where
        less : (a b c : ℕ) → (a - b) * c ≡ a * c - b * c
        less a b c = mul_comm (a - b) c ∙ mul-sub c a b ∙ ap₂ ◌-◌ (mul_comm c a) (mul_comm c b)

    sum : (e f h K : ℕ) → h * K + (e * K + f * K) ≡ (e + f + h) * K
    sum e f h K = omega arith

    go : (z x y a c K u e f h : ℕ) → Within (h * 1) (z * 1) (gap x y) → Within (e * K) (x * K) (a * u) → Within (f * K) (y * K) (c * u) → Within ((e + f + h) * K) (z * K) (gap a c * u)
    go z x y a c K u e f h r s t =
        let v : Within (h * K) (z * K) (gap x y * K) = times K (known (mul-one h) (mul-one z) refl r) in
        known (sum e f h K) refl (sym (spread a c u)) (chain v (known refl (sym (spread x y K)) refl (gaps s t)))

-- ---- a quotient: x / y ≤ r, and C / D ≥ 1 / l
pub div_near : {e f A B C D : ℕ} {x y : Float} (r l k : ℕ) → k ≤ 1100 → count x * U < 2 ^ (53 + suc k) * count y → 0 < count y → 0 < C → Near e A B x → Near f C D y → count (x ⊘ y) ≤ r * U → D ≤ l * C → f * l ≤ U → Near (r * f * l + e * l + 2 * 2 ^ k) (A * D) (B * C) (x ⊘ y)
div_near {e} {f} {A} {B} {C} {D} {x} {y} r l k km small pos c0 hx hy qr dl fl =
    let z = div_off k km hx.ok hy.ok pos small in
    let q = count (x ⊘ y) in
    let a : Within (f * D * (q * B)) (count y * D * (q * B)) (C * U * (q * B)) = times (q * B) hy.off in
    let b : Within (2 ^ k * count y * (D * B)) (q * count y * (D * B)) (count x * U * (D * B)) = times (D * B) z.off in
    let c : Within (e * B * (U * D)) (count x * B * (U * D)) (A * U * (U * D)) = times (U * D) hx.off in
    record {
      ok = z.ok;
      base = mul-pos hx.base c0;
      off =
          untimes ((r * f * l + e * l + 2 * 2 ^ k) * (B * C)) (q * (B * C)) (A * D * U) U (pow_pos 1074)
          (widen (enough q (count y) B C D U e f (2 ^ k) r l hy.off.most qr dl fl) (known refl (one C U q B) (two A U D) (chain (turn a) (known refl (three q (count y) D B) refl (chain b (known refl (four (count x) B U D) refl c))))));
    }
  where
    one : (C u q B : ℕ) → C * u * (q * B) ≡ q * (B * C) * u
    one C u q B = simp (mul_assoc, mul_comm, mul_left_comm)

    two : (A u D : ℕ) → A * u * (u * D) ≡ A * D * u * u
    two A u D = simp (mul_assoc, mul_comm, mul_left_comm)

    three : (q y D B : ℕ) → q * y * (D * B) ≡ y * D * (q * B)
    three q y D B = simp (mul_assoc, mul_comm, mul_left_comm)

    four : (x B u D : ℕ) → x * B * (u * D) ≡ x * u * (D * B)
    four x B u D = simp (mul_assoc, mul_comm, mul_left_comm)

    enough : (q y B C D u e f h r l : ℕ) → y * D ≤ C * u + f * D → q ≤ r * u → D ≤ l * C → f * l ≤ u → f * D * (q * B) + (h * y * (D * B) + e * B * (u * D)) ≤ (r * f * l + e * l + 2 * h) * (B * C) * u
    enough q y B C D u e f h r l m n o p =
        le_trans (add_mono (first f D q B l C r u o n) (add_mono (second h y D B C u f l m o p) (third e B u D l C o))) (le_of_eq (total r f l e h B C u))
      where
        first : (f D q B l C r u : ℕ) → D ≤ l * C → q ≤ r * u → f * D * (q * B) ≤ r * f * l * (B * C * u)
        first f D q B l C r u o n = le_trans (le_of_eq (simp (mul_assoc, mul_comm, mul_left_comm))) (le_trans (mul-le-mul_left (f * B) (mul-le-mul o n)) (le_of_eq (simp (mul_assoc, mul_comm, mul_left_comm))))

        second : (h y D B C u f l : ℕ) → y * D ≤ C * u + f * D → D ≤ l * C → f * l ≤ u → h * y * (D * B) ≤ 2 * h * (B * C * u)
        second h y D B C u f l m o p =
            let i : h * B * (y * D) ≤ h * B * (C * u + f * D) = mul-le-mul_left (h * B) m in
            let j : h * B * f * D ≤ h * B * f * (l * C) = mul-le-mul_left (h * B * f) o in
            let k : h * B * C * (f * l) ≤ h * B * C * u = mul-le-mul_left (h * B * C) p in
            omega (arith, i, j, k)

        third : (e B u D l C : ℕ) → D ≤ l * C → e * B * (u * D) ≤ e * l * (B * C * u)
        third e B u D l C o = let i : e * B * u * D ≤ e * B * u * (l * C) = mul-le-mul_left (e * B * u) o in omega (arith, i)

        total : (r f l e h B C u : ℕ) → r * f * l * (B * C * u) + (2 * h * (B * C * u) + e * l * (B * C * u)) ≡ (r * f * l + e * l + 2 * h) * (B * C) * u
        total r f l e h B C u = omega arith

        add_mono : {a b c d : ℕ} → a ≤ b → c ≤ d → a + c ≤ b + d
        add_mono h g = omega (arith, h, g)

-- ---- v - t, where t is no more than v, beside what X / K leaves of 1
pub rest_off : (v t n K X C e u : ℕ) → t ≤ v → Within (u * 1) (n * 1) (gap v t) → Within e (t * K) (X * v) → C + X ≡ K → Within (u * K + e) (n * K) (C * v)
rest_off v t n K X C e u l h g x =
    let i : Within (u * 1 * K) (n * 1 * K) (gap v t * K) = times K h in
    let j : (C + X) * v ≡ K * v = ap (λ (k : ℕ). k * v) x in
    go (n * K) (gap v t * K) (t * K) (X * v) (C * v) (K * v) (u * K) e (known (one u K) (one n K) refl i) g (whole v t K l) (sym (add-mul C X v) ∙ j)
  where
    one : (u K : ℕ) → u * 1 * K ≡ u * K
    one u K = omega arith

    whole : (v t K : ℕ) → t ≤ v → gap v t * K + t * K ≡ K * v
    whole v t K l = sym (add-mul (gap v t) t K) ∙ ap (λ (z : ℕ). z * K) (back v t l) ∙ mul_comm v K
      where
        back : (v t : ℕ) → t ≤ v → gap v t + t ≡ v
        back v t l = omega (arith, l)

    go : (n y t x c k u e : ℕ) → Within u n y → Within e t x → y + t ≡ k → c + x ≡ k → Within (u + e) n c
    go n y t x c k u e a b d f = omega (arith, a, b, d, f)
