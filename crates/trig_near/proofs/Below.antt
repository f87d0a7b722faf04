-- No partial sum of the sine's series from the tenth on is above 1 by more than 2 ^ -53. Assumes nothing.
use mathlib.Core.Path.{◌≡◌, refl, sym, ap, ap₂, ◌∙◌, subst}
use mathlib.Core.List.{List, [], ◌∷◌, map}
use mathlib.Core.Bool.{Bool, true, false}
use Prim.Native.Nat.{ℕ, zero, suc, ◌+◌, ◌-◌, ◌*◌, ◌^◌, ◌≤◌, ◌<◌}
use native.Mathlib.Nat.{le_refl, le_trans, le_of_eq, le_of_lt, lt_of_not-le, lt_of_le_of_lt, mul-one, mul_comm, mul_assoc, mul_left_comm, mul_right_comm, mul-le-mul, mul-le-mul_left, mul-le-mul_right, le_of_mul-le-mul_right, mul-pos, pow-succ'}
use native.Mathlib.Decide.{dec_le}
use native.Mathlib.Omega.{arith}
use lib.Dec.{T, lit≤}
use lib.IntN.{ℤ, pos, nat_abs, ◌+ℤ◌, ◌-ℤ◌, ◌*ℤ◌, pos-+ℤ-pos, pos-*ℤ-pos, -ℤ-+ℤ_cancel}
use lib.Ieee.{unlike}
use Rattle.whole_ring.proofs.Solver.{Ex, var, con, ◌:+◌, ◌:*◌, opp, eval, identity}
use Rattle.whole_ring.proofs.Naturals.{value, value_is, naturals}
use Rattle.whole_f64.specs.Whole.{signed}
use Rattle.whole_f64.proofs.Laws.{signed_mul, signed_sub}
use Rattle.trig_near.specs.Sums.{sine_steps, cosine_steps}
use Rattle.trig_near.proofs.Sizes.{minus, whole}
use Rattle.trig_near.proofs.Runs.{run_top, run_bottom}
use Rattle.trig_near.proofs.Sums.{run, run_is, run_top_is, run_same, run_bottom_is}
use Rattle.trig_near.proofs.Pythagoras.{from}

-- ---- the tenth sums as expressions: var 0 is Z, var 1 is Y
abbrev steps : (ℕ → ℕ) → ℕ → Ex → Ex → Ex
steps D zero a b = a
steps D (suc m) a b = steps D m (var 1 :* con (pos (D (suc m))) :* b :+ opp (var 0 :* a)) (var 1 :* con (pos (D (suc m))) :* b)

abbrev sine : Ex
sine = steps sine_steps 10 (con (pos 1)) (con (pos 1))

abbrev cosine : Ex
cosine = steps cosine_steps 10 (con (pos 1)) (con (pos 1))

abbrev pw : Ex → ℕ → Ex
pw x zero = con (pos 1)
pw x (suc k) = x :* pw x k

-- Z ^ k·Y ^ (21 - k)
abbrev mon : ℕ → Ex
mon k = pw (var 0) k :* pw (var 1) (21 - k)

-- 21!² and 21
abbrev K : ℕ
K = 2610284371992958109269091785113600000000

abbrev above : Ex
above = con (pos 4644631106519040000) :* mon 11 :+ con (pos 163753019781120000) :* mon 13 :+ con (pos 84475764172800) :* mon 15 :+ con (pos 6274195200) :* mon 17 :+ con (pos 128520) :* mon 19 :+ con (pos 1) :* mon 21

abbrev below : Ex
below = con (pos 2128789257154560000) :* mon 12 :+ con (pos 5068545850368000) :* mon 14 :+ con (pos 879955876800) :* mon 16 :+ con (pos 32558400) :* mon 18 :+ con (pos 399) :* mon 20

-- sin² + cos² of the tenth sums
circle : (r : List ℤ) → eval r (var 0 :* (sine :* sine) :+ con (pos 441) :* var 1 :* (cosine :* cosine) :+ below) ≡ eval r (con (pos K) :* mon 0 :+ above)
circle r = identity (var 0 :* (sine :* sine) :+ con (pos 441) :* var 1 :* (cosine :* cosine) :+ below) (con (pos K) :* mon 0 :+ above) tt r

abbrev bases : (ℕ → ℕ) → ℕ → Ex → Ex
bases D zero b = b
bases D (suc m) b = bases D m (var 1 :* con (pos (D (suc m))) :* b)

-- d·m is c·n at least
pair : (c d m n : ℕ) → 2 * n ≤ 5 * m → 5 * c ≤ 2 * d → c * n ≤ d * m
pair c d m n h l =
    let x : c * (2 * n) ≤ c * (5 * m) = mul-le-mul_left c h in
    let y : 5 * c * m ≤ 2 * d * m = mul-le-mul_right m l in
    omega (arith, x, y)

module _ (Z Y : ℕ) (y : 0 < Y) (z : Z * 2 ≤ 5 * Y) where
  abbrev r : List ℕ
  r = Z ∷ Y ∷ []

  abbrev t : ℕ
  t = run_top sine_steps Z Y 10 1 1

  six_more : (k : ℕ) → Z ≤ Y * sine_steps (suc k)
  six_more k = go Z Y (sine_steps (suc k)) z (six k)
    where
      six : (k : ℕ) → 6 ≤ sine_steps (suc k)
      six k = omega arith

      go : (z y d : ℕ) → z * 2 ≤ 5 * y → 6 ≤ d → z ≤ y * d
      go z y d a b = let c : y * 6 ≤ y * d = mul-le-mul_left y b in omega (arith, a, c)

  sine_is : eval (pos Z ∷ pos Y ∷ []) sine ≡ pos t
  unfolding run
  sine_is = run_same sine_steps Z Y 10 1 1 six_more (lit≤ tt)

  abbrev c : ℤ
  c = eval (pos Z ∷ pos Y ∷ []) cosine

  square : (c : ℤ) → c *ℤ c ≡ pos (nat_abs c * nat_abs c)
  square c = sym (ap₂ ◌*ℤ◌ (whole c) (whole c)) ∙ signed_mul (minus c) (minus c) (nat_abs c) (nat_abs c) ∙ like (minus c) (nat_abs c * nat_abs c)
    where
      like : (s : Bool) (n : ℕ) → signed (unlike s s) n ≡ pos n
      like true n = refl
      like false n = refl

  abbrev M : ℕ → ℕ
  M k = value r (mon k)

  whole_circle : Z * (t * t) + 441 * Y * (nat_abs c * nat_abs c) + value r below ≡ K * M 0 + value r above
  whole_circle =
      ap nat_abs
      (sym (ap₂ ◌+ℤ◌ (ap₂ ◌+ℤ◌ (ap (λ (w : ℤ). pos Z *ℤ (w *ℤ w)) sine_is) (ap (λ (w : ℤ). pos 441 *ℤ pos Y *ℤ w) (square c))) (value_is r below tt))
      ∙ circle (pos Z ∷ pos Y ∷ []) ∙ value_is r (con (pos K) :* mon 0 :+ above) tt)

  -- each next one is 5/2 of the last at most
  falls : (a b : ℕ) → 2 * (Z * a * b) ≤ 5 * (a * (Y * b))
  falls a b = let x : a * b * (Z * 2) ≤ a * b * (5 * Y) = mul-le-mul_left (a * b) z in omega (arith, x)

  powers : (k : ℕ) → value r (pw (var 0) k) * 2 ^ k ≤ 5 ^ k * value r (pw (var 1) k)
  powers zero = lit≤ {m = 1} {n = 1} tt
  powers (suc k) =
      le_trans (le_of_eq (one Z (value r (pw (var 0) k)) (2 ^ suc k) (2 ^ k) (pow-succ' 2 k))) (le_trans (mul-le-mul z (powers k)) (le_of_eq (two Y (value r (pw (var 1) k)) (5 ^ suc k) (5 ^ k) (pow-succ' 5 k))))
    where
      one : (Z a q p : ℕ) → q ≡ 2 * p → Z * a * q ≡ Z * 2 * (a * p)
      one Z a q p e = ap (λ (n : ℕ). Z * a * n) e ∙ go Z a p
        where
          go : (Z a p : ℕ) → Z * a * (2 * p) ≡ Z * 2 * (a * p)
          go Z a p = omega arith

      two : (Y a q p : ℕ) → q ≡ 5 * p → 5 * Y * (p * a) ≡ q * (Y * a)
      two Y a q p e = go Y a p ∙ ap (λ (n : ℕ). n * (Y * a)) (sym e)
        where
          go : (Y a p : ℕ) → 5 * Y * (p * a) ≡ 5 * p * (Y * a)
          go Y a p = omega arith

  above_small : value r above ≤ 4644631106519040000 * M 11 + value r below
  above_small =
      go (4644631106519040000 * M 11) _ _ _ _ _ _ _ _ _ _
      (pair 163753019781120000 2128789257154560000 (M 12) (M 13) (falls (value r (pw (var 0) 12)) (value r (pw (var 1) 8))) (lit≤ tt))
      (pair 84475764172800 5068545850368000 (M 14) (M 15) (falls (value r (pw (var 0) 14)) (value r (pw (var 1) 6))) (lit≤ tt))
      (pair 6274195200 879955876800 (M 16) (M 17) (falls (value r (pw (var 0) 16)) (value r (pw (var 1) 4))) (lit≤ tt))
      (pair 128520 32558400 (M 18) (M 19) (falls (value r (pw (var 0) 18)) (value r (pw (var 1) 2))) (lit≤ tt))
      (pair 1 399 (M 20) (M 21) (falls (value r (pw (var 0) 20)) (value r (pw (var 1) 0))) (lit≤ tt))
    where
      go : (a b c d e f g h i j k : ℕ) → b ≤ c → d ≤ e → f ≤ g → h ≤ i → j ≤ k → a + b + d + f + h + j ≤ a + (c + e + g + i + k)
      go a b c d e f g h i j k p q r s t = omega (arith, p, q, r, s, t)

  eleventh : 2 ^ 53 * (4644631106519040000 * M 11) ≤ K * M 0
  eleventh =
      le_trans (le_of_eq (sym (mul_assoc (2 ^ 53) 4644631106519040000 (M 11))))
      (le_of_mul-le-mul_right
      (le_trans (le_of_eq (one (2 ^ 53 * 4644631106519040000) (value r (pw (var 0) 11)) (value r (pw (var 1) 10)) (2 ^ 11)))
      (le_trans (mul-le-mul_left (2 ^ 53 * 4644631106519040000) (mul-le-mul_right (value r (pw (var 1) 10)) (powers 11)))
      (le_trans (le_of_eq (two (2 ^ 53 * 4644631106519040000) (5 ^ 11) (value r (pw (var 1) 11)) (value r (pw (var 1) 10))))
      (le_trans (mul-le-mul_right (value r (pw (var 1) 11) * value r (pw (var 1) 10)) (lit≤ {m = 2 ^ 53 * 4644631106519040000 * 5 ^ 11} {n = K * 2 ^ 11} tt))
      (le_of_eq (ap (λ (n : ℕ). K * 2 ^ 11 * n) (naturals (pw (var 1) 11 :* pw (var 1) 10) (mon 0) tt r) ∙ mul_right_comm K (2 ^ 11) (M 0)))))))
      (lit≤ {m = 1} {n = 2 ^ 11} tt))
    where
      one : (c a b p : ℕ) → c * (a * b) * p ≡ c * (a * p * b)
      one c a b p = simp (mul_assoc, mul_comm, mul_left_comm)

      two : (c f a b : ℕ) → c * (f * a * b) ≡ c * f * (a * b)
      two c f a b = simp (mul_assoc)

  tenth : 2 ^ 53 * (Z * (t * t)) ≤ (2 ^ 53 + 1) * (K * M 0)
  tenth = go (Z * (t * t)) (441 * Y * (nat_abs c * nat_abs c)) (value r below) (K * M 0) (value r above) (4644631106519040000 * M 11) whole_circle above_small eleventh
    where
      go : (x y b m a e : ℕ) → x + y + b ≡ m + a → a ≤ e + b → 2 ^ 53 * e ≤ m → 2 ^ 53 * x ≤ (2 ^ 53 + 1) * m
      go x y b m a e h i j = omega (arith, h, i, j)

  -- from any start that is no more than 1
  tops : (A B : ℕ) → A ≤ B → run_top sine_steps Z Y 10 A B ≤ t * B
  tops A B l =
      go (B - A) (back A B l)
    where
      back : (A B : ℕ) → A ≤ B → B ≡ A + (B - A)
      back A B h = omega (arith, h)

      less : (x d k : ℕ) → x + d ≡ k → x ≤ k
      less x d k e = omega (arith, e)

      go : (d : ℕ) → B ≡ A + d → run_top sine_steps Z Y 10 A B ≤ t * B
      go d e =
          less (run_top sine_steps Z Y 10 A B) (d * Z ^ 10) (t * B)
          (ap nat_abs
          (ap (λ (w : ℤ). w +ℤ pos d *ℤ pos (Z ^ 10))
          (sym (run_same sine_steps Z Y 10 A B six_more l) ∙ run_is sine_steps Z Y 10 (pos A) (pos B) ∙ ap (λ (w : ℤ). w *ℤ pos B +ℤ (pos A -ℤ pos B) *ℤ pos (Z ^ 10)) (sym (run_top_is sine_steps Z Y 10) ∙ run_same sine_steps Z Y 10 1 1 six_more (lit≤ tt)))
          ∙ ap (λ (w : ℤ). pos t *ℤ w +ℤ (pos A -ℤ w) *ℤ pos (Z ^ 10) +ℤ pos d *ℤ pos (Z ^ 10)) (ap pos e ∙ sym (pos-+ℤ-pos A d))
          ∙ identity (var 0 :* (var 1 :+ var 2) :+ (var 1 :+ opp (var 1 :+ var 2)) :* var 3 :+ var 2 :* var 3) (var 0 :* (var 1 :+ var 2)) tt (pos t ∷ pos A ∷ pos d ∷ pos (Z ^ 10) ∷ [])
          ∙ ap (λ (w : ℤ). pos t *ℤ w) (pos-+ℤ-pos A d ∙ ap pos (sym e))))

  sums : (j : ℕ) → let A = run_top sine_steps Z Y (10 + j) 1 1 in let G = run_bottom sine_steps Y (10 + j) 1 in 2 ^ 53 * (Z * (A * A)) ≤ (2 ^ 53 + 1) * (Y * (G * G))
  unfolding run_bottom
  sums j = from sine_steps Z Y 10 (λ (A G : ℕ). 2 ^ 53 * (Z * (A * A)) ≤ (2 ^ 53 + 1) * (Y * (G * G))) (λ k. mul-pos y (some k)) at j 1 1 (lit≤ tt) (lit≤ tt)
    where
      some : (k : ℕ) → 0 < sine_steps (suc k)
      some k = omega arith

      at : (A B : ℕ) → 0 < B → A ≤ B → 2 ^ 53 * (Z * (run_top sine_steps Z Y 10 A B * run_top sine_steps Z Y 10 A B)) ≤ (2 ^ 53 + 1) * (Y * (run_bottom sine_steps Y 10 B * run_bottom sine_steps Y 10 B))
      at A B b l =
          le_trans (mul-le-mul_left (2 ^ 53) (mul-le-mul_left Z (mul-le-mul (tops A B l) (tops A B l))))
          (le_trans (le_of_eq (one Z t B (2 ^ 53)))
          (le_trans (mul-le-mul_right (B * B) tenth)
          (le_of_eq (mul_assoc (2 ^ 53 + 1) (K * M 0) (B * B) ∙ ap (λ (n : ℕ). (2 ^ 53 + 1) * n) (naturals (con (pos K) :* mon 0 :* (var 2 :* var 2)) (var 1 :* (bases sine_steps 10 (var 2) :* bases sine_steps 10 (var 2))) tt (Z ∷ Y ∷ B ∷ []))))))
        where
          one : (Z t B p : ℕ) → p * (Z * (t * B * (t * B))) ≡ p * (Z * (t * t)) * (B * B)
          one Z t B p = simp (mul_assoc, mul_comm, mul_left_comm)

-- ---- X-as-A / (W-as-G) is 1 + 2 ^ -53 at most
roots : (k a b : ℕ) → k * (a * a) ≤ (k + 1) * (b * b) → k * a ≤ (k + 1) * b
roots k a b h = go (dec_le a b)
  where
    go : Dec (a ≤ b) → k * a ≤ (k + 1) * b
    go (yes l) = le_trans (mul-le-mul_left k l) (more k b)
      where
        more : (k b : ℕ) → k * b ≤ (k + 1) * b
        more k b = omega arith
    go (no l) =
        let m : b < a = lt_of_not-le l in
        le_of_mul-le-mul_right (le_trans (le_of_eq (mul_assoc k a a)) (le_trans h (le_trans (mul-le-mul_left (k + 1) (mul-le-mul_left b (le_of_lt m))) (le_of_eq (sym (mul_assoc (k + 1) b a)))))) (pos_of a b m)
      where
        pos_of : (a b : ℕ) → b < a → 0 < a
        pos_of a b h = omega (arith, h)

pub at_most_one : (X W : ℕ) → 0 < W → X * X * 2 ≤ 5 * (W * W) → (j : ℕ) → 2 ^ 53 * (X * run_top sine_steps (X * X) (W * W) (10 + j) 1 1) ≤ (2 ^ 53 + 1) * (W * run_bottom sine_steps (W * W) (10 + j) 1)
at_most_one X W w z j =
    let A = run_top sine_steps (X * X) (W * W) (10 + j) 1 1 in
    let G = run_bottom sine_steps (W * W) (10 + j) 1 in
    roots (2 ^ 53) (X * A) (W * G) (le_trans (le_of_eq (ap (λ (n : ℕ). 2 ^ 53 * n) (one X A))) (le_trans (sums (X * X) (W * W) (mul-pos w w) z j) (le_of_eq (ap (λ (n : ℕ). (2 ^ 53 + 1) * n) (sym (one W G))))))
  where
    one : (x a : ℕ) → x * a * (x * a) ≡ x * x * (a * a)
    one x a = simp (mul_assoc, mul_comm, mul_left_comm)
