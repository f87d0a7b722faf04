-- A product of factors, each near its exact fraction. Assumes nothing.
use mathlib.Core.Path.{◌≡◌, refl, sym, ap, ap₂, ◌∙◌, subst}
use Prim.Native.Nat.{ℕ, zero, suc, ◌+◌, ◌*◌, ◌^◌, ◌≤◌, ◌<◌}
use native.Mathlib.Nat.{le_trans, le_of_eq, mul-one, one-mul, mul_comm, mul_assoc, mul_left_comm, mul-le-mul, mul-pos}
use native.Mathlib.Omega.{arith}
use mathlib.Core.List.{List, [], ◌∷◌}
use lib.Dec.{T, lit≤}
use lib.ListN.{length, take}
use lib.Ieee.{Float}
use Rattle.ieee.specs.Operators.{◌⊗◌}
use Rattle.ieee.specs.Range.{Mag}
use Rattle.ieee.specs.Count.{count}
use Rattle.ieee.proofs.Range.Laws.{mul_mag}
use Rattle.near_abs.proofs.Counts.{U, Held, count_most}
use Rattle.near_abs.proofs.Laws.{Near, renamed, wider, mul_near}
use Rattle.gate_limits.specs.Limits.{surface_passes}
use Rattle.fresnel_tilted.specs.Claim.{bound}
use Rattle.sheet.specs.Blocks.{All}
use Rattle.sheet.specs.Sheet.{SheetSurface}
use Rattle.sheet_values.specs.Values.{surface_value}
use Rattle.train_claim.specs.Claim as C
use Rattle.sheet_accuracy.specs.Claim.{Bare, product, each}
use Rattle.sheet_accuracy.proofs.Surface.{Factor}

mag_most : {x : Float} → Held x → Mag 1 0 x → count x ≤ 1 * U
mag_most {x} h m = le_trans (le_of_eq (sym (mul-one (count x)))) (count_most 1 0 h m.most)

-- f / g are the exact factors and c the rounded ones, which `of` lists
module _
    (f g : (y : SheetSurface) → Bare y → ℕ) (c : Float → SheetSurface → Float) (of : List Float → List SheetSurface → List Float)
    (none : (ys : List SheetSurface) → of [] ys ≡ []) (more : (w : Float) (ws : List Float) (y : SheetSurface) (ys : List SheetSurface) → of (w ∷ ws) (y ∷ ys) ≡ c w y ∷ of ws ys)
    (factor : (y : SheetSurface) → T (surface_passes (surface_value y)) → (h : Bare y) (w : Float) → Factor (f y h) (g y h) (c w y))
  where
    pub passed : (ws : List Float) (ys : List SheetSurface) → length ws ≤ length ys → All (λ (y : SheetSurface). T (surface_passes (surface_value y))) ys → (h : All Bare (take (length ws) ys)) (e A B : ℕ) (s : Float) → Near e A B s → Mag 1 0 s → A ≤ B
        → Near (e + length ws * each) (A * product f (take (length ws) ys) h) (B * product g (take (length ws) ys) h) (C.product s (of ws ys))
    unfolding C.product
    passed [] ys l good h e A B s n m u =
        subst (λ (cs : List Float). Near (e + 0 * each) (A * 1) (B * 1) (C.product s cs)) (sym (none ys))
        (wider (e + 0 * each) (le_of_eq (sum e each)) (renamed (A * 1) (B * 1) (mul-pos n.base (lit≤ {m = 1} {n = 1} tt)) (swap A B) n))
      where
        sum : (e b : ℕ) → e ≡ e + 0 * b
        sum e b = omega arith

        swap : (a b : ℕ) → a * (b * 1) ≡ a * 1 * b
        swap a b = omega arith
    passed (w ∷ ws) [] l good h e A B s n m u = absurd (no (length ws) l)
      where
        no : (k : ℕ) → suc k ≤ 0 → ⊥
        no k h = omega (arith, h)
    passed (w ∷ ws) (y ∷ ys) l good h e A B s n m u =
        let q = factor y good.0 h.0 w in
        let F = product f (take (length ws) ys) h.1 in
        let G = product g (take (length ws) ys) h.1 in
        let a = f y h.0 in
        let b = g y h.0 in
        let step : Near (e * 1 + 1 * bound + 2 ^ 1021) (A * a) (B * b) (s ⊗ c w y) = mul_near 1 1 1 1021 (lit≤ tt) (lit≤ tt) n q.near (le_trans u (le_of_eq (sym (one-mul B)))) (mag_most n.ok m) (mag_most q.near.ok q.mag) in
        let rest = passed ws ys (less l) good.1 h.1 (e * 1 + 1 * bound + 2 ^ 1021) (A * a) (B * b) (s ⊗ c w y) step (mul_mag m q.mag tt) (mul-le-mul u q.under) in
        subst (λ (cs : List Float). Near (e + suc (length ws) * each) (A * (a * F)) (B * (b * G)) (C.product s cs)) (sym (more w ws y ys))
        (wider (e + suc (length ws) * each) (le_of_eq (sum e (length ws) bound (2 ^ 1021))) (renamed (A * (a * F)) (B * (b * G)) (subst (λ (k : ℕ). 0 < k) (mul_assoc B b G) rest.base) (swap A a F B b G) rest))
      where
        less : {m n : ℕ} → suc m ≤ suc n → m ≤ n
        less h = omega (arith, h)

        sum : (e n b r : ℕ) → e * 1 + 1 * b + r + n * (b + r) ≡ e + suc n * (b + r)
        sum e n b r = omega arith

        swap : (A a F B b G : ℕ) → A * a * F * (B * (b * G)) ≡ A * (a * F) * (B * b * G)
        swap A a F B b G = simp (mul_assoc, mul_comm, mul_left_comm)
