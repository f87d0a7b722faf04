-- `surface_real::films::take_turns` meets its contract. Assumes nothing.
use mathlib.Core.Path.{◌≡◌, sym, ap, ◌∙◌}
use mathlib.Core.Bool.{Bool, true, false, not, true≢false}
use Prim.Native.Nat.{ℕ, ◌+◌, ◌-◌, ◌≤◌, ◌<◌}
use native.Mathlib.Omega.{arith}
use mathlib.Core.List.{List}
use lib.Dec.{T, ltb, ltb→lt, nltb→le}
use lib.Ieee.{Float}
use Rattle.math_trig.specs.Trig.{sin, cos}
use Rattle.surface_real.specs.declared.Film.{Film}
use Rattle.surface_real.specs.declared.Medium.{Medium}
use Rattle.surface_real.specs.Internal.{film_in}
use Rattle.surface_real.specs.InternalFilms.{at, film_at}
use Rattle.surface_real.proofs.films.take_turns.Invariants.{Turns}
use Rattle.surface_real.proofs.films.take_turns.Goals as goal

module _ (film : ℕ → Film) where
  none : Turns film 2
  none i h = absurd (never i h)
    where
      never : (i : ℕ) → i + 2 < 2 → ⊥
      never i h = omega arith

  -- one film more
  next : (m : ℕ) → 2 ≤ m → Turns film m → (r : Bool) → (T r → film m ≡ film (m - 2)) → not r ≡ false → Turns film (m + 1)
  next m b was true own e i h = go (ltb (i + 2) m) (ltb→lt (i + 2) m) (nltb→le (i + 2) m)
    where
      go : (t : Bool) → (T t → i + 2 < m) → (T (not t) → m ≤ i + 2) → film (i + 2) ≡ film i
      go true l g = was i (l tt)
      go false l g =
          let p : m ≡ i + 2 = omega (arith, h, g tt) in
          let q : m - 2 ≡ i = omega (arith, p) in
          ap film (sym p) ∙ own tt ∙ ap film q
  next m b was false own e i h = absurd (true≢false e)

-- one medium, one film
same_film : (es ep δ : List Float) (i j : ℕ)
    → ◌≡◌ {A = Medium} (record { eta_s = at es i; eta_p = at ep i; delta = at δ i }) (record { eta_s = at es j; eta_p = at ep j; delta = at δ j })
    → film_at es ep δ i ≡ film_at es ep δ j
unfolding film_at
same_film es ep δ i j e = ap (λ (m : Medium). film_in m.eta_s m.eta_p (sin m.delta) (cos m.delta)) e

pub loop-i-init : goal.loop-i-init
loop-i-init c = none _

pub returns-then-not-same_medium : goal.returns-then-not-same_medium
returns-then-not-same_medium c t = absurd t

pub loop-i-preserved : goal.loop-i-preserved
loop-i-preserved c =
    let a = c.args in
    next (film_at a.eta_s.now a.eta_p.now a.delta.now) c.loop-i.i c.loop-i.auto.i c.loop-i.invariant c.same_medium.result
    (λ t. same_film a.eta_s.now a.eta_p.now a.delta.now _ _ (c.same_medium.ensures t)) (ap not c.if-not-same_medium.false)

pub returns : goal.returns
returns c t i h = c.loop-i.invariant i (omega (arith, h, c.loop-i-test.false))
