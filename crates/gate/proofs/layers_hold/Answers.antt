-- `gate::layers_hold` meets its contract. The loop's invariant: the SURFACEs that are left hold exactly where all of them do. Assumes nothing.
use mathlib.Core.Path.{◌≡◌, refl, sym, ap, ◌∙◌}
use mathlib.Core.Bool.{Bool, true, false, not, ◌&&◌, cond}
use mathlib.Core.List.{List}
use Prim.Native.Nat.{ℕ, suc, ◌+◌, ◌-◌, ◌≤◌, ◌<◌}
use native.Mathlib.Omega.{arith}
use lib.Dec.{eqb}
use lib.Ieee.{Float}
use borrow.Author.Tests.{eq-eqb, ne_eqb, not-true, not-false}
use Rattle.sheet.specs.Words.{word, kind}
use Rattle.sheet.specs.Internal.{place_on, layer_run}
use Rattle.gate.specs.Internal.{surface_holds_at, layers_hold_at}
use Rattle.gate.proofs.layers_hold.Goals as goal

module _ (src : List ℕ) (place n i : ℕ) (w : Float) (o : Bool) (inv : layers_hold_at (n - i) src place w ≡ o) where
  module _ (lt : i < n) (k : ℕ) (is : k ≡ kind (word src place)) where
    abbrev rest : Bool
    rest = layers_hold_at (n - (i + 1)) src (place_on src place (suc (layer_run 16 src place))) w

    first : layers_hold_at (n - i) src place w ≡ cond (eqb k 7) true (surface_holds_at src place w && rest)
    unfolding layers_hold_at
    first = rw (fewer, ← is) refl
      where
        fewer : n - i ≡ suc (n - (i + 1))
        fewer = omega arith

    tuned : k ≡ 7 → true ≡ o
    tuned e = sym (first ∙ ap (λ (b : Bool). cond b true (surface_holds_at src place w && rest)) (eq-eqb k 7 e)) ∙ inv

    module _ (ne : k ≡ 7 → ⊥) (t : Bool) (t_is : t ≡ surface_holds_at src place w) where
      second : t && rest ≡ o
      second = sym (first ∙ ap (λ (b : Bool). cond b true (surface_holds_at src place w && rest)) (ne_eqb k 7 ne) ∙ ap (λ (b : Bool). b && rest) (sym t_is)) ∙ inv

      stops : not t ≡ true → false ≡ o
      stops e = sym (ap (λ (b : Bool). b && rest) (not-true t e)) ∙ second

      goes_on : not t ≡ false → (q : ℕ) → q ≡ place_on src place (suc (layer_run 16 src place)) → layers_hold_at (n - (i + 1)) src q w ≡ o
      goes_on e q q-is = rw q-is (sym (ap (λ (b : Bool). b && rest) (not-false t e)) ∙ second)

  all : n ≤ i → true ≡ o
  unfolding layers_hold_at
  all le = ap (λ (k : ℕ). layers_hold_at k src place w) (sym gone) ∙ inv
    where
      gone : n - i ≡ 0
      gone = omega arith

pub returns-then-kind_at-eq7 : goal.returns-then-kind_at-eq7
returns-then-kind_at-eq7 c = tuned _ _ _ _ _ _ c.loop.invariant c.loop-test.true _ c.kind_at.ensures c.if-kind_at-eq7.true

pub returns-then-not-surface_holds : goal.returns-then-not-surface_holds
returns-then-not-surface_holds c = stops _ _ _ _ _ _ c.loop.invariant c.loop-test.true _ c.kind_at.ensures c.if-kind_at-eq7.false _ c.surface_holds.ensures (ap not c.if-not-surface_holds.true)

pub loop-preserved : goal.loop-preserved
loop-preserved c = goes_on _ _ _ _ _ _ c.loop.invariant c.loop-test.true _ c.kind_at.ensures c.if-kind_at-eq7.false _ c.surface_holds.ensures (ap not c.if-not-surface_holds.false) _ c.after_layers-place.ensures

pub returns : goal.returns
returns c = all _ _ _ _ _ _ c.loop.invariant c.loop-test.false
