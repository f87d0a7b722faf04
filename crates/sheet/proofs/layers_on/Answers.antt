-- `sheet::layers_on` meets its contract. The loop's invariant: the layers passed, with the run of layers from here on, are the whole run. Assumes nothing.
use mathlib.Core.Path.{◌≡◌, refl, sym, ap, ◌∙◌}
use mathlib.Core.Bool.{Bool, true, false, not}
use mathlib.Core.List.{List}
use Prim.Native.Nat.{ℕ, zero, suc, ◌+◌, ◌-◌, ◌<◌}
use native.Mathlib.Nat.{add-zero, zero-add}
use native.Mathlib.Numerals.{add-one}
use native.Mathlib.Omega.{arith}
use borrow.Author.Tests.{not-true, not-false}
use Rattle.sheet.specs.Words.{word, kind}
use Rattle.sheet.specs.Read.{layer_kind}
use Rattle.sheet.specs.Internal.{next_place, place_on, layer_follows, layer_run, layers_on}
use Rattle.sheet.proofs.layers_on.Invariants.{Passed}
use Rattle.sheet.proofs.layers_on.Goals as goal

-- one block more
further : (src : List ℕ) (n at : ℕ) → next_place src (place_on src at n) ≡ place_on src at (suc n)
unfolding place_on
further src zero at = refl
further src (suc n) at = further src n (next_place src at)

none_yet : (src : List ℕ) (at place : ℕ) → place ≡ next_place src at → Passed src at 0 place
unfolding place_on
none_yet src at place e = record { there = e; run = zero-add _ }

module _ (src : List ℕ) (at n place : ℕ) (p : Passed src at n place) where
  ends : (count : ℕ) → count ≡ n → n ≡ layer_run 16 src at → record { count = count; next = place } ≡ layers_on src at
  ends count here e = λ i. record { count = (here ∙ e) i; next = (p.there ∙ ap (λ (k : ℕ). place_on src at (suc k)) e) i }

  module _ (lt : n < 16) (k : ℕ) (is : k ≡ kind (word src place)) (t : Bool) (can : t ≡ layer_kind 2 k) where
    fewer : 16 - n ≡ suc (16 - (n + 1))
    fewer = omega arith

    follows : layer_follows src (place_on src at n) ≡ t
    follows = ap (λ (q : ℕ). layer_kind 2 (kind (word src q))) (further src n at ∙ sym p.there) ∙ ap (layer_kind 2) (sym is) ∙ sym can

    more : not t ≡ false → (q : ℕ) → q ≡ next_place src place → Passed src at (n + 1) q
    unfolding layer_run
    more e q q-is = record {
      there = q-is ∙ ap (next_place src) p.there ∙ further src (suc n) at ∙ ap (λ (m : ℕ). place_on src at (suc m)) (sym (add-one n));
      run =
          ap (λ (m : ℕ). n + 1 + layer_run (16 - (n + 1)) src m) (ap (place_on src at) (add-one n) ∙ sym (further src n at))
          ∙ up n (layer_run (16 - (n + 1)) src (next_place src (place_on src at n)))
          ∙ (rw (fewer, follows, not-false t e) at p.run);
    }
      where
        up : (n r : ℕ) → n + 1 + r ≡ n + suc r
        up n r = omega arith

    last : not t ≡ true → n ≡ layer_run 16 src at
    unfolding layer_run
    last e = sym (add-zero n) ∙ (rw (fewer, follows, not-true t e) at p.run)

  whole : n ≡ 16 → n ≡ layer_run 16 src at
  unfolding layer_run
  whole e = sym (add-zero n) ∙ ap (λ (m : ℕ). n + layer_run m src (place_on src at n)) (sym gone) ∙ p.run
    where
      gone : 16 - n ≡ 0
      gone = omega arith

-- no layer at all
no_layer : (src : List ℕ) (at : ℕ) (t : Bool) → t ≡ layer_follows src at → not t ≡ true → 0 ≡ layer_run 16 src at
unfolding layer_run
no_layer src at t can e = sym (rw (sym can ∙ not-true t e))

pub returns-then-not-layer_follows : goal.returns-then-not-layer_follows
returns-then-not-layer_follows c = ends _ _ _ _ (none_yet _ _ _ c.next_place-place.ensures) _ refl (no_layer _ _ _ c.layer_follows.ensures (ap not c.if-not-layer_follows.true))

pub loop-n-init : goal.loop-n-init
loop-n-init c = none_yet _ _ _ c.next_place-place.ensures

pub returns-then-not-layer_kind : goal.returns-then-not-layer_kind
returns-then-not-layer_kind c = ends _ _ _ _ c.loop-n.invariant _ refl (last _ _ _ _ c.loop-n.invariant c.loop-n-test.true _ c.kind_at.ensures _ c.layer_kind.ensures (ap not c.if-not-layer_kind.true))

pub loop-n-preserved : goal.loop-n-preserved
loop-n-preserved c = more _ _ _ _ c.loop-n.invariant c.loop-n-test.true _ c.kind_at.ensures _ c.layer_kind.ensures (ap not c.if-not-layer_kind.false) _ c.next_place-place-in-loop-n.ensures

pub returns : goal.returns
returns c = let e : c.loop-n.n ≡ 16 = omega arith in ends _ _ _ _ c.loop-n.invariant _ (sym e) (whole _ _ _ _ c.loop-n.invariant e)
