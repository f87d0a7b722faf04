-- `sheet::run_of` meets its contract. The loop's invariant: the blocks passed, with those from here on, are all of them. Assumes nothing.
use mathlib.Core.Path.{◌≡◌, sym, ap, ◌∙◌}
use mathlib.Core.Bool.{Bool, true, false, not}
use mathlib.Core.List.{List}
use Prim.Native.Nat.{ℕ, suc, ◌+◌, ◌-◌, ◌≤◌, ◌<◌}
use native.Mathlib.Nat.{add-zero}
use native.Mathlib.Omega.{arith}
use borrow.Author.Tests.{not-true, not-false}
use Rattle.sheet.specs.Words.{count}
use Rattle.sheet.specs.Internal.{stands_whole, run_of}
use Rattle.sheet.proofs.Whole.{whole}
use Rattle.sheet.proofs.run_of.Invariants.{Passed}
use Rattle.sheet.proofs.run_of.Goals as goal

room : (w size : ℕ) (src : List ℕ) (at : ℕ) (t : Bool) → t ≡ stands_whole w size src at → not t ≡ false → at + size ≤ count src
room w size src at t is e = (whole w size src at (sym is ∙ not-false t e)).0

module _ (w size : ℕ) (src : List ℕ) (at most n place : ℕ) (p : Passed w size src at most n place) where
  module _ (lt : n < most) (t : Bool) (is : t ≡ stands_whole w size src place) where
    one : most - n ≡ suc (most - (n + 1))
    one = omega arith

    more : not t ≡ false → Passed w size src at most (n + 1) (place + size)
    unfolding run_of
    more e = record {
      inside = (whole w size src place (sym is ∙ not-false t e)).0;
      run = up n (run_of w size (most - (n + 1)) src (place + size)) ∙ (rw (one, sym is ∙ not-false t e) at p.run);
    }
      where
        up : (n r : ℕ) → n + 1 + r ≡ n + suc r
        up n r = omega arith

    last : not t ≡ true → n ≡ run_of w size most src at
    unfolding run_of
    last e = sym (add-zero n) ∙ (rw (one, sym is ∙ not-true t e) at p.run)

  all : n ≡ most → most ≡ run_of w size most src at
  unfolding run_of
  all e = sym e ∙ sym (add-zero n) ∙ ap (λ (m : ℕ). n + run_of w size m src place) (sym gone) ∙ p.run
    where
      gone : most - n ≡ 0
      gone = omega arith

pub returns-then-not-stands_whole : goal.returns-then-not-stands_whole
returns-then-not-stands_whole c = last _ _ _ _ _ _ _ c.loop-n.invariant c.loop-n-test.true _ c.stands_whole.ensures (ap not c.if-not-stands_whole.true)

pub overflow_add-place : goal.overflow_add-place
overflow_add-place c = record { fits = omega (arith, room _ _ _ _ _ c.stands_whole.ensures (ap not c.if-not-stands_whole.false)) }

pub loop-n-preserved : goal.loop-n-preserved
loop-n-preserved c = more _ _ _ _ _ _ _ c.loop-n.invariant c.loop-n-test.true _ c.stands_whole.ensures (ap not c.if-not-stands_whole.false)

pub returns : goal.returns
returns c = all _ _ _ _ _ _ _ c.loop-n.invariant (omega arith)
