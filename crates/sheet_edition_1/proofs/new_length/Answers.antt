-- `sheet_edition_1::new_length` meets its contract. The loop's invariant: so many words come of the blocks so far. Assumes nothing.
use mathlib.Core.Path.{◌≡◌}
use mathlib.Core.List.{List}
use Prim.Native.Nat.{ℕ, ◌+◌, ◌≤◌, ◌<◌}
use native.Mathlib.Omega.{arith}
use Rattle.sheet.specs.Words.{count}
use Rattle.sheet.specs.Internal.{next_place}
use Rattle.gate.proofs.Admitted.{gives}
use Rattle.sheet_edition_1.specs.Internal.{new_size}
use Rattle.sheet_edition_1.proofs.NewBlocks.{next_most, less_left, size_most}
use Rattle.sheet_edition_1.proofs.Walk.{half_first, one_on, counted_all}
use Rattle.sheet_edition_1.proofs.new_length.Invariants.{Before}
use Rattle.sheet_edition_1.proofs.new_length.Goals as goal

on : (src : List ℕ) (at n : ℕ) → Before src at n → at < count src → (m : ℕ) → m ≡ new_size src at → (q : ℕ) → q ≡ next_place src at → Before src q (n + m)
on src at n b lt m m_is q q-is = rw (m_is, q-is) record {
  fewer = omega (arith, b.fewer, size_most src at);
  near = omega (arith, (next_most src at).1);
  half = λ x g. (one_on src x at n lt (b.half x g)).next;
}

small : (src : List ℕ) (at m : ℕ) → m ≡ new_size src at → m ≤ 9
small src at m e = omega (arith, size_most src at, (next_most src at).1)

pub loop-at-init : goal.loop-at-init
loop-at-init c = record { fewer = omega arith; near = omega arith; half = λ x g. half_first _ x (gives _ c.type_inv.src x g).0 }

pub overflow_add-n : goal.overflow_add-n
overflow_add-n c = record { fits = omega (arith, small _ _ _ c.new_size-n.ensures, c.loop-at.invariant.fewer, c.loop-at-test.true) }

pub loop-at-smaller : goal.loop-at-smaller
loop-at-smaller c = less_left _ _ _ c.loop-at-test.true c.next_place-at.ensures

pub loop-at-preserved : goal.loop-at-preserved
loop-at-preserved c = on _ _ _ c.loop-at.invariant c.loop-at-test.true _ c.new_size-n.ensures _ c.next_place-at.ensures

pub overflow_mul-result : goal.overflow_mul-result
overflow_mul-result c = record { fits = omega (arith, c.loop-at.invariant.fewer, c.loop-at.invariant.near) }

pub returns : goal.returns
returns c = λ x g. counted_all _ x _ _ (c.loop-at.invariant.half x g) c.loop-at-test.false
