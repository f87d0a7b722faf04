-- `quarter_waves::divided` meets its contract. The measure is how often q goes into p: 2q goes less often. Assumes nothing.
use mathlib.Core.Path.{subst}
use Prim.Native.Nat.{ℕ, ◌/◌, ◌<◌}
use native.Mathlib.Omega.{arith}
use Rattle.ieee.specs.Operators.{◌⊕◌}
use Rattle.ieee.specs.Count.{count}
use Rattle.ieee.proofs.Signs.{of_true}
use Rattle.quarter_waves.proofs.Steps as steps
use Rattle.quarter_waves.proofs.+divided.Goals as goal

pub returns-then-p-q : goal.returns-then-p-q
returns-then-p-q t c = steps.none _ _ (of_true _ c.well_formed.0.1) (of_true _ c.well_formed.1.0.1) c.requires c.if-p-q.true

pub divided-pairs-requires : goal.divided-pairs-requires
divided-pairs-requires t c =
    let p = c.args.p in
    let q = c.args.q in
    let h = of_true _ c.well_formed.0.1 in
    let k = of_true _ c.well_formed.1.0.1 in
    (subst (λ (n : ℕ). count p / count (q ⊕ q) < n) c.decreases (steps.falls p q h k c.requires c.if-p-q.false), steps.again p q h k c.requires c.if-p-q.false)

-- where 2q has been divided by
pub overflow_mul-result : goal.overflow_mul-result
overflow_mul-result t c = omega (arith, (steps.few c.args.p c.args.q (of_true _ c.well_formed.0.1) (of_true _ c.well_formed.1.0.1) c.requires c.if-p-q.false c.divided-pairs.result c.divided-pairs.ensures))

pub overflow_mul-result-else-over-q : goal.overflow_mul-result-else-over-q
overflow_mul-result-else-over-q t c = omega (arith, (steps.few c.args.p c.args.q (of_true _ c.well_formed.0.1) (of_true _ c.well_formed.1.0.1) c.requires c.if-p-q.false c.divided-pairs.result c.divided-pairs.ensures))

pub overflow_add-result : goal.overflow_add-result
overflow_add-result t c = omega (arith, (steps.few c.args.p c.args.q (of_true _ c.well_formed.0.1) (of_true _ c.well_formed.1.0.1) c.requires c.if-p-q.false c.divided-pairs.result c.divided-pairs.ensures))

pub returns-then-over-q : goal.returns-then-over-q
returns-then-over-q t c = steps.even c.args.p c.args.q (of_true _ c.well_formed.0.1) (of_true _ c.well_formed.1.0.1) c.requires c.if-p-q.false c.divided-pairs.result c.divided-pairs.ensures c.if-over-q.true

pub returns-else-over-q : goal.returns-else-over-q
returns-else-over-q t c = steps.odd c.args.p c.args.q (of_true _ c.well_formed.0.1) (of_true _ c.well_formed.1.0.1) c.requires c.if-p-q.false c.divided-pairs.result c.divided-pairs.ensures c.if-over-q.false
