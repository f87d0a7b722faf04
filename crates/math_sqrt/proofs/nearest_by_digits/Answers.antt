-- `math_sqrt::nearest_by_digits` meets its contract. Assumes nothing.
use Rattle.std.proofs.Common.{ℕ, sym, ap, ◌∙◌, add-one}
use Rattle.math_root.specs.Root.{closest_root}
use Rattle.math_root.proofs.Closest.{closest_root_down, closest_root_up}
use Rattle.math_sqrt.proofs.nearest_by_digits.Goals as goal

pub returns-then-r : goal.returns-then-r
returns-then-r c =
    let r = c.root_by_digits-r in
    add-one r.result.root ∙ sym (closest_root_up r.result.root r.result.rest c.if-r.true r.ensures.small) ∙ ap (λ (n : ℕ). closest_root n 1) r.ensures.sum

pub returns-else-r : goal.returns-else-r
returns-else-r c =
    let r = c.root_by_digits-r in
    sym (closest_root_down r.result.root r.result.rest c.if-r.false) ∙ ap (λ (n : ℕ). closest_root n 1) r.ensures.sum
