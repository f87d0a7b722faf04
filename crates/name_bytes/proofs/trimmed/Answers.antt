-- `name_bytes::trimmed` meets its contract. Assumes nothing.
use mathlib.Core.Path.{◌≡◌, ap, ◌∙◌}
use mathlib.Core.List.{List}
use Prim.Native.Nat.{ℕ, ◌+◌, ◌-◌, ◌≤◌}
use native.Mathlib.Nat.{add-sub_cancel_left}
use native.Mathlib.Omega.{arith}
use lib.ListN.{length, take, drop}
use Rattle.name_bytes.specs.declared.Span.{Span}
use Rattle.name_bytes.specs.Trim.{trimmed, span, part}
use Rattle.name_bytes.proofs.Spans.{part_is, part_fits}
use Rattle.name_bytes.proofs.trimmed.Goals as goal

fits : (s : List ℕ) (p : Span) → p ≡ span s → p.place + p.len ≤ length s
fits s p e = simp e (part_fits s)

same_part : (s : List ℕ) (p : Span) → p ≡ span s → take (p.place + p.len - p.place) (drop p.place s) ≡ trimmed s
same_part s p e = ap (λ (n : ℕ). take n (drop p.place s)) (add-sub_cancel_left p.place p.len) ∙ simp e (part_is s)

whole : (at : ℕ × ℕ) (s : List ℕ) (p : Span) → p ≡ span s → ((at.0, p.place + at.1), take (p.place + p.len - p.place) (drop p.place s)) ≡ part at s
whole at s p e = ap (λ (l : List ℕ). ((at.0, p.place + at.1), l)) (same_part s p e) ∙ ap (λ (q : Span). ((at.0, q.place + at.1), trimmed s)) e

pub overflow_add-e : goal.overflow_add-e
overflow_add-e c = omega (arith, fits c.args.name.now _ c.trim_span-s.ensures)

pub slice_bounds-result-end : goal.slice_bounds-result-end
slice_bounds-result-end c = fits _ _ c.trim_span-s.ensures

pub returns : goal.returns
returns c = whole _ _ _ c.trim_span-s.ensures
