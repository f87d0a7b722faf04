-- `name_bytes::trim_span` meets its contract. Assumes nothing.
use mathlib.Core.Path.{◌≡◌, ap, ◌∙◌}
use mathlib.Core.List.{List}
use Prim.Native.Nat.{ℕ, ◌-◌, ◌<◌}
use native.Mathlib.Nat.{le_of_eq}
use lib.ListN.{length, take, drop, length-drop}
use lib.Seq.{take_all}
use Rattle.name_bytes.specs.declared.Span.{Span}
use Rattle.name_bytes.specs.Trim.{blank, prefix, kept, span}
use Rattle.name_bytes.proofs.Spans.{inside, outside}
use Rattle.name_bytes.proofs.trim_span.Goals as goal

within : (s : List ℕ) (a len : ℕ) → a ≡ prefix blank s → a < length s → len ≡ kept (take (length s - a) (drop a s)) → ◌≡◌ {A = Span} (record { place = a; len = len }) (span s)
within s a len e h k =
    let h' : prefix blank s < length s = rw e at h in
    let k' : len ≡ kept (drop a s) = k ∙ ap kept (take_all (length s - a) (drop a s) (le_of_eq (length-drop a s))) in
    simp (k', e) (inside s h')

pub returns-then-a-name : goal.returns-then-a-name
returns-then-a-name c =
    within _ _ _ c.leading-a.ensures c.if-a-name.true c.kept-len.ensures

pub returns-else-a-name : goal.returns-else-a-name
returns-else-a-name c = outside _ (rw c.leading-a.ensures at c.if-a-name.false)
