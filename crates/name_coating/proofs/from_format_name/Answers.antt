-- `name_coating::from_format_name` meets its contract. Assumes nothing.
use mathlib.Core.Path.{◌≡◌, ap, ◌∙◌}
use mathlib.Core.List.{List}
use Prim.Native.Nat.{ℕ, ◌≤◌, ◌<◌}
use native.Mathlib.Omega.{arith}
use lib.ListN.{length}
use borrow.Author.Tests.{lt-ltb, le-ltb}
use Rattle.refusal.specs.Outcome.{answer, refusal}
use Rattle.name_bytes.specs.Trim.{trimmed}
use Rattle.name_coating.specs.Name.{upper, coating_of, from_format_name}
use Rattle.name_bytes.specs.Ascii.{first_over}
use Rattle.name_bytes.proofs.Spans.{trimmed_le}
use Rattle.name_coating.proofs.from_format_name.Goals as goal

bytes : {x y : (ℕ × ℕ) × List ℕ} → x ≡ y → x.1 ≡ y.1
bytes e = ap (λ (x : (ℕ × ℕ) × List ℕ). x.1) e

long : (s : List ℕ) → 32 < length s → refusal 2 32 ≡ from_format_name s
unfolding from_format_name
long s h = simp (lt-ltb 32 (length s) h)

module _ (s : List ℕ) (few : length s ≤ 32) where
  over : (k : ℕ) → k ≡ first_over s → k < length s → refusal 2 k ≡ from_format_name s
  unfolding from_format_name
  over k e h =
      let h' : first_over s < length s = rw e at h in
      simp (le-ltb 32 (length s) few, lt-ltb (first_over s) (length s) h', e)

  short : (t : List ℕ) → t ≡ trimmed s → length t ≤ 32
  short t e = simp e (omega (arith, trimmed_le s))

  named : (k : ℕ) → k ≡ first_over s → length s ≤ k → (t : List ℕ) → t ≡ trimmed s → answer (coating_of (upper t)) ≡ from_format_name s
  unfolding from_format_name
  named k e h t f =
      let h' : length s ≤ first_over s = rw e at h in
      simp (le-ltb 32 (length s) few, le-ltb (first_over s) (length s) h', f)

pub returns-then-name-gt32 : goal.returns-then-name-gt32
returns-then-name-gt32 c = long c.args.name.now (omega arith)

pub returns-then-over-name : goal.returns-then-over-name
returns-then-over-name c = over _ c.if-name-gt32.false _ c.first_over-over.ensures c.if-over-name.true

pub coating_in-requires : goal.coating_in-requires
coating_in-requires c = omega (arith, short _ c.if-name-gt32.false _ (bytes c.trimmed.ensures))

pub returns : goal.returns
returns c = ap answer c.coating_in.ensures ∙ named _ c.if-name-gt32.false _ c.first_over-over.ensures c.if-over-name.false _ (bytes c.trimmed.ensures)
