-- `gate::gate_index` meets its contract. Assumes nothing.
use mathlib.Core.Path.{◌≡◌, refl, sym, ap, ◌∙◌}
use mathlib.Core.Bool.{true, false}
use mathlib.Core.List.{List}
use Prim.Native.Nat.{ℕ, ◌≤◌}
use lib.ListN.{replicate}
use lib.Ieee.{Float, of_bits}
use native.Mathlib.Omega.{arith}
use borrow.Author.Rules.{rules}
use borrow.Author.Tests.{not-true, not-false}
use Rattle.std.proofs.lemmas.Result.{err_from_is_err_and}
use Rattle.refusal.specs.declared.Refusal.{Refusal}
use Rattle.refusal.specs.Outcome.{Outcome, answer, refusal, refused, map, outcome}
use Rattle.ieee.specs.Functions.{one}
use Rattle.ieee.proofs.Signs.{of_true}
use Rattle.sheet.specs.Claim.{length_fits}
use Rattle.sheet.specs.Blocks as Read
use Rattle.sheet.specs.Blocks.{read, fault}
use Rattle.sheet.specs.Read.{decode, graded, surfaces_of, grammar}
use Rattle.sheet.specs.Sheet.{Sheet}
use Rattle.sheet.specs.Internal.{begin}
use Rattle.sheet_index.specs.Index.{filled, at_most_64, layers_of, sine_of, cosine_of}
use Rattle.sheet_index.proofs.Filled.{filled_none, filled_all, indexed}
use Rattle.gate.specs.Index.{rows, index}
use Rattle.gate.proofs.Surfaces.{few}
use Rattle.gate.specs.Gate.{within_limits, gated, gate}
use Rattle.gate.proofs.gate_index.Goals as goal

wrong_length : (src : List ℕ) → length_fits src ≡ false → refusal 4 0 ≡ gate src
unfolding gate gated
wrong_length src e = simp e

right_length : (src : List ℕ) → length_fits src ≡ true → map surfaces_of (within_limits (graded (decode src))) ≡ gate src
unfolding gate gated
right_length src e = simp e

fault_of : (src : List ℕ) (r : Refusal) → length_fits src ≡ true → refused r ≡ grammar src → refused r ≡ gate src
unfolding grammar
fault_of src r e f = go (decode src) f ∙ right_length src e
  where
    go : (q : Read.Result Sheet) → refused r ≡ map surfaces_of (graded q) → refused r ≡ map surfaces_of (within_limits (graded q))
    go (read x) f = cc
    go (fault q) f = f

-- the index, of as many SURFACEs as the sheet has
module _ (src : List ℕ) (o : Outcome ℕ) (g : o ≡ gate src) (n : ℕ) (r : rows src ≡ n) where
  made : (b c : List ℕ) (s t : List Float) → b ≡ filled (begin src) n (replicate 64 1) → c ≡ filled (layers_of src) n (replicate 64 1) → s ≡ filled (sine_of src) n (replicate 64 one) → t ≡ filled (cosine_of src) n (replicate 64 one)
      → record { result = o; begins = b; counts = c; sines = s; cosines = t } ≡ index src
  unfolding index
  made b c s t eb ec es et = rw r (λ k. record { result = g k; begins = eb k; counts = ec k; sines = es k; cosines = et k })

no_rows : (src : List ℕ) → length_fits src ≡ false → rows src ≡ 0
no_rows src e = rw e refl

no_rows_5 : (src : List ℕ) (r : Refusal) → length_fits src ≡ true → refused r ≡ grammar src → rows src ≡ 0
no_rows_5 src r e f = rw (e, ← f) refl

all_rows : (src : List ℕ) (n : ℕ) → length_fits src ≡ true → grammar src ≡ answer n → rows src ≡ n
all_rows src n e f = rw (e, f) refl

short : (src : List ℕ) → length_fits src ≡ false → record { result = refusal 4 0; begins = replicate 64 1; counts = replicate 64 1; sines = replicate 64 one; cosines = replicate 64 one } ≡ index src
short src l = made src (refusal 4 0) (wrong_length src l) 0 (no_rows src l) (replicate 64 1) (replicate 64 1) (replicate 64 one) (replicate 64 one) (filled_none _ _) (filled_none _ _) (filled_none _ _) (filled_none _ _)

of_64 : {A : Type 0} (f : ℕ → A) (l l₀ : List A) (n : ℕ) → n ≤ 64 → l ≡ filled f (at_most_64 n) l₀ → l ≡ filled f n l₀
of_64 f l l₀ n le e = filled_all f l l₀ (at_most_64 n) n (omega (arith, le)) e

pub returns-then-not-length_fits : goal.returns-then-not-length_fits
returns-then-not-length_fits c =
    let l = sym c.length_fits.ensures ∙ c.if-not-length_fits.true in
    short _ l

pub returns-in_err-count : goal.returns-in_err-count
returns-in_err-count c =
    let l = sym c.length_fits.ensures ∙ c.if-not-length_fits.false in
    let p = err_from_is_err_and c.from_residual.result c.from_residual.ensures.1 in
    rw (p.1, p.2) (made _ _ (fault_of _ _ l c.in_err-count.ensures) _ (no_rows_5 _ _ l c.in_err-count.ensures) _ _ _ _ (filled_none _ _) (filled_none _ _) (filled_none _ _) (filled_none _ _))

pub limits-requires : goal.limits-requires
limits-requires c =
    let l = sym c.length_fits.ensures ∙ c.if-not-length_fits.false in
    let g = sym c.in_ok-count.ensures in
    let le = few _ _ c.type_inv.src (of_true _ l) g in
    let e = c.index.ensures in
    ((of_true _ l, g), indexed _ _ le _ _ _ _ refl refl refl refl _ _ _ _ (of_64 _ _ _ _ le e.0.0) (of_64 _ _ _ _ le e.0.1) (of_64 _ _ _ _ le e.1.0) (of_64 _ _ _ _ le e.1.1))

pub returns : goal.returns
returns c =
    let l = sym c.length_fits.ensures ∙ c.if-not-length_fits.false in
    let g = sym c.in_ok-count.ensures in
    let le = few _ _ c.type_inv.src (of_true _ l) g in
    let e = c.index.ensures in
    made _ _ (c.limits.ensures ∙ right_length _ l) _ (all_rows _ _ l g) _ _ _ _ (of_64 _ _ _ _ le e.0.0) (of_64 _ _ _ _ le e.0.1) (of_64 _ _ _ _ le e.1.0) (of_64 _ _ _ _ le e.1.1)
