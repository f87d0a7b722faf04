-- `sheet_edition_1::to_edition_1` meets its contract. Assumes nothing.
use mathlib.Core.Path.{◌≡◌, sym, ap, ◌∙◌}
use mathlib.Core.List.{List, ◌++◌}
use Prim.Native.Nat.{ℕ, ◌≤◌, ◌<◌}
use native.Mathlib.Omega.{arith}
use lib.ListN.{length, drop}
use borrow.Author.Tests.{le-leb, lt-leb}
use Rattle.std.proofs.lemmas.Result.{err_from_is_err_and}
use Rattle.refusal.specs.declared.Refusal.{Refusal}
use Rattle.refusal.specs.Outcome.{Outcome, answer, refusal, refused, map, number_of, place_of}
use Rattle.sheet.specs.Sheet.{Sheet, encode}
use Rattle.sheet.specs.Read.{surfaces_of}
use Rattle.gate.specs.Gate.{gated}
use Rattle.sheet_untuned.specs.Untuned.{without_tuning}
use Rattle.sheet_untuned.proofs.Admitted.{Taken, taken, not_taken}
use Rattle.sheet_edition_1.specs.Edition.{translated, edition_1, laid, written, to_edition_1}
use Rattle.sheet_edition_1.specs.Internal.{Room}
use Rattle.sheet_edition_1.proofs.to_edition_1.Goals as goal

module _ (src output : List ℕ) where
  -- what comes of an admitted sheet without kind 7
  module _ (n : ℕ) (e : answer n ≡ map surfaces_of (without_tuning src)) where
    abbrev a : Taken src n
    a = taken src n e

    abbrev new : List ℕ
    new = encode (translated a.sheet)

    untuned : to_edition_1 src output ≡ laid new output
    unfolding to_edition_1 edition_1
    untuned = ap (λ (o : Outcome Sheet). written (map translated o) output) a.is

    module _ (m : ℕ) (long : (x : Sheet) → gated src ≡ answer x → m ≡ length (encode (translated x))) where
      too_short : length output < m → record { result = refusal 8 0; output = output } ≡ to_edition_1 src output
      too_short lt = sym (untuned ∙ rw (lt-leb (length new) (length output) (omega (arith, long a.sheet a.gated_is))))

      room : m ≤ length output → Room src output
      room h = record { sheet = a.sheet; is = a.gated_is; room = omega (arith, long a.sheet a.gated_is) }

      whole : m ≤ length output → (out : List ℕ) → ((x : Sheet) → gated src ≡ answer x → out ≡ encode (translated x) ++ drop (length (encode (translated x))) output) → record { result = answer m; output = out } ≡ to_edition_1 src output
      whole h out f =
          (λ i. record { result = answer (long a.sheet a.gated_is i); output = f a.sheet a.gated_is i })
          ∙ sym (untuned ∙ rw (le-leb (length new) (length output) (omega (arith, long a.sheet a.gated_is))))

  not_written : (r : Refusal) → refused r ≡ map surfaces_of (without_tuning src) → record { result = refused r; output = output } ≡ to_edition_1 src output
  unfolding to_edition_1 edition_1
  not_written r e = sym (ap (λ (o : Outcome Sheet). written (map translated o) output) (not_taken src (number_of r) (place_of r) e))

pub returns-then-output-length : goal.returns-then-output-length
returns-then-output-length c = too_short _ _ _ c.in_ok-without_tuning.ensures _ c.new_length-length.ensures c.if-output-length.true

pub write-requires : goal.write-requires
write-requires c = room _ _ _ c.in_ok-without_tuning.ensures _ c.new_length-length.ensures c.if-output-length.false

pub returns : goal.returns
returns c = whole _ _ _ c.in_ok-without_tuning.ensures _ c.new_length-length.ensures c.if-output-length.false _ c.write.ensures

pub returns-in_err-without_tuning : goal.returns-in_err-without_tuning
returns-in_err-without_tuning c =
    let p = err_from_is_err_and c.from_residual.result c.from_residual.ensures.1 in
    rw (p.1, p.2) (not_written _ _ _ c.in_err-without_tuning.ensures)
