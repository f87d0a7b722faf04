-- `sheet_untuned::without_tuning` meets its contract. Assumes nothing.
use mathlib.Core.Path.{◌≡◌, sym, ap, ◌∙◌}
use mathlib.Core.List.{List}
use Prim.Native.Nat.{ℕ, ◌-◌, ◌≤◌, ◌<◌}
use borrow.Author.Rules.{rules}
use Rattle.std.proofs.lemmas.Result.{err_from_is_err_and}
use Rattle.refusal.specs.declared.Refusal.{Refusal}
use Rattle.refusal.specs.Outcome.{Outcome, answer, refusal, refused, map, bind, number_of, place_of}
use Rattle.sheet.specs.Words.{count}
use Rattle.sheet.specs.Sheet.{Sheet, blocks, places}
use Rattle.sheet.specs.Read.{surfaces_of}
use Rattle.sheet.proofs.Stands.{Known}
use Rattle.gate.specs.Gate.{gated, gate}
use Rattle.gate.proofs.Admitted.{admitted, turned_back}
use Rattle.sheet_untuned.specs.Untuned.{no_tuning, without_tuning}
use Rattle.sheet_untuned.specs.Internal.{Looked}
use Rattle.sheet_untuned.proofs.without_tuning.Goals as goal

module _ (src : List ℕ) where
  module _ (n : ℕ) (known : Known src) (e : answer n ≡ gate src) (place : ℕ) (looked : (x : Sheet) → gated src ≡ answer x → Looked src x place) where
    tuned : place < count src → refusal 12 place ≡ map surfaces_of (without_tuning src)
    unfolding without_tuning
    tuned lt = let a = admitted src n known e in rw (a.is, (looked a.sheet a.is).found lt)

    taken : count src ≤ place → answer n ≡ map surfaces_of (without_tuning src)
    unfolding without_tuning
    taken le = let a = admitted src n known e in rw (a.is, (looked a.sheet a.is).none le) (ap answer (sym a.counts))

  not_taken : (r : Refusal) → refused r ≡ gate src → refused r ≡ map surfaces_of (without_tuning src)
  unfolding without_tuning
  not_taken r e = sym (ap (λ (o : Outcome Sheet). map surfaces_of (bind o (λ (x : Sheet). no_tuning x (places x) (blocks x)))) (turned_back src (number_of r) (place_of r) e))

pub returns-then-place-src : goal.returns-then-place-src
returns-then-place-src c = tuned _ _ c.type_inv.src c.in_ok-count.ensures _ c.first_tuning-place.ensures c.if-place-src.true

pub returns : goal.returns
returns c = taken _ _ c.type_inv.src c.in_ok-count.ensures _ c.first_tuning-place.ensures c.if-place-src.false

pub returns-in_err-count : goal.returns-in_err-count
returns-in_err-count c =
    let p = err_from_is_err_and c.from_residual.result c.from_residual.ensures.1 in
    rw (p.1, p.2) (not_taken _ _ c.in_err-count.ensures)
