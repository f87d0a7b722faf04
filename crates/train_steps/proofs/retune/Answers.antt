-- `train_steps::retune` meets its contract. Assumes nothing.
use mathlib.Core.Path.{◌≡◌, refl, sym, ap, ◌∙◌}
use mathlib.Core.Bool.{Bool, true, false, not}
use mathlib.Core.List.{List}
use Prim.Native.Nat.{ℕ}
use borrow.Author.Tests.{not-true, not-false}
use lib.Ieee.{Float}
use Rattle.std.proofs.lemmas.Result.{err_from_is_err_and}
use Rattle.refusal.specs.declared.Refusal.{Refusal}
use Rattle.refusal.specs.Outcome.{Outcome, answer, refusal, refused, bind, number_of, place_of}
use Rattle.sheet.specs.Sheet.{Sheet}
use Rattle.sheet.proofs.Stands.{Known}
use Rattle.gate.specs.Gate.{gate}
use Rattle.gate.specs.Internal.{holds_at}
use Rattle.gate.proofs.Admitted.{admitted, turned_back}
use Rattle.train_steps.specs.declared.State.{State}
use Rattle.train_steps.specs.Train.{with_wavelength, retuned, retune}
use Rattle.train_steps.proofs.Takes.{tested}
use Rattle.train_steps.proofs.retune.Goals as goal

module _ (src : List ℕ) (st : State) (w : Float) where
  module _ (n : ℕ) (known : Known src) (e : answer n ≡ gate src) (t : Bool) (t_is : t ≡ holds_at src st.done n w) where
    bad_wavelength : not t ≡ true → refusal 11 0 ≡ retune src st w
    unfolding retune
    bad_wavelength f = let a = admitted src n known e in rw (a.is, sym (tested src n a st.done w t t_is) ∙ not-true t f) refl

    tuned : not t ≡ false → answer (with_wavelength w st) ≡ retune src st w
    unfolding retune
    tuned f = let a = admitted src n known e in rw (a.is, sym (tested src n a st.done w t t_is) ∙ not-false t f) refl

  not_taken : (r : Refusal) → refused r ≡ gate src → refused r ≡ retune src st w
  unfolding retune
  not_taken r e = sym (ap (λ (o : Outcome Sheet). bind o (retuned w st)) (turned_back src (number_of r) (place_of r) e))

pub returns-then-not-holds : goal.returns-then-not-holds
returns-then-not-holds c = bad_wavelength _ _ _ _ c.type_inv.src c.in_ok-count.ensures _ c.holds.ensures (ap not c.if-not-holds.true)

pub returns : goal.returns
returns c = tuned _ _ _ _ c.type_inv.src c.in_ok-count.ensures _ c.holds.ensures (ap not c.if-not-holds.false)

pub returns-in_err-count : goal.returns-in_err-count
returns-in_err-count c =
    let p = err_from_is_err_and c.from_residual.result c.from_residual.ensures.1 in
    rw (p.1, p.2) (not_taken _ _ _ _ c.in_err-count.ensures)
