-- `train_steps::start` meets its contract. Assumes nothing.
use mathlib.Core.Path.{◌≡◌, sym, ap, ◌∙◌}
use Prim.Native.Nat.{ℕ, ◌-◌}
use borrow.Author.Rules.{rules}
use mathlib.Core.List.{List}
use lib.Ieee.{Float}
use Rattle.std.proofs.lemmas.Result.{err_from_is_err_and}
use Rattle.refusal.specs.declared.Refusal.{Refusal}
use Rattle.refusal.specs.Outcome.{answer, refused, map, number_of, place_of}
use Rattle.sheet.specs.Internal.{next_place}
use Rattle.sheet.proofs.Stands.{Known}
use Rattle.sheet_values.specs.declared.Beam.{Beam}
use Rattle.sheet_values.specs.Internal.{beam_at}
use Rattle.gate.specs.Gate.{gate}
use Rattle.gate.proofs.Admitted.{admitted, turned_back}
use Rattle.train_steps.specs.declared.State.{State}
use Rattle.train_steps.specs.Train.{fresh, start}
use Rattle.train_steps.proofs.Here.{beam_is}
use Rattle.train_steps.proofs.start.Goals as goal

abbrev begin : Beam → State
begin b = record { done = 0; s = b.s; p = b.p; wavelength_nm = b.wavelength_nm }

begun : (src : List ℕ) (n : ℕ) → Known src → answer n ≡ gate src → (b : Beam) → b ≡ beam_at src (next_place src 0) → answer (begin b) ≡ start src
unfolding start
begun src n known e b f =
    let a = admitted src n known e in
    ap answer (ap begin (beam_is src a.sheet a.stands a.within b f)) ∙ sym (ap (map fresh) a.is)

not_begun : (src : List ℕ) (r : Refusal) → refused r ≡ gate src → refused r ≡ start src
unfolding start
not_begun src r e = sym (ap (map fresh) (turned_back src (number_of r) (place_of r) e))

pub returns : goal.returns
returns c = begun _ _ c.type_inv.src c.in_ok-gate.ensures _ c.beam_of-beam.ensures

pub returns-in_err-gate : goal.returns-in_err-gate
returns-in_err-gate c =
    let p = err_from_is_err_and c.from_residual.result c.from_residual.ensures.1 in
    rw (p.1, p.2) (not_begun _ _ c.in_err-gate.ensures)
