-- What is returned for a state that is lent, and how it is left. Assumes nothing.
use mathlib.Core.Path.{◌≡◌, sym, ap, ◌∙◌}
use mathlib.Core.Bool.{Bool, true, false, cond}
use mathlib.Core.List.{List}
use Prim.Native.Nat.{ℕ, ◌%◌, ◌^◌}
use native.Mathlib.Omega.{arith}
use lib.ListN.{drop}
use lib.Ieee.{Float}
use Rattle.refusal.specs.declared.Refusal.{Refusal}
use Rattle.refusal.specs.Outcome.{Outcome, answer, refusal, refused, bind, number_of, place_of}
use Rattle.sheet.specs.Sheet.{Sheet}
use Rattle.sheet.specs.Read.{surfaces_of}
use Rattle.sheet.specs.Internal.{next_place}
use Rattle.sheet.proofs.Stands.{Known}
use Rattle.sheet_values.specs.declared.Beam.{Beam}
use Rattle.sheet_values.specs.Internal.{beam_at}
use Rattle.sheet_values.proofs.Here.{beam_here}
use Rattle.gate.specs.Gate.{gated, gate}
use Rattle.gate.specs.Wavelength.{holds}
use Rattle.gate.proofs.Admitted.{admitted}
use Rattle.train_steps.specs.declared.State.{State}
use Rattle.train_steps.specs.Train.{fresh, with_wavelength, retuned, retune}
use Rattle.c_call.specs.Call.{packed, Apart}
use Rattle.c_call.proofs.Returned.{whole_place}
use Rattle.dihkelu.specs.Train.{called, state, went, started, moved}

module _ {A : Type 0} (number : A → ℕ) (next : A → State) (o : Outcome A) (lent : State) where
  pub refuses : (r : Refusal) (n : ℕ) → refused r ≡ o → Apart o → n ≡ packed (number_of r) (place_of r % 2 ^ 32) → called n lent ≡ went number next o lent
  refuses r n e h is = ap (λ (k : ℕ). called k lent) (is ∙ whole_place r o e h) ∙ ap (λ (z : Outcome A). went number next z lent) e

  pub answers : (a : A) → answer a ≡ o → called (number a) (next a) ≡ went number next o lent
  answers a e = ap (λ (z : Outcome A). went number next z lent) e

-- ---- a fresh train
pub begins : (src : List ℕ) (n : ℕ) (b : Beam) (lent : State) → Known src → answer n ≡ gate src → b ≡ beam_at src (next_place src 0) → called n (state 0 b.s b.p b.wavelength_nm) ≡ started (gated src) lent
begins src n b lent known e f =
    let a = admitted src n known e in
    ap (λ (k : ℕ). called k (state 0 b.s b.p b.wavelength_nm)) (sym a.counts)
    ∙ ap (λ (m : Beam). called (surfaces_of a.sheet) (state 0 m.s m.p m.wavelength_nm)) (f ∙ beam_here src a.sheet a.stands)
    ∙ ap (λ (o : Outcome Sheet). started o lent) (sym a.is)

-- ---- a retune changes the wavelength alone
retuned_is : (src : List ℕ) (st : State) (w : Float) (next : State) → answer next ≡ retune src st w → next ≡ with_wavelength w st
unfolding retune
retuned_is src st w next e = go (gated src) e
  where
    never : {A : Type 0} (number place : ℕ) → answer next ≡ refusal number place → A
    never number place e = let z : ◌≡◌ {A = ℕ} 0 1 = cc in absurd (omega arith)

    at : (b : Bool) → answer next ≡ cond b (answer (with_wavelength w st)) (refusal 11 0) → next ≡ with_wavelength w st
    at true e = cc
    at false e = never 11 0 e

    go : (o : Outcome Sheet) → answer next ≡ bind o (retuned w st) → next ≡ with_wavelength w st
    go (answer x) e = at (holds w (drop st.done x.surfaces)) e
    go (refusal number place) e = never number place e

pub retunes : (src : List ℕ) (st : State) (w : Float) (next : State) → answer next ≡ retune src st w → called next.done (state st.done st.s st.p next.wavelength_nm) ≡ moved (retune src st w) st
retunes src st w next e =
    let same = retuned_is src st w next e in
    ap (λ (z : State). called next.done (state st.done st.s st.p z.wavelength_nm)) same ∙ ap (λ (z : State). called next.done z) (sym same) ∙ answers (λ (z : State). z.done) (λ (z : State). z) (retune src st w) st next e
