-- The gate's claim. Assumes nothing.
use mathlib.Core.Path.{◌≡◌, refl, sym, ap, ◌∙◌, subst}
use mathlib.Core.Bool.{Bool, true, false, cond}
use mathlib.Core.Logic.{◌⊎◌, inl, inr}
use mathlib.Core.List.{List}
use Prim.Native.Nat.{ℕ}
use native.Mathlib.Omega.{arith}
use lib.Dec.{T}
use lib.ListN.{length}
use lib.Ieee.Bits.{is_true}
use Rattle.ieee.proofs.Signs.{of_true}
use Rattle.refusal.specs.Outcome.{Outcome, answer, refusal}
use Rattle.sheet.specs.Blocks.{Result, read, fault}
use Rattle.sheet.specs.Sheet.{Sheet, WellFormed, encode, places}
use Rattle.sheet.specs.Read.{decode, graded}
use Rattle.sheet.specs.Claim.{Bytes, length_fits, Fault}
use Rattle.sheet.proofs.Claim.{grammar_claim}
use Rattle.gate.specs.Gate.{verdicts, within_limits, gated}
use Rattle.gate.specs.Claim.{WithinLimits, FirstOutside, GateClaim}
use Rattle.gate.proofs.Verdicts.{Passed, each, as_before, within_passed, passed_within, Judged, all_pass, one_fails, judging, passed_judged, first_judged}

many : (x : Sheet) → length (verdicts x) ≡ length (places x)
many x = each x ∙ sym (grammar_claim.placed x).0

pub data Case (src : List ℕ) : Outcome Sheet → Type 0 where
  short : length_fits src ≡ false → Case src (refusal 4 0)
  broken : T (length_fits src) → (place : ℕ) → decode src ≡ fault place → Case src (refusal 5 place)
  outside : T (length_fits src) → (x : Sheet) → decode src ≡ read x → (place : ℕ) → FirstOutside x place → Case src (refusal 6 place)
  inside : T (length_fits src) → (x : Sheet) → decode src ≡ read x → Passed (verdicts x) → Case src (answer x)

pub cases : (src : List ℕ) → Case src (gated src)
unfolding gated
cases src = go (length_fits src) refl
  where
    sheet : T (length_fits src) → (x : Sheet) → decode src ≡ read x → {o : Outcome Sheet} → Judged x (places x) (verdicts x) o → Case src o
    sheet t x e (all_pass h) = inside t x e h
    sheet t x e (one_fails i f) = outside t x e _ record { block = i; inside = omega (arith, f.inside, each x); outside = f.outside; first = f.first; stands = refl }

    fits : T (length_fits src) → (q : Result Sheet) → decode src ≡ q → Case src (within_limits (graded q))
    fits t (read x) e = sheet t x e (judging x (places x) (verdicts x) (many x))
    fits t (fault place) e = broken t place e

    go : (b : Bool) → length_fits src ≡ b → Case src (cond b (within_limits (graded (decode src))) (refusal 4 0))
    go true e = fits (of_true _ e) (decode src) refl
    go false e = short e

by_grammar : (src : List ℕ) → T (length_fits src) → (q : Result Sheet) → decode src ≡ q → gated src ≡ within_limits (graded q)
unfolding gated
by_grammar src t q e = simp (is_true (length_fits src) t) (ap (λ (r : Result Sheet). within_limits (graded r)) e)

abbrev number : Outcome Sheet → ℕ
number (answer x) = 0
number (refusal n place) = n

abbrev at : Outcome Sheet → ℕ
at (answer x) = 0
at (refusal n place) = place

module _ (src : List ℕ) where
  is_four : {o : Outcome Sheet} → Case src o → (place : ℕ) → o ≡ refusal 4 place → (length_fits src ≡ false) × (place ≡ 0)
  is_four (short f) place e = (f, sym (ap at e))
  is_four (broken t q d) place e = absurd (omega (arith, ap number e))
  is_four (outside t x d q f) place e = absurd (omega (arith, ap number e))
  is_four (inside t x d h) place e = absurd (omega (arith, ap number e))

  is_five : {o : Outcome Sheet} → Case src o → (place : ℕ) → o ≡ refusal 5 place → T (length_fits src) × (decode src ≡ fault place)
  is_five (short f) place e = absurd (omega (arith, ap number e))
  is_five (broken t q d) place e = (t, d ∙ ap fault (ap at e))
  is_five (outside t x d q f) place e = absurd (omega (arith, ap number e))
  is_five (inside t x d h) place e = absurd (omega (arith, ap number e))

  is_six : {o : Outcome Sheet} → Case src o → (place : ℕ) → o ≡ refusal 6 place → T (length_fits src) × ((x : Sheet) × ((decode src ≡ read x) × FirstOutside x place))
  is_six (short f) place e = absurd (omega (arith, ap number e))
  is_six (broken t q d) place e = absurd (omega (arith, ap number e))
  is_six (outside t x d q f) place e = (t, (x, (d, subst (FirstOutside x) (ap at e) f)))
  is_six (inside t x d h) place e = absurd (omega (arith, ap number e))

  pub is_admitted : {o : Outcome Sheet} → Case src o → (x : Sheet) → o ≡ answer x → T (length_fits src) × ((decode src ≡ read x) × Passed (verdicts x))
  is_admitted (short f) x e = absurd (omega (arith, ap number e))
  is_admitted (broken t q d) x e = absurd (omega (arith, ap number e))
  is_admitted (outside t y d q f) x e = absurd (omega (arith, ap number e))
  is_admitted (inside t y d h) x e = let p : y ≡ x = cc in (t, (d ∙ ap read p, subst (λ (z : Sheet). Passed (verdicts z)) p h))

  is_number : {o : Outcome Sheet} → Case src o → (n place : ℕ) → o ≡ refusal n place → (n ≡ 4) ⊎ ((n ≡ 5) ⊎ (n ≡ 6))
  is_number (short f) n place e = inl (sym (ap number e))
  is_number (broken t q d) n place e = inr (inl (sym (ap number e)))
  is_number (outside t x d q f) n place e = inr (inr (sym (ap number e)))
  is_number (inside t x d h) n place e = absurd (never e)
    where
      never : answer x ≡ refusal n place → ⊥
      never e = let z : ◌≡◌ {A = ℕ} 0 1 = cc in omega arith

module _ (src : List ℕ) (bs : Bytes src) where
  fits : (x : Sheet) → WellFormed x → encode x ≡ src → T (length_fits src)
  fits x h e = subst (λ (l : List ℕ). T (length_fits l)) e (grammar_claim.fits x h).0

  admitted : (x : Sheet) → gated src ≡ answer x → (WellFormed x × WithinLimits x) × (encode x ≡ src)
  admitted x e =
      let a = is_admitted src (cases src) x e in
      let g = (grammar_claim.reads src bs a.0 x).0 a.1.0 in
      ((g.0, passed_within x g.0 a.1.1), g.1)

  admits : (x : Sheet) → (WellFormed x × WithinLimits x) × (encode x ≡ src) → gated src ≡ answer x
  admits x h =
      let t = fits x h.0.0 h.1 in
      by_grammar src t (read x) ((grammar_claim.reads src bs t x).1 (h.0.0, h.1)) ∙ passed_judged x (places x) (verdicts x) (within_passed x h.0.0 h.0.1)

  turned_back : (place : ℕ) → (length_fits src ≡ false) × (place ≡ 0) → gated src ≡ refusal 4 place
  unfolding gated
  turned_back place h = simp (h.0, h.1)

  out_of_grammar : (place : ℕ) → gated src ≡ refusal 5 place → T (length_fits src) × (((x : Sheet) → WellFormed x → encode x ≡ src → ⊥) × Fault src place)
  out_of_grammar place e =
      let f = is_five src (cases src) place e in
      (f.0, (grammar_claim.faults src bs f.0 place).0 f.1)

  out_of_limits : (place : ℕ) → gated src ≡ refusal 6 place → (x : Sheet) × ((WellFormed x × (encode x ≡ src)) × FirstOutside x place)
  out_of_limits place e =
      let f = is_six src (cases src) place e in
      (f.1.0, ((grammar_claim.reads src bs f.0 f.1.0).0 f.1.1.0, f.1.1.1))

  limits_out : (place : ℕ) → (x : Sheet) → (WellFormed x × (encode x ≡ src)) → FirstOutside x place → gated src ≡ refusal 6 place
  limits_out place x h f =
      let t = fits x h.0 h.1 in
      by_grammar src t (read x) ((grammar_claim.reads src bs t x).1 h) ∙ first_judged x (places x) (verdicts x) (many x) f.block record { inside = omega (arith, f.inside, each x); outside = f.outside; first = f.first } ∙ ap (refusal 6) (sym f.stands)

pub gate_claim : GateClaim
gate_claim = record {
  admits = λ src bs x. (admitted src bs x, admits src bs x);
  four = λ src bs place. (is_four src (cases src) place, turned_back src bs place);
  five = λ src bs place. (out_of_grammar src bs place, λ h. by_grammar src h.0 (fault place) ((grammar_claim.faults src bs h.0 place).1 h.1));
  six = λ src bs place. (out_of_limits src bs place, λ h. limits_out src bs place h.0 h.1.0 h.1.1);
  word = as_before;
  each = each;
  no_other = λ src number place e. is_number src (cases src) number place e;
}
