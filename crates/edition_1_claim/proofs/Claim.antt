-- 02 slip 6. Assumes nothing.
use mathlib.Core.Path.{◌≡◌, refl, sym, ap, ◌∙◌}
use mathlib.Core.List.{List}
use Prim.Native.Nat.{ℕ}
use lib.ListN.{length}
use borrow.Author.Tests.{le-leb, lt-leb}
use Rattle.refusal.specs.Outcome.{Outcome, answer, refusal, map}
use Rattle.sheet.specs.Sheet.{Sheet, WellFormed, encode}
use Rattle.sheet.specs.Claim.{Bytes}
use Rattle.sheet.proofs.Claim.{grammar_claim}
use Rattle.gate.specs.Gate.{gated}
use Rattle.gate.specs.Claim.{WithinLimits}
use Rattle.gate.proofs.Claim.{gate_claim}
use Rattle.train_steps.specs.Train.{fresh}
use Rattle.sheet_edition_1.proofs.Shorter.{shorter}
use Rattle.sheet_edition_1.specs.Edition.{translated, edition_1, Written, laid, written, to_edition_1}
use Rattle.sheet_untuned.specs.Claim.{Untuned, FirstTuning}
use Rattle.sheet_untuned.proofs.Claim.{untuned_claim}
use Rattle.edition_1_claim.specs.Claim.{RunsAlike, IsWritten, Untouched, Edition1Claim}
use Rattle.edition_1_claim.proofs.Plain.{same_sheet, new_formed, new_within, new_untuned}
use Rattle.edition_1_claim.proofs.Words.{unchanged_words}
use Rattle.edition_1_claim.proofs.Runs.{runs, starts, steps_alike, lists, told_alike, answers_alike}

-- what comes of some bytes, by what is said of them before
abbrev by_sheet : List ℕ → Outcome Sheet → Written
by_sheet output o = written (map translated o) output

module _ (src : List ℕ) (bs : Bytes src) (x : Sheet) (g : gated src ≡ answer x) where
  formed : WellFormed x
  formed = ((gate_claim.admits src bs x).0 g).0.0

  inside : WithinLimits x
  inside = ((gate_claim.admits src bs x).0 g).0.1

  is_src : encode x ≡ src
  is_src = ((gate_claim.admits src bs x).0 g).1

  twelve : (place : ℕ) → FirstTuning x place → Untouched src 12 place
  unfolding to_edition_1 edition_1
  twelve place f output = ap (by_sheet output) (untuned_claim.twelve src x g place f)

  module _ (k : Untuned x) where
    abbrev new : List ℕ
    new = encode (translated x)

    formed' : WellFormed (translated x)
    formed' = new_formed x formed k

    inside' : WithinLimits (translated x)
    inside' = new_within x formed k inside

    admitted : gated new ≡ answer (translated x)
    admitted = (gate_claim.admits new (grammar_claim.fits (translated x) formed').1 (translated x)).1 ((formed', inside'), refl)

    is_edition_1 : edition_1 src ≡ answer (translated x)
    unfolding edition_1
    is_edition_1 = ap (map translated) (untuned_claim.taken src bs x g k)

    twice : translated (translated x) ≡ translated x
    twice = same_sheet (translated x) formed' (unfold translated in refl)

    again : edition_1 new ≡ answer (translated x)
    unfolding edition_1
    again = ap (map translated) (untuned_claim.taken new (grammar_claim.fits (translated x) formed').1 (translated x) admitted (new_untuned x formed k)) ∙ ap answer twice

    alike : RunsAlike src x new
    unfolding to_edition_1
    alike =
        let k' = new_untuned x formed k in
        record {
          formed = formed';
          edition = unfold translated in refl;
          admitted = admitted;
          shorter = rw is_src at (shorter x);
          runs = runs src new x g admitted k k' inside inside';
          starts = starts src new x g admitted k k' inside inside';
          stepped = steps_alike src new x g admitted k k' inside inside';
          lists = λ n. lists src new x g admitted k k' inside inside' n (fresh x) refl;
          told = λ n. told_alike src new x g admitted k k' inside inside' n (fresh x) refl;
          answers = answers_alike src new x g admitted k k' inside inside';
          itself = λ e. ap encode (same_sheet x formed e) ∙ is_src;
          again = λ output. ap (λ (o : Outcome Sheet). written o output) (again ∙ sym is_edition_1);
        }

    is_laid : (output : List ℕ) → to_edition_1 src output ≡ laid new output
    unfolding to_edition_1
    is_laid output = ap (λ (o : Outcome Sheet). written o output) is_edition_1

    is_written : IsWritten src new
    is_written = record {
      whole = λ output le. is_laid output ∙ rw (le-leb (length new) (length output) le);
      eight = λ output lt. is_laid output ∙ rw (lt-leb (length new) (length output) lt);
    }

turned_back : (src : List ℕ) (number place : ℕ) → gated src ≡ refusal number place → Untouched src number place
unfolding to_edition_1 edition_1
turned_back src number place e output = ap (by_sheet output) (untuned_claim.turned_back src number place e)

pub edition_1_claim : Edition1Claim
edition_1_claim = record {
  alike = alike;
  unchanged = λ src bs x g. (sym (is_src src bs x g), unchanged_words x (formed src bs x g));
  written = is_written;
  twelve = twelve;
  turned_back = turned_back;
}
