-- What a caller of the gate knows of a sheet that is admitted, and of one that is not. Assumes nothing.
use mathlib.Core.Path.{◌≡◌, refl}
use mathlib.Core.List.{List}
use Prim.Native.Nat.{ℕ}
use native.Mathlib.Omega.{arith}
use Rattle.refusal.specs.Outcome.{Outcome, answer, refusal, map}
use Rattle.sheet.specs.Sheet.{Sheet}
use Rattle.sheet.specs.Read.{surfaces_of}
use Rattle.sheet.proofs.Stands.{Standing, standing, Known, bytes_from}
use Rattle.gate.specs.Gate.{gated, gate}
use Rattle.gate.specs.Claim.{WithinLimits}
use Rattle.gate.proofs.Claim.{gate_claim, Case, short, broken, outside, inside, cases, is_admitted}

pub record Admitted (src : List ℕ) (n : ℕ) : Type 0 where
  pub sheet : Sheet
  pub is : gated src ≡ answer sheet
  pub stands : Standing src sheet
  pub within : WithinLimits sheet
  pub counts : surfaces_of sheet ≡ n

-- the sheet that is admitted stands in the bytes and is within the limits
pub gives : (src : List ℕ) → Known src → (x : Sheet) → gated src ≡ answer x → Standing src x × WithinLimits x
gives src known x g = let a = is_admitted src (cases src) x g in (standing src (bytes_from src known) a.0 x a.1.0, ((gate_claim.admits src (bytes_from src known) x).0 g).0.1)

pub admitted : (src : List ℕ) (n : ℕ) → Known src → answer n ≡ gate src → Admitted src n
unfolding gate
admitted src n known e = go (gated src) refl (cases src) e
  where
    no : {A : Type 0} {x : A} {number place : ℕ} → answer x ≡ refusal number place → ⊥
    no e = let z : ◌≡◌ {A = ℕ} 0 1 = cc in omega arith

    go : (o : Outcome Sheet) → gated src ≡ o → Case src o → answer n ≡ map surfaces_of o → Admitted src n
    go _ g (short f) e = absurd (no e)
    go _ g (broken t q d) e = absurd (no e)
    go _ g (outside t x d q f) e = absurd (no e)
    go _ g (inside t x d h) e = record { sheet = x; is = g; stands = (gives src known x g).0; within = (gives src known x g).1; counts = same e }
      where
        same : answer n ≡ answer (surfaces_of x) → surfaces_of x ≡ n
        same e = cc

pub turned_back : (src : List ℕ) (number place : ℕ) → refusal number place ≡ gate src → gated src ≡ refusal number place
unfolding gate
turned_back src number place e = go (gated src) e
  where
    go : (o : Outcome Sheet) → refusal number place ≡ map surfaces_of o → o ≡ refusal number place
    go (answer x) e = absurd (let z : ◌≡◌ {A = ℕ} 0 1 = cc in omega arith)
    go (refusal n p) e = cc
