-- What a caller of the gate knows of the index of a sheet. Assumes nothing.
use mathlib.Core.Path.{◌≡◌, refl, sym, ap, ◌∙◌}
use mathlib.Core.Bool.{Bool, true, false}
use mathlib.Core.List.{List}
use Prim.Native.Nat.{ℕ, ◌≤◌}
use native.Mathlib.Omega.{arith}
use lib.Dec.{T}
use lib.ListN.{replicate}
use lib.Ieee.{Float}
use Rattle.refusal.specs.Outcome.{Outcome, answer}
use Rattle.ieee.specs.Functions.{one}
use Rattle.sheet.specs.Claim.{length_fits}
use Rattle.sheet.specs.Read.{grammar}
use Rattle.sheet.specs.Internal.{begin}
use Rattle.sheet.proofs.Stands.{Known}
use Rattle.sheet_index.specs.Index.{filled, layers_of, sine_of, cosine_of}
use Rattle.sheet_index.specs.Internal.{Indexed}
use Rattle.sheet_index.proofs.Filled.{indexed}
use Rattle.gate.specs.Gate.{gate}
use Rattle.gate.specs.Index.{Index, rows, index}
use Rattle.gate.proofs.Admitted.{admitted}
use Rattle.gate.proofs.Claim.{cases, is_admitted}

pub few : (src : List ℕ) (n : ℕ) → Known src → answer n ≡ gate src → n ≤ 64
few src n known e = let a = admitted src n known e in omega (arith, a.stands.formed.few, a.counts)

-- a sheet that is admitted is in grammar
all_rows : (src : List ℕ) (n : ℕ) → Known src → answer n ≡ gate src → rows src ≡ n
unfolding grammar
all_rows src n known e =
    let a = admitted src n known e in
    let i = is_admitted src (cases src) a.sheet a.is in
    rw (of_T i.0, i.1.0) a.counts
  where
    of_T : T (length_fits src) → length_fits src ≡ true
    of_T = go (length_fits src)
      where
        go : (t : Bool) → T t → t ≡ true
        go true h = refl
        go false h = absurd h

module _ (src : List ℕ) (o : Outcome ℕ) (b c : List ℕ) (s t : List Float) (e : record { result = o; begins = b; counts = c; sines = s; cosines = t } ≡ index src) where
  pub result_is : o ≡ gate src
  unfolding index
  result_is = ap (λ (z : Index). z.result) e

  -- where a sheet is admitted its index is read back
  pub read_back : Known src → (n : ℕ) → o ≡ answer n → Indexed src n b c s t
  unfolding index
  read_back known n q =
      let g : answer n ≡ gate src = sym q ∙ result_is in
      let r = all_rows src n known g in
      indexed src n (few src n known g) (replicate 64 1) (replicate 64 1) (replicate 64 one) (replicate 64 one) refl refl refl refl b c s t
      (ap (λ (z : Index). z.begins) e ∙ ap (λ (k : ℕ). filled (begin src) k (replicate 64 1)) r)
      (ap (λ (z : Index). z.counts) e ∙ ap (λ (k : ℕ). filled (layers_of src) k (replicate 64 1)) r)
      (ap (λ (z : Index). z.sines) e ∙ ap (λ (k : ℕ). filled (sine_of src) k (replicate 64 one)) r)
      (ap (λ (z : Index). z.cosines) e ∙ ap (λ (k : ℕ). filled (cosine_of src) k (replicate 64 one)) r)
