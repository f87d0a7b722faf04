-- No sheet's run lacks room: a sheet has 64 surfaces at the most. Assumes nothing.
use mathlib.Core.Path.{◌≡◌, refl, ap}
use Prim.Native.Nat.{◌*◌, ◌≤◌}
use native.Mathlib.Omega.{arith}
use borrow.Author.Tests.{le-leb}
use lib.ListN.{length}
use Rattle.refusal.specs.Outcome.{Outcome, answer, refusal}
use Rattle.sheet.specs.Sheet.{Sheet}
use Rattle.gate.specs.Gate.{gated}
use Rattle.gate.proofs.Claim.{gate_claim}
use Rattle.train_text.specs.Text.{text, with_room, train_text}
use Rattle.train_text.specs.Claim.{TextClaim}

has_room : (o : Outcome Sheet) → ((x : Sheet) → o ≡ answer x → length x.surfaces ≤ 64) → with_room o ≡ o
has_room (answer x) few = let h : 2 * length x.surfaces ≤ 128 = omega (arith, few x refl) in rw (le-leb (2 * length x.surfaces) 128 h)
has_room (refusal number place) few = refl

pub text_claim : TextClaim
unfolding train_text
text_claim src bytes = ap text (has_room (gated src) (λ x e. ((gate_claim.admits src bytes x).0 e).0.0.few))
