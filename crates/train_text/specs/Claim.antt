-- No sheet's run lacks room: what is printed is the text of what the gate says. Definitions only; proofs/Claim.antt has the proof.
use Rattle.std.specs.Prelude.{◌≡◌, List, ℕ}
use Rattle.sheet.specs.Claim.{Bytes}
use Rattle.gate.specs.Gate.{gated}
use Rattle.train_text.specs.Text.{text, train_text}

abbrev pub TextClaim : Type 0
TextClaim = (src : List ℕ) → Bytes src → train_text src ≡ text (gated src)
