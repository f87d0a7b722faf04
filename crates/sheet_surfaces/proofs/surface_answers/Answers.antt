-- `sheet_surfaces::surface_answers` meets its contract. Assumes nothing.
use mathlib.Core.Path.{◌≡◌, sym, ap, ◌∙◌}
use mathlib.Core.List.{List}
use Prim.Native.Nat.{ℕ, ◌+◌, ◌≤◌, ◌<◌}
use borrow.Author.Rules.{rules}
use lib.ListN.{length}
use lib.Ieee.{Float}
use Rattle.std.proofs.lemmas.Result.{err_from_is_err_and}
use Rattle.refusal.specs.declared.Refusal.{Refusal}
use Rattle.refusal.specs.Outcome.{Outcome, answer, refusal, refused}
use Rattle.sheet.specs.Sheet.{SheetSurface, nth}
use Rattle.sheet.specs.Internal.{place}
use Rattle.sheet.proofs.Stands.{Known}
use Rattle.sheet_values.specs.Values.{value, met_at}
use Rattle.sheet_values.specs.Internal.{wavelength_at}
use Rattle.gate.specs.Gate.{gate}
use Rattle.gate.proofs.Admitted.{Admitted, admitted}
use Rattle.surface.specs.declared.Answers.{Answers}
use Rattle.sheet_surfaces.specs.Surfaces.{its_answers, surface_answers}
use Rattle.sheet_surfaces.specs.Internal.{answers_met}
use Rattle.sheet_surfaces.proofs.Nth.{none, there, met_is, not_admitted}
use Rattle.sheet_surfaces.proofs.There.{met_given}
use Rattle.sheet_surfaces.proofs.surface_answers.Goals as goal

module _ (src : List ℕ) (i n : ℕ) (known : Known src) (e : answer n ≡ gate src) where
  abbrev a : Admitted src n
  a = admitted src n known e

  no_such : n ≤ i → refusal 7 0 ≡ surface_answers src i
  unfolding surface_answers
  no_such h = none its_answers src i n a h

  whole : i < n → (u : Float) → u ≡ wavelength_at src i → (at : ℕ) → at ≡ place src i → (reply : Outcome Answers) → reply ≡ answers_met src at u → reply ≡ surface_answers src i
  unfolding surface_answers
  whole h u eu at q reply er =
      er ∙ ap (answers_met src at) (met_is src i n known e h u eu)
      ∙ met_given src i n known e h _ at q _ (there its_answers src i n a h)

not_there : (src : List ℕ) (i : ℕ) (r : Refusal) → refused r ≡ gate src → refused r ≡ surface_answers src i
unfolding surface_answers
not_there src i r e = not_admitted its_answers src i r e

pub returns-then-i-count : goal.returns-then-i-count
returns-then-i-count c = no_such _ _ _ c.type_inv.src c.in_ok-count.ensures c.if-i-count.true

pub returns : goal.returns
returns c = whole _ _ _ c.type_inv.src c.in_ok-count.ensures c.if-i-count.false _ c.wavelength_of-wavelength_nm.ensures _ c.place_of.ensures _ c.answers_met.ensures

pub returns-in_err-count : goal.returns-in_err-count
returns-in_err-count c =
    let p = err_from_is_err_and c.from_residual.result c.from_residual.ensures.1 in
    rw (p.1, p.2) (not_there _ _ _ c.in_err-count.ensures)
