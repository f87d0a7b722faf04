-- `c_scan::paired` meets its contract. Assumes nothing.
use mathlib.Core.Path.{◌≡◌, sym, ap, ◌∙◌}
use mathlib.Core.List.{List}
use Prim.Native.Nat.{ℕ, ◌%◌, ◌^◌, ◌<◌}
use lib.ListN.{length}
use lib.Ieee.{Float}
use Rattle.c_call.specs.Call.{done, packed, answered}
use Rattle.c_call.proofs.Returned.{sound_apart, refuses_at}
use Rattle.refusal.specs.Outcome.{refusal}
use Rattle.c_scan.specs.Scan.{scanned}
use Rattle.c_scan.specs.Internal.{cases, all_answered, refusal_of_all}
use Rattle.c_scan.proofs.Cases.{is_ok}
use Rattle.c_scan.proofs.Written.{is_refused, short, whole, counted, call_sound}
use Rattle.c_scan.proofs.paired.Goals as goal

module _ (code : ℕ) (design n_incident n_substrate : Float) (angles wavelengths flat : List Float) (same : length angles ≡ length wavelengths) (few : length angles < 2 ^ 28) where
  refused : (number place n : ℕ) (list : List Float) → refusal number place ≡ refusal_of_all (cases code design n_incident n_substrate angles wavelengths flat) → n ≡ packed number (place % 2 ^ 32) → done n list ≡ answered scanned (cases code design n_incident n_substrate angles wavelengths flat) list
  refused number place n list e =
      let o = cases code design n_incident n_substrate angles wavelengths flat in
      refuses_at scanned number place o n list (is_refused o number place e) (sound_apart o (call_sound code design n_incident n_substrate angles wavelengths flat same few))

pub returns-in-Err : goal.returns-in-Err
returns-in-Err c = refused _ _ _ _ _ _ _ c.requires.0 c.requires.1 _ _ _ _ (sym (ap all_answered c.in-Err.is) ∙ c.first_refused.ensures) c.packed_at.ensures

pub returns-then-list-count : goal.returns-then-list-count
returns-then-list-count c = short _ _ _ (counted _ _ _ _ _ _ _ c.requires.0) (sym (ap all_answered (is_ok _ c.in_default.not-Err)) ∙ c.first_refused.ensures) c.if-list-count.true

pub place-requires : goal.place-requires
place-requires c = record { none_refused = sym (ap all_answered (is_ok _ c.in_default.not-Err)) ∙ c.first_refused.ensures; as_many = c.requires.0; fits = c.if-list-count.false }

pub returns : goal.returns
returns c = whole _ _ _ _ (counted _ _ _ _ _ _ _ c.requires.0) (sym (ap all_answered (is_ok _ c.in_default.not-Err)) ∙ c.first_refused.ensures) c.if-list-count.false c.place.ensures
