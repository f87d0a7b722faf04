-- `c_names::coating_from_name` meets its contract. Assumes nothing.
use mathlib.Core.Path.{◌≡◌, sym, ap, ◌∙◌}
use mathlib.Core.List.{List}
use Rattle.std.specs.Prelude.{Option}
use Prim.Native.Nat.{ℕ, ◌%◌, ◌^◌}
use Rattle.refusal.specs.declared.Refusal.{Refusal}
use Rattle.refusal.specs.Outcome.{Outcome, map, refused, number_of, place_of, outcome}
use Rattle.thin_film.specs.declared.SurfaceCoating.{SurfaceCoating}
use Rattle.name_coating.specs.Name.{from_format_name}
use Rattle.c_call.specs.Call.{packed, returned}
use Rattle.c_call.proofs.Returned.{whole_place, sound_apart}
use Rattle.c_names.specs.Names.{named_code}
use Rattle.c_names.proofs.Refused.{name_sound}
use Rattle.c_names.proofs.coating_from_name.Goals as goal

abbrev coded : Outcome (Option SurfaceCoating) → ℕ
coded o = returned (map named_code o)

turned_back : (name : List ℕ) (r : Refusal) (n : ℕ) → refused r ≡ from_format_name name → n ≡ packed (number_of r) (place_of r % 2 ^ 32) → n ≡ coded (from_format_name name)
turned_back name r n e is = is ∙ whole_place r (from_format_name name) e (sound_apart (from_format_name name) (name_sound name)) ∙ ap coded e

pub returns-in-Err : goal.returns-in-Err
returns-in-Err c = turned_back _ _ _ (sym (ap outcome c.in-Err.is) ∙ c.from_format_name.ensures) c.packed.ensures
