-- The refusal of a name is at one of its bytes, or at 32; a code is small. Assumes nothing.
use mathlib.Core.Path.{◌≡◌, refl}
use mathlib.Core.Bool.{Bool, true, false, cond}
use mathlib.Core.List.{List}
use Rattle.std.specs.Prelude.{Option, None, Some}
use Prim.Native.Nat.{ℕ, ◌^◌, ◌<◌}
use native.Mathlib.Omega.{arith}
use lib.Dec.{ltb, lit<}
use lib.ListN.{length}
use borrow.Author.Tests.{ltb-true, ltb-false}
use Rattle.refusal.specs.Outcome.{answer, refusal}
use Rattle.name_bytes.specs.Trim.{trimmed}
use Rattle.name_bytes.specs.Ascii.{first_over}
use Rattle.thin_film_coating.specs.declared.Coating.TheVariants as C
use Rattle.thin_film.specs.declared.SurfaceCoating.{SurfaceCoating}
use Rattle.thin_film.specs.declared.SurfaceCoating.TheVariants as S
use Rattle.name_coating.specs.Name.{upper, coating_of, from_format_name}
use Rattle.c_call.proofs.Returned.{Sound}
use Rattle.c_names.specs.Names.{named_code}

pub name_sound : (name : List ℕ) → Sound (from_format_name name)
unfolding from_format_name
name_sound name = long (ltb 32 (length name)) refl
  where
    found : Option SurfaceCoating
    found = coating_of (upper (trimmed name))

    over : (b : Bool) → ltb (first_over name) (length name) ≡ b → length name < 33 → Sound (cond b (refusal 2 (first_over name)) (answer found))
    over true e l = (lit< tt, omega (arith, ltb-true (first_over name) (length name) e))
    over false e l = tt

    long : (b : Bool) → ltb 32 (length name) ≡ b → Sound (cond b (refusal 2 32) (cond (ltb (first_over name) (length name)) (refusal 2 (first_over name)) (answer found)))
    long true e = (lit< tt, lit< tt)
    long false e = over (ltb (first_over name) (length name)) refl (omega (arith, ltb-false 32 (length name) e))

pub small : (coating : Option SurfaceCoating) → named_code coating < 2 ^ 32
small None = lit< tt
small (Some S.IdealAr) = lit< tt
small (Some (S.MgF2 design)) = lit< tt
small (Some S.BroadbandAr) = lit< tt
small (Some S.HighReflectanceMirror) = lit< tt
small (Some (S.Custom C.Multilayer)) = lit< tt
small (Some (S.Custom C.IdealBeamsplitter)) = lit< tt
small (Some (S.Custom C.IdealMirror)) = lit< tt
small (Some (S.Custom C.IdealAr)) = lit< tt
