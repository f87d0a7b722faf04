-- `c_names::coating_name` meets its contract. Assumes nothing.
use mathlib.Core.Path.{sym, ap, ◌∙◌}
use Rattle.std.specs.Prelude.{Option}
use Rattle.thin_film.specs.declared.SurfaceCoating.{SurfaceCoating}
use mathlib.Core.List.{List}
use Prim.Native.Nat.{ℕ}
use Rattle.c_names.specs.Names.{Left, name_of, name_left}
use Rattle.c_names.proofs.coating_name.Goals as goal

abbrev named : List ℕ → Option SurfaceCoating → Left
named output i = name_left (name_of i) output

pub returns-in-Some : goal.returns-in-Some
returns-in-Some c = c.put_name.ensures ∙ ap (named c.args.output.now) (sym c.in-Some.is ∙ c.coating_of.ensures)

pub returns-in-None : goal.returns-in-None
returns-in-None c = ap (named c.args.output.now) (sym c.in-None.is ∙ c.coating_of.ensures)
