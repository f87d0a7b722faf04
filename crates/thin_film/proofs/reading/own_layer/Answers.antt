-- `thin_film::reading::own_layer` meets its contract. Assumes nothing.
use mathlib.Core.Path.{◌≡◌, refl, ◌∙◌}
use mathlib.Core.List.{List, [], ◌∷◌}
use Prim.Native.Nat.{ℕ, zero, suc, ◌≤◌}
use native.Mathlib.Nat.{not-suc-le-zero, le_of_suc-le-suc}
use native.Mathlib.Omega.{arith}
use lib.ListN.{length, get_or}
use Rattle.thin_film_solver.specs.Solve.{dielectric}
use Rattle.thin_film_layers.specs.Evaluation.{no_layer}
use Rattle.thin_film.specs.Coating.{layers_of}
use borrow.Author.Rules.{rules}
use Rattle.thin_film.proofs.reading.own_layer.Goals as goal

past : {A : Type 0} (l : List A) (i : ℕ) (d : A) → length l ≤ i → d ≡ get_or l i d
past [] i d h = refl
past (x ∷ l) zero d h = absurd (not-suc-le-zero h)
past (x ∷ l) (suc i) d h = past l i d (le_of_suc-le-suc h)

pub returns-else-i-own_count : goal.returns-else-i-own_count
unfolding dielectric
returns-else-i-own_count c =
    let a = c.args in
    c.dielectric.ensures ∙ past (layers_of a.coating []) a.i no_layer (omega (arith, c.own_count.ensures, c.if-i-own_count.false))
