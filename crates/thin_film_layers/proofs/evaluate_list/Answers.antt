-- `thin_film_layers::evaluate_list` meets its contract. Assumes nothing.
use mathlib.Core.Path.{◌≡◌, ap, subst, ◌∙◌}
use mathlib.Core.List.{List}
use Prim.Native.Nat.{ℕ, ◌+◌, ◌<◌}
use native.Mathlib.Omega.{arith}
use lib.ListN.{length, get_or}
use Rattle.thin_film_layers.specs.Internal.{nth_index, read_count, light_in, reversed_in}
use Rattle.thin_film_solver.specs.declared.ThinFilmLayer.{ThinFilmLayer}
use Rattle.thin_film_solver.specs.declared.Terms.{Terms}
use Rattle.thin_film_solver.specs.Internal.{terms_of, step_s, step_p}
use Rattle.thin_film_matrix.specs.Matrix.{Matrix}
use Rattle.thin_film_layers.specs.declared.Prepared.{Prepared}
use Rattle.thin_film_layers.proofs.Order as Order
use Rattle.thin_film_layers.proofs.Order.{reading}
use Rattle.thin_film_layers.proofs.evaluate_list.Goals as goal
use Rattle.refusal.specs.Outcome.{outcome}

-- a turn that takes the layer at j
turned : (p : Prepared) (ys : List ThinFilmLayer) (n i j : ℕ) (d : ThinFilmLayer) (t : Terms) (ms mp ms' mp' : Matrix) → n ≡ read_count p (length ys) → j ≡ nth_index (reversed_in p) n i → i < n
    → t ≡ terms_of (light_in p).snell (light_in p).wavelength_nm (get_or ys j d) → ms' ≡ step_s ms t → mp' ≡ step_p mp t → Order.Left (light_in p) ms mp i (reading p ys) → Order.Left (light_in p) ms' mp' (i + 1) (reading p ys)
turned p ys n i j d t ms mp ms' mp' n_is j_is h e f g left =
    Order.turns p ys i d t ms mp ms' mp' (subst (λ (m : ℕ). i < m) n_is h)
    (e ∙ ap (λ (k : ℕ). terms_of (light_in p).snell (light_in p).wavelength_nm (get_or ys k d)) (j_is ∙ ap (λ (m : ℕ). nth_index (reversed_in p) m i) n_is)) f g left

pub loop-i-init : goal.loop-i-init
loop-i-init c = Order.begun (light_in c.args.prepared) (reading c.args.prepared c.args.layers.now) _ _ c.identity-ms.ensures c.identity-mp.ensures

pub loop-i-preserved : goal.loop-i-preserved
loop-i-preserved c = turned c.args.prepared c.args.layers.now _ _ _ _ _ _ _ _ _ c.read_count-n.ensures c.read_index-j.ensures c.loop-i-test.true c.read_terms-terms.ensures c.step_s-next_s.ensures c.step_p-next_p.ensures c.loop-i.invariant

pub returns : goal.returns
returns c = ap outcome c.conclude.ensures ∙ Order.concludes c.args.prepared c.args.layers.now _ _ _ (omega arith) c.loop-i.invariant
