-- `c_stack::place` meets its contract. Assumes nothing.
use lib.Dec.{lit<}
use lib.ListN.{set}
use lib.Seq.{lt-length-set}
use Rattle.thin_film_shorthand.specs.Stack.{layer}
use Rattle.c_stack.proofs.Flat.{start, inside, end}
use Rattle.c_stack.proofs.Stacked.{turn}
use Rattle.c_stack.proofs.place.Goals as goal

pub loop-i-init : goal.loop-i-init
loop-i-init c = start _ _ _

pub bounds-list-i-in-loop-i : goal.bounds-list-i-in-loop-i
bounds-list-i-in-loop-i c =
    lt-length-set c.loop-i.list _ _
    (inside _ _ _ _ c.loop-i.i 1 (lit< tt) c.requires.1.1 c.loop-i-test.true c.loop-i.invariant)

pub bounds-list-i-in-loop-i-2 : goal.bounds-list-i-in-loop-i-2
bounds-list-i-in-loop-i-2 c =
    lt-length-set (set c.loop-i.list _ _) _ _
    (lt-length-set c.loop-i.list _ _
    (inside _ _ _ _ c.loop-i.i 2 (lit< tt) c.requires.1.1 c.loop-i-test.true c.loop-i.invariant))

pub loop-i-preserved : goal.loop-i-preserved
loop-i-preserved c =
    let a = c.args in
    turn (layer a.n_h a.n_l a.n_m a.design_wavelength_nm) a.films _ _ c.loop-i.list c.loop-i.i _ _ c.requires.1.0 c.requires.1.1 c.loop-i-test.true c.loop-i.invariant c.layer-layer.ensures

pub shape_of-list : goal.shape_of-list
shape_of-list c = c.loop-i.invariant.long

pub returns : goal.returns
returns c = end _ _ _ _ _ c.loop-i-test.false c.loop-i.invariant
