-- `thin_film_reader::films::repeat` meets its contract. Assumes nothing.
use Rattle.thin_film_reader.specs.InternalFilms.{repeated, again}
use mathlib.Core.Path.{◌≡◌, sym, ap, ◌∙◌}
use native.Mathlib.Omega.{arith}
use Rattle.thin_film_reader.proofs.Pushes as Pushes
use Prim.Native.Nat.{◌+◌, ◌-◌}
use Rattle.thin_film_reader.specs.declared.films.Films.{Films}
use Rattle.thin_film_reader.proofs.films.repeat.Goals as goal

pub loop-init : goal.loop-init
loop-init c = (c.requires, ap (repeated c.args.f) (let e : c.args.more ≡ c.args.more - 0 = omega arith in e))

pub returns-then-count-ge64 : goal.returns-then-count-ge64
returns-then-count-ge64 c = c.over.ensures ∙ Pushes.turn_over _ _ (let h = c.loop-test.true in omega arith) c.if-count-ge64.true ∙ sym c.loop.invariant.1

pub overflow_sub-from : goal.overflow_sub-from
overflow_sub-from c = c.loop.invariant.0

pub loop-preserved : goal.loop-preserved
loop-preserved c = (Pushes.unit_within c.loop.films _ (again c.loop.films) c.if-count-ge64.false c.push-films.ensures c.loop.invariant.0, c.loop.invariant.1 ∙ Pushes.one_turn _ _ (let h = c.loop-test.true in omega arith) ∙ ap (λ (g : Films). repeated g (c.args.more - c.loop.counter - 1)) (sym c.push-films.ensures) ∙ ap (repeated c.push-films.result) (let e : c.args.more - c.loop.counter - 1 ≡ c.args.more - (c.loop.counter + 1) = omega arith in e))

pub returns : goal.returns
returns c = sym (c.loop.invariant.1 ∙ Pushes.no_turn _ _ (let h = c.loop-test.false in omega arith))
