-- `sheet_surfaces::nth_surface` meets its contract. Assumes nothing.
use mathlib.Core.Path.{sym, ap, ◌∙◌}
use borrow.Author.Rules.{rules}
use Rattle.std.proofs.lemmas.Result.{err_from_is_err_and}
use Rattle.sheet_surfaces.proofs.Nth.{no_surface_there, surface_there, surface_refused}
use Rattle.sheet_surfaces.proofs.nth_surface.Goals as goal

pub returns-then-i-count : goal.returns-then-i-count
returns-then-i-count c = no_surface_there _ _ _ c.type_inv.src c.in_ok-count.ensures c.if-i-count.true

pub returns : goal.returns
returns c = surface_there _ _ _ c.type_inv.src c.in_ok-count.ensures c.if-i-count.false _ c.place_of-at.ensures _ c.surface_at-surface.ensures _ c.layer_run-layers.ensures

pub returns-in_err-count : goal.returns-in_err-count
returns-in_err-count c =
    let p = err_from_is_err_and c.from_residual.result c.from_residual.ensures.1 in
    rw (p.1, p.2) (surface_refused _ _ _ c.in_err-count.ensures)
