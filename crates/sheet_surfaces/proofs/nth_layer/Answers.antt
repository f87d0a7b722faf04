-- `sheet_surfaces::nth_layer` meets its contract. Assumes nothing.
use mathlib.Core.Path.{sym, ap, ◌∙◌}
use borrow.Author.Rules.{rules}
use Rattle.std.proofs.lemmas.Result.{err_from_is_err_and}
use Rattle.sheet_surfaces.proofs.Nth.{no_layer_there, past_layers, layer_there, layer_refused}
use Rattle.sheet_surfaces.proofs.nth_layer.Goals as goal

pub returns-then-i-count : goal.returns-then-i-count
returns-then-i-count c = no_layer_there _ _ _ c.type_inv.src c.in_ok-count.ensures _ c.if-i-count.true

pub returns-then-j-layer_run : goal.returns-then-j-layer_run
returns-then-j-layer_run c = past_layers _ _ _ c.type_inv.src c.in_ok-count.ensures _ c.if-i-count.false _ c.place_of-at.ensures _ c.layer_run.ensures c.if-j-layer_run.true

pub returns : goal.returns
returns c = layer_there _ _ _ c.type_inv.src c.in_ok-count.ensures _ c.if-i-count.false _ c.place_of-at.ensures _ c.layer_run.ensures c.if-j-layer_run.false _ c.wavelength_of-wavelength_nm.ensures _ c.layer_after.ensures

pub returns-in_err-count : goal.returns-in_err-count
returns-in_err-count c =
    let p = err_from_is_err_and c.from_residual.result c.from_residual.ensures.1 in
    rw (p.1, p.2) (layer_refused _ _ _ _ c.in_err-count.ensures)
