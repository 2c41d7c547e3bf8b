use Rattle.std.proofs.Common.{map, [], ◌∷◌}
use Rattle.vl_design.specs.Trees.{arg_of, flat_of}
use Rattle.cell_emit.specs.cell_form.specs.Views.{list_of}
use Rattle.cell_emit.specs.Envs.{env_of}
use Rattle.cell_calls.proofs.Bytes.{zero-is, twice-is, path-is}
use Rattle.cell_calls.proofs.Walking.{adds-none, adds-text}
use Rattle.cell_calls.proofs.format.push_behind_percent.Goals as goal

pub returns-then-byte-eq48-clause-adds : goal.returns-then-byte-eq48-clause-adds
returns-then-byte-eq48-clause-adds c =
    rw (zero-is c.args.site.path.now (map arg_of c.args.args.now) c.args.byte c.if-byte-eq48.true)
    (adds-none (flat_of c.args.site.design.now) (env_of c.args.site.at.now) c.args.display.now (list_of c.args.cells.now))

pub returns-then-byte-eq37-clause-adds : goal.returns-then-byte-eq37-clause-adds
returns-then-byte-eq37-clause-adds c =
    let parts = rw c.as_slice.ensures at c.in_ok-push_text.ensures.parts in
    rw (twice-is c.args.site.path.now (map arg_of c.args.args.now) c.args.byte c.if-byte-eq48.false c.if-byte-eq37.true)
    (adds-text (flat_of c.args.site.design.now) (env_of c.args.site.at.now) (37 ∷ []) c.args.display.now c.push_text.new.self (list_of c.args.cells.now) parts c.in_ok-push_text.ensures.slots)

pub returns-then-is_path-clause-adds : goal.returns-then-is_path-clause-adds
returns-then-is_path-clause-adds c =
    rw (path-is c.args.site.path.now (map arg_of c.args.args.now) c.args.byte c.if-byte-eq48.false c.if-byte-eq37.false c.if-is_path.ensures)
    (adds-text (flat_of c.args.site.design.now) (env_of c.args.site.at.now) c.args.site.path.now c.args.display.now c.push_text-then-is_path.new.self (list_of c.args.cells.now) c.in_ok-push_text-2.ensures.parts c.in_ok-push_text-2.ensures.slots)
