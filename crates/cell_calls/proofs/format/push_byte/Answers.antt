use Rattle.std.proofs.Common.{map, [], ◌∷◌}
use Rattle.vl_design.specs.Trees.{arg_of, flat_of}
use Rattle.cell_emit.specs.cell_form.specs.Views.{list_of}
use Rattle.cell_emit.specs.Envs.{env_of}
use Rattle.cell_calls.proofs.Bytes.{percent-is, plain-is}
use Rattle.cell_calls.proofs.Walking.{adds-none, adds-text}
use Rattle.cell_calls.proofs.format.push_byte.Goals as goal

pub returns-then-byte-eq37-clause-adds : goal.returns-then-byte-eq37-clause-adds
returns-then-byte-eq37-clause-adds c =
    rw (c.in-InText.is, percent-is c.args.site.path.now (map arg_of c.args.args.now) c.args.byte c.if-byte-eq37.true)
    (adds-none (flat_of c.args.site.design.now) (env_of c.args.site.at.now) c.args.display.now (list_of c.args.cells.now))

pub returns-in_ok-push_text-in-InText-clause-adds : goal.returns-in_ok-push_text-in-InText-clause-adds
returns-in_ok-push_text-in-InText-clause-adds c =
    let done = c.in_ok-push_text-in-InText.ensures in
    rw (c.in-InText.is, plain-is c.args.site.path.now (map arg_of c.args.args.now) c.args.byte c.if-byte-eq37.false)
    (adds-text (flat_of c.args.site.design.now) (env_of c.args.site.at.now) (c.args.byte ∷ []) c.args.display.now c.push_text.new.self (list_of c.args.cells.now) done.parts done.slots)
