use Rattle.std.proofs.Common.{◌≡◌, ◌∙◌, ◌+◌, ◌<◌, ◌^◌, length, ap, arith}
use Rattle.std.proofs.lemmas.List.{length-map}
use Rattle.std.specs.declared.vec.Vec.{Vec}
use Rattle.std.specs.declared.alloc.Global.{Global}
use Rattle.vl_tree.specs.declared.source_tree.Module.{Module}
use Rattle.vl_scope.specs.declared.declaration.Declaration.{Declaration}
use Rattle.vl_scope.specs.Declarations as scope
use Rattle.vl_uses.specs.Nodes as n
use Rattle.vl_uses.proofs.Parameters.{parameters-declared}
use Rattle.vl_uses.proofs.faults.note_module.Goals as goal

few : (m : Module) (ds : Vec Declaration Global) → scope.all_seen ds.items ≡ scope.declarations m → n.header_parameters m.parameters + n.items_parameters m.items < 2 ^ 64
few m ds e = omega (arith, parameters-declared m, ap length e, length-map ds.items scope.seen, ds.ok.0)

pub note_declared_module-requires-clause-declared : goal.note_declared_module-requires-clause-declared
note_declared_module-requires-clause-declared c = ap scope.all_seen c.as_slice.ensures.value ∙ c.in_ok-declarations.ensures

pub note_declared_module-requires-clause-few : goal.note_declared_module-requires-clause-few
note_declared_module-requires-clause-few c = few c.args.tree.now c.in_ok-declarations.declarations c.in_ok-declarations.ensures
