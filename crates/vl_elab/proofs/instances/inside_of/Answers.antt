use Rattle.std.proofs.Common.{refl, ap, sym, ◌∙◌, subst, arith}
use Rattle.elab_plain.specs.vl_flat.specs.Environments as e
use Rattle.elab_plain.specs.vl_flat.specs.Functions.{dotted}
use Rattle.elab_plain.specs.SeenItems.{seen_instances, seen_module, seen_unit}
use Rattle.elab_kinds.specs.Facts.{facts}
use Rattle.elab_kinds.specs.Sized.{counts_of}
use Rattle.elab_instance.specs.declared.given.Surroundings.{Surroundings}
use Rattle.elab_instance.specs.Tables.{joined}
use Rattle.elab_instance.proofs.Givens.{given-same}
use Rattle.vl_elab.specs.declared.instances.Inside.{Inside}
use Rattle.vl_elab.specs.Standing.{seen_here}
use Rattle.vl_elab.specs.Libraries.{modules_of, sizes_in}
use Rattle.vl_elab.specs.Insides.{IsInside}
use Rattle.vl_elab.proofs.instances.inside_of.Goals as goal

pub returns : goal.returns
returns c = λ m there.
    let ms = modules_of c.args.library.now in
    let md = seen_module c.definition_at-definition.result.now in
    let is = c.definition_at-definition.ensures m there in
    let here = seen_here c.args.above in
    let us = seen_instances c.args.instances.now in
    let u = seen_unit c.args.unit.now in
    let base = counts_of c.args.base in
    let n = c.args.depth in
    let around : Surroundings = record {
      names = c.args.above.names;
      overrides = c.deref.result;
      ports = c.deref-2.result;
    } in
    let overridden = ap joined c.in_ok-overridden.ensures.ok ∙ c.in_ok-overrides.ensures in
    let ports = ap joined c.in_ok-ports.ensures.ok ∙ c.in_ok-port_connections.ensures in
    let given-is = given-same here base us u md around refl (ap joined c.deref.ensures ∙ overridden) (ap joined c.deref-2.ensures ∙ ports) in
    let facts-are = c.roles_at-roles.ensures m there ∙ ap facts (sym is) in
    let made : Inside = record { overrides = c.into_inner.result; ports = c.into_inner-2.result; names = c.in_ok-names.names } in
    subst (λ a. IsInside a (sizes_in c.args.library.now) n here base us u m) (sym c.in_ok-new.ensures.ok)
    (subst (λ z. IsInside made (sizes_in c.args.library.now) n here base us u z) is (record {
      overrides = ap joined c.into_inner.ensures ∙ overridden;
      ports = ap joined c.into_inner-2.ensures ∙ ports;
      names = c.in_ok-names.ensures.module (sizes_in c.args.library.now) (dotted here.path u.name.name) c.requires.library.sizes (omega (arith, c.requires.depth)) facts-are
          ∙ ap (λ z. e.environment (sizes_in c.args.library.now n) z md) given-is;
    }))
