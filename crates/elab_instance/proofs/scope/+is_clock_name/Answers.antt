use Rattle.std.proofs.Common.{◌≡◌, length, sym, ap, ◌∙◌, arith}
use Rattle.elab_plain.specs.vl_flat.specs.Connections.{is_clock_binding}
use Rattle.elab_constant.specs.Seen.{look}
use Rattle.elab_instance.proofs.Clocks.{clock-alone}
use Rattle.elab_instance.proofs.scope.+is_clock_name.Goals as goal

pub returns-in-empty : goal.returns-in-empty
returns-in-empty t c =
    let none : length c.in-Named.selects.items ≡ 0 = omega (arith, ap length c.as_slice.ensures.value) in
    c.is_clock_known.ensures
    ∙ ap is_clock_binding c.found_in.ensures
    ∙ ap (λ name. is_clock_binding (look c.args.names.now name)) c.as_slice-in-empty.ensures
    ∙ sym (clock-alone (look c.args.names.now) c.args.e.now c.in-Named.field-0 c.in-Named.name c.in-Named.selects c.in-Named.is none)
