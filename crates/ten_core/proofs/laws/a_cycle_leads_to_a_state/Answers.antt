use Rattle.std.proofs.Common.{refl}
use Rattle.trap_runtime.specs.cell_form.specs.States.{table_cycled}
use Rattle.ten_core.proofs.Cycling.{driven-to}
use Rattle.ten_core.specs.Tenants.{table_in, tenant_of}
use Rattle.ten_core.proofs.laws.a_cycle_leads_to_a_state.Goals as goal

pub returns : goal.returns
returns c e b runs w f room =
    let t = tenant_of e b in
    let next = driven-to c.a_cycle_of_states_is_one_of_nodes.ensures t runs w f room t.image (table_cycled (table_in e) b) refl refl in
    next.few
