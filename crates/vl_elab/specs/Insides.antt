-- What is known of an instance, and what stands in it.
use Rattle.std.specs.Prelude.{◌≡◌, ℕ, List, ◌++◌, flat_map}
use Rattle.elab_plain.specs.vl_flat.specs.Items.{Instances, NamedUnit, Module}
use Rattle.elab_plain.specs.vl_flat.specs.Processes.{Here}
use Rattle.elab_plain.specs.vl_flat.specs.Scopes.{Env}
use Rattle.elab_plain.specs.vl_flat.specs.Environments.{Counts, environment}
use Rattle.elab_plain.specs.vl_flat.specs.Connections.{given, spelled, named_connection, port_connection}
use Rattle.elab_plain.specs.vl_flat.specs.Flat.{Part, input_part, output_part, body}
use Rattle.vl_sound.specs.Sized.{Sizes, instance_by}
use Rattle.elab_constant.specs.Seen.{look}
use Rattle.elab_instance.specs.Tables.{joined}
use Rattle.vl_elab.specs.declared.instances.Inside.{Inside}

-- what the names of an instance stand for, with what stands so deep in it
abbrev pub names_in : Sizes → ℕ → Here → Counts → Instances → NamedUnit → Module → Env
names_in sizes n above base us u m = environment (sizes n) (given above base us u m) m

-- the connections of its inputs, its items, and the connections of its outputs
abbrev pub contents : Sizes → ℕ → List Module → Here → Counts → Instances → NamedUnit → Module → List Part
contents sizes n ms above base us u m =
    let env = names_in sizes n above base us u m in
    flat_map (λ t. input_part above env m u t.name) m.ports
    ++ (body (instance_by sizes n ms) (sizes n) ms above.behind env (given above base us u m) m
    ++ flat_map (λ t. output_part above env m u t.name) m.ports)

-- the tables are those of this instance
pub record IsInside (a : Inside) (sizes : Sizes) (n : ℕ) (above : Here) (base : Counts) (us : Instances) (u : NamedUnit) (m : Module) : Type 0 where
  pub overrides : joined a.overrides ≡ named_connection (spelled m.parameters) us.overrides
  pub ports : joined a.ports ≡ port_connection m u
  pub names : look a.names ≡ names_in sizes n above base us u m
