-- The parts of a flat design, with any table of how many signals and functions modules have (IEEE 1364-2005, clause 12).
use Rattle.std.specs.Prelude.{ℕ, zero, suc, List, [], ◌∷◌, ◌++◌, flat_map}
use Rattle.vl_flat.specs.Items.{Module}
use Rattle.vl_flat.specs.Environments.{Counts, module_counts, environment}
use Rattle.vl_flat.specs.Connections.{given}
use Rattle.vl_flat.specs.Flat.{Part, Inner, beginning, input_part, output_part, body, deepest, top_given}

-- how many signals and functions the module of a name has, with instances that stand so deep in one another
abbrev pub Sizes : Type 0
Sizes = ℕ → List ℕ → Counts

-- an instance, with what stands so deep in it
unfoldable pub instance_by : Sizes → ℕ → List Module → Inner
instance_by sizes zero ms above base us u m = []
instance_by sizes (suc n) ms above base us u m =
    let g = given above base us u m in
    let env = environment (sizes n) g m in
    beginning above.env g us
    ∷ (flat_map (λ t. input_part above env m u t.name) m.ports
    ++ (body (instance_by sizes n ms) (sizes n) ms above.behind env g m
    ++ flat_map (λ t. output_part above env m u t.name) m.ports))

-- the parts of the flat design, in order
abbrev pub parts_by : Sizes → List Module → Module → List Part
parts_by sizes ms m =
    let g = top_given m in
    body (instance_by sizes deepest ms) (sizes deepest) ms (module_counts (sizes deepest) m).signals (environment (sizes deepest) g m) g m
