-- What is known of the modules of a source.
use Rattle.std.specs.Prelude.{◌≡◌, ℕ, Bool, List, map, if◌then◌else◌}
use Rattle.elab_plain.specs.vl_flat.specs.Items as x
use Rattle.elab_plain.specs.vl_flat.specs.Environments as e
use Rattle.elab_plain.specs.vl_flat.specs.Flat.{Inner}
use Rattle.elab_plain.specs.SeenItems.{seen_module}
use Rattle.elab_kinds.specs.Facts.{facts, facts_of}
use Rattle.elab_kinds.specs.Sized.{Tells}
use Rattle.elab_kinds.specs.Places.{place_of, place_named}
use Rattle.vl_sound.specs.Sized.{Sizes, instance_by}
use Rattle.vl_elab.specs.declared.library.Library.{Library}

abbrev pub modules_of : Library → List x.Module
modules_of l = map seen_module l.modules.now

-- the sizes of these modules; or, where signals aren't numbered, no module has any
abbrev pub sizes_by : Bool → List x.Module → Sizes
sizes_by numbered ms = λ n. if numbered then e.size n ms else (λ t. e.no_more)

abbrev pub sizes_in : Library → Sizes
sizes_in l = sizes_by l.numbered (modules_of l)

-- the parts of an instance, by these sizes
abbrev pub instance_in : Library → ℕ → Inner
instance_in l n = instance_by (sizes_in l) n (modules_of l)

pub record IsLibrary (l : Library) : Type 0 where
  pub roles : map facts_of l.roles.items ≡ map facts (modules_of l)
  pub index : place_of l.index ≡ place_named (modules_of l)
  pub sizes : Tells l.sizes (sizes_in l)
