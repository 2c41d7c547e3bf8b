-- What is known of a name in a module, and in the body of a function.
use Rattle.std.specs.Prelude.{ℕ, Bool, not, ◌&&◌, List, is_some, if◌then◌else◌}
use Rattle.std.specs.List.{list_any}
use Rattle.elab_plain.specs.vl_design.specs.declared.design.SigKind.{SigKind}
use Rattle.elab_plain.specs.vl_design.specs.declared.design.SigKind.TheVariants.{Net, Var, Comb, Loop, Mem, Clock}
use Rattle.elab_plain.specs.vl_flat.specs.Surface as s
use Rattle.elab_plain.specs.vl_flat.specs.Items as x
use Rattle.elab_plain.specs.vl_flat.specs.Uses as u
use Rattle.elab_plain.specs.vl_flat.specs.Kinds as k
use Rattle.elab_kinds.specs.declared.roles.Roles.{Roles}
use Rattle.elab_kinds.specs.declared.locals.BodyRoles.{BodyRoles}
use Rattle.elab_kinds.specs.Names.{has}
use Rattle.elab_kinds.specs.Said.{declaration_at}

-- what the declarations of a name say, and what items do with it
pub record Facts : Type 0 where
  pub input : Bool
  pub valued : Bool
  pub memory : Bool
  pub variable : Bool
  pub controls : Bool
  pub strays : Bool
  pub writes : Bool

abbrev pub facts : x.Module → List ℕ → Facts
facts m t = record {
  input = k.is_input m t;
  valued = k.declared_as (λ d. is_some d.value) m t;
  memory = k.declared_as (λ d. is_some d.words) m t;
  variable = k.declared_as (λ d. d.variable) m t;
  controls = list_any (k.item_controls t) m.items;
  strays = list_any (k.item_strays t) m.items;
  writes = list_any (k.item_writes t) m.items;
}

-- what the tables say of a name
abbrev pub facts_of : Roles → List ℕ → Facts
facts_of r t = record {
  input = (declaration_at r.declared t).input;
  valued = (declaration_at r.declared t).valued;
  memory = (declaration_at r.declared t).memory;
  variable = (declaration_at r.declared t).variable;
  controls = has r.controls t;
  strays = has r.strays t;
  writes = has r.writes t;
}

-- the kind of a variable of which so much is known
abbrev pub variable_by : Facts → Bool → SigKind
variable_by f wired = if not wired && (not f.valued && (f.controls && not f.strays)) then Loop else if f.writes then Comb else Var

-- the kind of a name of which so much is known
abbrev pub kind_by : Facts → Bool → Bool → SigKind
kind_by f clock wired =
    if clock then Clock
    else if f.memory then Mem
    else if f.variable then variable_by f wired
    else Net

-- what a body does with a name
pub record BodyFacts : Type 0 where
  pub controls : Bool
  pub strays : Bool

abbrev pub body_facts : s.Statement → List ℕ → BodyFacts
body_facts a t = record { controls = u.controls t a; strays = u.strays t a }

abbrev pub body_facts_of : BodyRoles → List ℕ → BodyFacts
body_facts_of r t = record { controls = has r.controls t; strays = has r.strays t }

-- the kind of a function's variable of which so much is known
abbrev pub free_kind : Bool → BodyFacts → SigKind
free_kind is_free f = if is_free && (f.controls && not f.strays) then Loop else Var
