-- Names without their numbers: types, parameters, and faults of declarations and connections are the same.
use Rattle.std.proofs.Common.{◌≡◌, ℕ, Bool, true, false, if◌then◌else◌, List, [], ◌∷◌, ◌++◌, Option, Some, None, refl, ◌∙◌, ◌&&◌, not}
use Rattle.std.specs.Prelude.{ℤ, pos, nat_lt, flat_map, option_map}
use Rattle.std.specs.Option.{option_map_or}
use Rattle.vl_flat.specs.vl_base.specs.declared.place.Place.{Place}
use Rattle.vl_flat.specs.vl_design.specs.declared.design.Form.{Form}
use Rattle.vl_flat.specs.vl_design.specs.declared.design.SigKind.{SigKind}
use Rattle.vl_flat.specs.vl_design.specs.declared.stop.Stop.{Stop}
use Rattle.vl_flat.specs.vl_design.specs.declared.stop.Stop.TheVariants.{Construct}
use Rattle.vl_flat.specs.vl_design.specs.Stops.{construct_if}
use Rattle.vl_flat.specs.vl_design.specs.Placed.{Exp}
use Rattle.vl_flat.specs.declared.binding.Binding.{Binding}
use Rattle.vl_flat.specs.declared.binding.Binding.TheVariants as b
use Rattle.vl_flat.specs.declared.binding.Constant.{Constant}
use Rattle.vl_flat.specs.declared.binding.Shape.{Shape}
use Rattle.vl_flat.specs.Surface as x
use Rattle.vl_flat.specs.Items as t
use Rattle.vl_flat.specs.Scopes.{Env, plainly}
use Rattle.vl_flat.specs.Constants.{is_bound, bound_of}
use Rattle.vl_flat.specs.Expressions as e
use Rattle.vl_flat.specs.Ranges as r
use Rattle.vl_flat.specs.Parameters as q
use Rattle.vl_flat.specs.Environments.{shape}
use Rattle.vl_flat.specs.Functions.{local_kind, local_shape}
use Rattle.vl_flat.specs.Processes as s
use Rattle.vl_flat.specs.Connections as c
use Rattle.vl_sound.specs.Bare.{bare_of, bare_env}
use Rattle.vl_sound.proofs.ExpressionsOfAlike.{constant-test, constant-kept, must-kept, faults-kept}
use Rattle.vl_sound.proofs.StatementsOfAlike.{target-kept}

clock-kept : (o : Option Binding) → c.is_clock_binding (bare_of o) ≡ c.is_clock_binding o
clock-kept None = refl
clock-kept (Some (b.Constant a)) = refl
clock-kept (Some (b.Signal k a)) = refl
clock-kept (Some (b.Function k a)) = refl

net-kept : (o : Option Binding) → c.is_net (bare_of o) ≡ c.is_net o
net-kept None = refl
net-kept (Some (b.Constant a)) = refl
net-kept (Some (b.Signal k a)) = refl
net-kept (Some (b.Function k a)) = refl

module _ (env : Env) where
  abbrev less : Env
  less = bare_env env

  -- ---- types

  bounds-kept : (a : t.Bounds) → r.bounds_of less a ≡ r.bounds_of env a
  bounds-kept a = λ i. (bound_of (constant-kept (plainly env) a.left i), bound_of (constant-kept (plainly env) a.right i))

  optional-kept : (a : Option t.Bounds) → r.optional_bounds less a ≡ r.optional_bounds env a
  optional-kept None = refl
  optional-kept (Some a) = bounds-kept a

  written-kept : (a : t.DataType) → r.written less a ≡ r.written env a
  written-kept t.Integer = refl
  written-kept (t.Vector signed range) = optional-kept range

  wide-kept : (a : t.DataType) → r.is_wide less a ≡ r.is_wide env a
  wide-kept a = λ i. nat_lt 128 (r.bits_in (written-kept a i))

  pub range-kept : (a : t.DataType) → r.type_range less a ≡ r.type_range env a
  range-kept a = λ i. if wide-kept a i then r.too_wide (written-kept a i) else written-kept a i

  parameter-range-kept : (a : t.DataType) → r.parameter_range less a ≡ r.parameter_range env a
  parameter-range-kept a = λ i. if wide-kept a i then (pos 0, pos 0) else written-kept a i

  pub form-kept : (a : t.DataType) → r.type_form less a ≡ r.type_form env a
  form-kept a = λ i. record { width = r.bits_in (range-kept a i); signed = r.is_signed a }

  pub shape-kept : (kind : SigKind) (d : t.Declared) → shape less kind d ≡ shape env kind d
  shape-kept kind d = λ i. record {
    kind = kind;
    signed = r.is_signed d.type;
    ranged = r.has_range d.type;
    left = (range-kept d.type i).0;
    right = (range-kept d.type i).1;
    first = (optional-kept d.words i).0;
    last = (optional-kept d.words i).1;
  }

  pub local-kept : (a : t.Function) (l : t.Local) → local_shape less a l ≡ local_shape env a l
  local-kept a l = λ i. record (local_shape env a l) { left = (range-kept l.type i).0; right = (range-kept l.type i).1 }

  bound-faults-kept : (a : x.Ex) → r.bound_faults less a ≡ r.bound_faults env a
  bound-faults-kept a = λ i. faults-kept (plainly env) a i ++ must-kept (plainly env) is_bound a 10 i

  range-faults-kept : (a : Option t.Bounds) → r.range_faults less a ≡ r.range_faults env a
  range-faults-kept None = refl
  range-faults-kept (Some a) = λ i. bound-faults-kept a.left i ++ bound-faults-kept a.right i

  pub type-faults-kept : (a : t.DataType) (at : Place) → r.type_faults less a at ≡ r.type_faults env a at
  type-faults-kept a at = λ i. range-faults-kept (r.range_in a) i ++ construct_if (wide-kept a i) at 10

  -- ---- parameters

  converted-kept : (a : t.DataType) (v : Exp) → q.converted less a v ≡ q.converted env a v
  converted-kept t.Integer v = λ i. q.ranged v (parameter-range-kept t.Integer i) true
  converted-kept (t.Vector signed None) v = refl
  converted-kept (t.Vector signed (Some y)) v = λ i. q.ranged v (parameter-range-kept (t.Vector signed (Some y)) i) signed

  value-of-kept : (o : Option Exp) (a : t.Parameter) → q.value_of less o a ≡ q.value_of env o a
  value-of-kept (Some y) a = refl
  value-of-kept None a = constant-kept (plainly env) a.value

  pub parameter-kept : (type : t.DataType) (o : Option Exp) (a : t.Parameter) → q.converted less type (q.value_of less o a) ≡ q.converted env type (q.value_of env o a)
  parameter-kept type o a = converted-kept type (q.value_of less o a) ∙ (λ i. q.converted env type (value-of-kept o a i))

  value-faults-kept : (o : Option Exp) (a : t.Parameter) → q.value_faults less o a ≡ q.value_faults env o a
  value-faults-kept (Some y) a = refl
  value-faults-kept None a = faults-kept (plainly env) a.value

  pub parameter-faults-kept : (type : t.DataType) (o : Option Exp) (a : t.Parameter) → q.parameter_faults less type o a ≡ q.parameter_faults env type o a
  parameter-faults-kept type o a = λ i. type-faults-kept type a.name.place i ++ value-faults-kept o a i

  -- ---- declarations

  binding-faults-kept : (d : t.Declared) (o : Option Binding) → s.binding_faults less d (bare_of o) ≡ s.binding_faults env d o
  binding-faults-kept d None = refl
  binding-faults-kept d (Some (b.Constant a)) = refl
  binding-faults-kept d (Some (b.Function k a)) = refl
  binding-faults-kept d (Some (b.Signal k a)) =
      λ i. construct_if (s.is_clock a.kind && nat_lt 1 (r.bits_in (range-kept d.type i))) d.name.place 12
      ++ construct_if (not (s.is_alike (r.is_signed d.type) (r.has_range d.type) (range-kept d.type i) a)) d.name.place 12

  pub optional-faults-kept : (a : Option x.Ex) → s.optional_faults less a ≡ s.optional_faults env a
  optional-faults-kept a = λ i. option_map_or (λ y. faults-kept (plainly env) y i) a []

  pub declared-faults-kept : (d : t.Declared) → s.declared_faults less d ≡ s.declared_faults env d
  declared-faults-kept d =
      λ i. type-faults-kept d.type d.name.place i
      ++ (range-faults-kept d.words i ++ (binding-faults-kept d (env d.name.name) i ++ optional-faults-kept d.value i))

  pub assignment-faults-kept : (a : t.Setting) → s.assignment_faults less a ≡ s.assignment_faults env a
  assignment-faults-kept a = λ i. target-kept (plainly env) a.target i ++ faults-kept (plainly env) a.value i

  -- ---- connections

  pub override-kept : (m : t.Module) (a : t.Instances) → c.override less m a ≡ c.override env m a
  override-kept m a = λ i n. option_map (λ y. constant-kept (plainly env) y i) (c.expression_of (c.named_connection (c.spelled m.parameters) a.overrides n))

  pub override-faults-kept : (a : t.Instances) → c.override_faults less a ≡ c.override_faults env a
  override-faults-kept a = λ i. flat_map (λ (y : t.Connection). optional-faults-kept y.value i) a.overrides

  clock-name-kept : (a : x.Ex) → c.is_clock_name less a ≡ c.is_clock_name env a
  clock-name-kept (x.Number at n) = refl
  clock-name-kept (x.Text at text) = refl
  clock-name-kept (x.Named at name x.NoSelects) = clock-kept (env name)
  clock-name-kept (x.Named at name (x.Index w j others)) = refl
  clock-name-kept (x.Named at name (x.Range w mark l h others)) = refl
  clock-name-kept (x.Paren at a) = clock-name-kept a
  clock-name-kept (x.Unary at op a) = refl
  clock-name-kept (x.Binary at op a y) = refl
  clock-name-kept (x.Choice at w a y) = refl
  clock-name-kept (x.Joined at es) = refl
  clock-name-kept (x.Repeated at n es) = refl
  clock-name-kept (x.Called at name es) = refl
  clock-name-kept (x.System at name given) = refl

  pub clock-names-kept : c.is_clock_name less ≡ c.is_clock_name env
  clock-names-kept = λ i a. clock-name-kept a i

  pub clock-binding-kept : (n : List ℕ) → c.is_clock_binding (less n) ≡ c.is_clock_binding (env n)
  clock-binding-kept n = clock-kept (env n)

  are-constant-kept : (ss : x.Selects) → c.are_constant less ss ≡ c.are_constant env ss
  are-constant-kept x.NoSelects = refl
  are-constant-kept (x.Index w a others) = λ i. constant-test (plainly env) a i && are-constant-kept others i
  are-constant-kept (x.Range w mark l h others) = λ i. constant-test (plainly env) l i && (constant-test (plainly env) h i && are-constant-kept others i)

  mutual
    nets-kept : (a : x.Ex) → c.are_nets less a ≡ c.are_nets env a
    nets-kept (x.Number at n) = refl
    nets-kept (x.Text at text) = refl
    nets-kept (x.Named at name ss) = λ i. net-kept (env name) i && are-constant-kept ss i
    nets-kept (x.Paren at a) = nets-kept a
    nets-kept (x.Unary at op a) = refl
    nets-kept (x.Binary at op a y) = refl
    nets-kept (x.Choice at w a y) = refl
    nets-kept (x.Joined at es) = all-nets-kept es
    nets-kept (x.Repeated at n es) = refl
    nets-kept (x.Called at name es) = refl
    nets-kept (x.System at name given) = refl

    all-nets-kept : (es : x.Exs) → c.all_nets less es ≡ c.all_nets env es
    all-nets-kept x.NoExs = refl
    all-nets-kept (x.MoreExs a es) = λ i. nets-kept a i && all-nets-kept es i

  pub input-faults-kept : (a : x.Ex) → c.input_faults less a ≡ c.input_faults env a
  input-faults-kept a = faults-kept (plainly env) a

  pub output-faults-kept : (at : Place) (a : x.Ex) → c.output_faults less at a ≡ c.output_faults env at a
  output-faults-kept at a = λ i. if nets-kept a i then target-kept (plainly env) (c.left_of a) i else Construct at 13 ∷ faults-kept (plainly env) a i
