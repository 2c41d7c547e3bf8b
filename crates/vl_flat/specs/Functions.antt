-- Functions in the design (IEEE 1364-2005, clause 10.4): their locals are numbered behind the design's signals.
use Rattle.std.specs.Prelude.{ℕ, ◌+◌, pos, not, ◌&&◌, List, [], ◌∷◌, ◌++◌, map, flat_map, if◌then◌else◌}
use Rattle.vl_tree.specs.declared.tree.Identifier.{Identifier}
use Rattle.vl_design.specs.declared.design.Signal.{Signal}
use Rattle.vl_design.specs.declared.design.SigKind.{SigKind}
use Rattle.vl_design.specs.declared.design.SigKind.TheVariants.{Var, Loop}
use Rattle.vl_flat.specs.declared.binding.Binding.TheVariants as b
use Rattle.vl_flat.specs.declared.binding.Shape.{Shape}
use Rattle.vl_design.specs.declared.stop.Stop.{Stop}
use Rattle.vl_flat.specs.Items.{Local, Function}
use Rattle.vl_design.specs.Placed.{Func}
use Rattle.vl_flat.specs.Scopes.{Env, Scope, bind}
use Rattle.vl_flat.specs.Uses.{controls, strays}
use Rattle.vl_flat.specs.Ranges.{type_range, type_faults, is_signed, has_range}
use Rattle.vl_flat.specs.Statements.{statement, statement_faults}

abbrev pub local_kind : Function → Local → SigKind
local_kind a l =
    let t = l.name.name in
    if l.is_free && (controls t a.body && not (strays t a.body)) then Loop else Var

-- ranges stand in the module's scope
abbrev pub local_shape : Env → Function → Local → Shape
local_shape env a l = record {
  kind = local_kind a l;
  signed = is_signed l.type;
  ranged = has_range l.type;
  left = (type_range env l.type).0;
  right = (type_range env l.type).1;
  first = pos 0;
  last = pos 0;
}

-- the names of a module with a function's own, numbered from n on
abbrev pub with_locals : Env → Env → Function → ℕ → List Local → Env
with_locals module_env env a n [] = env
with_locals module_env env a n (l ∷ ls) =
    with_locals module_env (bind env l.name.name (b.Signal n (local_shape module_env a l))) a (n + 1) ls

-- behind tells the number of the design's signals
abbrev pub function_scope : ℕ → Env → Function → Scope
function_scope behind env a = record { names = with_locals env env a behind a.locals; calls = env }

-- a name behind a path and a dot
abbrev pub dotted : List ℕ → List ℕ → List ℕ
dotted path name = path ++ 46 ∷ name

abbrev pub signal : List ℕ → Identifier → Shape → Signal
signal path n s = record {
  name = dotted path n.name;
  place = n.place;
  kind = s.kind;
  signed = s.signed;
  left = s.left;
  right = s.right;
  first = s.first;
  last = s.last;
}

-- the numbers of the inputs, the first variable having this number
abbrev pub input_numbers : ℕ → List Local → List ℕ
input_numbers n [] = []
input_numbers n (l ∷ ls) = if l.is_input then n ∷ input_numbers (n + 1) ls else input_numbers (n + 1) ls

-- a function of an instance of this path
abbrev pub function : ℕ → Env → List ℕ → Function → Func
function behind env path a =
    let name = dotted path a.name.name in
    record {
      name = name;
      place = a.name.place;
      inputs = input_numbers behind a.locals;
      result = behind;
      locals = map (λ l. signal name l.name (local_shape env a l)) a.locals;
      body = statement (function_scope behind env a) a.body;
    }

abbrev pub function_faults : ℕ → Env → Function → List Stop
function_faults behind env a =
    flat_map (λ l. type_faults env l.type l.name.place) a.locals
    ++ statement_faults (function_scope behind env a) a.body
