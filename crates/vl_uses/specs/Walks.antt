-- What the private functions answer.
use Rattle.std.specs.Prelude.{◌≡◌, ℕ, Bool, true, false, if◌then◌else◌, List, [], ◌++◌, flat_map, Option, Some, None, option_map}
use Rattle.std.specs.Borrow.{Bor}
use Rattle.vl_scope.specs.declared.fault.Fault.{Fault}
use Rattle.vl_scope.specs.declared.scope.Scope.{Scope}
use Rattle.vl_scope.specs.Declarations.{Declared, kind_in}
use Rattle.vl_scope.specs.Scopes.{look, look_within}
use Rattle.vl_uses.specs.declared.names.Names.{Names}
use Rattle.vl_uses.specs.declared.formats.Mode.{Mode}
use Rattle.vl_uses.specs.declared.formats.Mode.TheVariants as m
use Rattle.vl_uses.specs.Calls.{shown_by, shown_after, shown_least, with_item}
use Rattle.vl_tree.specs.declared.tree.Expression.{Expression}
use Rattle.vl_tree.specs.declared.tree.Choice.{Choice, out-Choice}
use Rattle.vl_tree.specs.declared.tree.Link.{Link, out-Link}
use Rattle.vl_tree.specs.declared.tree.Unary.{Unary, out-Unary}
use Rattle.vl_tree.specs.declared.tree.Bound.{Bound, out-Bound}
use Rattle.vl_tree.specs.declared.tree.SystemArgument.{SystemArgument, out-SystemArgument}
use Rattle.vl_uses.specs.declared.setting.Setting.{Setting}
use Rattle.vl_uses.specs.Settings.{constantly, before_mark}
use Rattle.vl_uses.specs.Nodes.{Node, expression_nodes, primary_nodes, is_loaded, given}
use Rattle.vl_uses.specs.UseFaults.{Meanings, node_faults}

-- what an optional reference points to
abbrev pub pointed : {A : Type 0} → Option (Bor A) → Option A
pointed o = option_map (λ r. r.now) o

-- what names mean by the scopes of a module, of a function in it, and of that function without its result
abbrev pub scoped : Scope → Scope → Scope → Meanings
scoped outer inner called = record { read = look_within outer inner; called = look_within outer called }

-- what names mean by the program's scopes
abbrev pub means : Names → Meanings
means n = scoped n.outer.now n.inner.now n.called.now

-- a scope holds these declarations
abbrev pub Knows : Scope → List Declared → Type 0
Knows scope as' = (t : List ℕ) → look scope t ≡ kind_in as' t

-- the faults at parts
abbrev pub faults : Meanings → List Node → List Fault
faults m nodes = flat_map (node_faults m) nodes

-- an operand
abbrev pub unary_nodes : Setting → Unary → List Node
unary_nodes k a = primary_nodes k (out-Unary a).primary

-- an operand on the right of an operator
abbrev pub link_nodes : Setting → Link → List Node
link_nodes k a = unary_nodes k (out-Link a).operand

-- what stands behind a `?`
abbrev pub choice_nodes : Setting → Choice → List Node
choice_nodes k a = expression_nodes k (out-Choice a).chosen ++ expression_nodes k (out-Choice a).otherwise

-- a select, by its parts
abbrev pub bounds_nodes : Setting → Expression → Option Bound → List Node
bounds_nodes k first None = expression_nodes k first
bounds_nodes k first (Some a) = expression_nodes (before_mark (out-Bound a).mark k) first ++ expression_nodes (constantly k) (out-Bound a).bound

-- an argument of a call that loads a memory or doesn't
abbrev pub read_nodes : Setting → Bool → Expression → List Node
read_nodes k load a = if is_loaded load a then [] else expression_nodes k a

-- an argument that may be empty
abbrev pub argument_nodes : Setting → Bool → SystemArgument → List Node
argument_nodes k load a = given (read_nodes k load) (out-SystemArgument a).argument

-- how many arguments the rest of a format shows, by where it begins
abbrev pub shown_from : Mode → List ℕ → Option ℕ
shown_from m.Text cs = shown_by cs
shown_from m.Percent cs = shown_after cs
shown_from m.Zero cs = shown_least cs

-- an item more, or none
abbrev pub with_items : Bool → Option ℕ → Option ℕ
with_items true n = with_item true n
with_items false n = n

-- the rest of a format, behind a byte that has told how it goes on, and whether the byte ended an item
abbrev pub shown_next : Option (Mode × Bool) → List ℕ → Option ℕ
shown_next None cs = None
shown_next (Some next) cs = with_items next.1 (shown_from next.0 cs)
