-- What the program's tables of names stand for.
use Rattle.std.specs.Prelude.{ℕ, List, Option, Some, None, option_map}
use Rattle.std.specs.Borrow.{Bor}
use Rattle.std.specs.Str.{bytes_eq}
use Rattle.indexmap.specs.IndexMap.{IndexMap, get_by}
use Rattle.elab_plain.specs.vl_flat.specs.declared.binding.Binding.{Binding}
use Rattle.elab_plain.specs.vl_flat.specs.declared.binding.Binding.TheVariants as b
use Rattle.elab_plain.specs.vl_flat.specs.Scopes.{Env, Scope}
use Rattle.elab_constant.specs.declared.scope.Known.{Known}
use Rattle.elab_constant.specs.declared.scope.Known.TheVariants as k
use Rattle.elab_constant.specs.declared.scope.Scope.{Scope as Tables}

abbrev pub binding_of : Known → Binding
binding_of (k.Constant v) = b.Constant (record { value = v.bits.value; width = v.bits.width; signed = v.signed; left = v.left; right = v.right })
binding_of (k.Signal n s) = b.Signal n s
binding_of (k.Function n f) = b.Function n f

-- a table as a function from names
abbrev pub look : {S : Type 0} → IndexMap (Bor (List ℕ)) Known S → Env
look m = λ t. option_map binding_of (get_by (λ k. bytes_eq t k.now) m)

-- the first of two that is there
abbrev pub first_of : Option Binding → Option Binding → Option Binding
first_of None b = b
first_of (Some a) b = Some a

abbrev pub names_of : Option Env → Env → Env
names_of None outer = outer
names_of (Some inner) outer = λ t. first_of (inner t) (outer t)

abbrev pub seen_scope : Tables → Scope
seen_scope s = record { names = names_of (option_map (λ l. look l.now) s.locals) (look s.module.now); calls = look s.module.now }
