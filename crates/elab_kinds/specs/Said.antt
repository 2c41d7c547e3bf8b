-- What the declarations of a module say of a name.
use Rattle.std.specs.Prelude.{ℕ, Bool, false, ◌&&◌, ◌||◌, List, is_some, unwrap_or}
use Rattle.std.specs.List.{list_any}
use Rattle.std.specs.Borrow.{Bor}
use Rattle.std.specs.Str.{bytes_eq}
use Rattle.indexmap.specs.IndexMap.{IndexMap, get_by}
use Rattle.elab_plain.specs.vl_flat.specs.Items as x
use Rattle.elab_plain.specs.vl_flat.specs.Kinds.{gives_input}
use Rattle.elab_plain.specs.declared.items.Declared.{Declared}
use Rattle.elab_kinds.specs.declared.declared.Declaration.{Declaration}

-- nothing is said
abbrev pub unsaid : Declaration
unsaid = record { input = false; valued = false; memory = false; variable = false }

-- what one or the other says
abbrev pub either : Declaration → Declaration → Declaration
either a b = record { input = a.input || b.input; valued = a.valued || b.valued; memory = a.memory || b.memory; variable = a.variable || b.variable }

-- what a declaration says of its name
abbrev pub declaration_of : Declared → Declaration
declaration_of d = record { input = gives_input d.direction; valued = is_some d.value; memory = is_some d.words; variable = d.variable }

-- one of the declarations of t passes the test
abbrev pub any_said : (x.Declared → Bool) → List x.Declared → List ℕ → Bool
any_said test ds t = list_any (λ d. bytes_eq t d.name.name && test d) ds

-- what declarations say of t
abbrev pub said : List x.Declared → List ℕ → Declaration
said ds t = record {
  input = any_said (λ d. gives_input d.direction) ds t;
  valued = any_said (λ d. is_some d.value) ds t;
  memory = any_said (λ d. is_some d.words) ds t;
  variable = any_said (λ d. d.variable) ds t;
}

-- what a table says of t
abbrev pub declaration_at : {S : Type 0} → IndexMap (Bor (List ℕ)) Declaration S → List ℕ → Declaration
declaration_at m t = unwrap_or (get_by (λ k. bytes_eq t k.now) m) unsaid
