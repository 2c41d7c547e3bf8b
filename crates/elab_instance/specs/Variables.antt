-- What the program's variables of functions stand for.
use Rattle.std.specs.Prelude.{◌≡◌, ℕ, ◌+◌, ℤ, pos, Bool, List, [], ◌∷◌, map}
use Rattle.elab_plain.specs.vl_design.specs.declared.design.SigKind.{SigKind}
use Rattle.elab_plain.specs.vl_flat.specs.declared.binding.Shape.{Shape}
use Rattle.elab_plain.specs.vl_flat.specs.declared.binding.Binding.TheVariants as b
use Rattle.elab_plain.specs.vl_flat.specs.Scopes.{Env, bind}
use Rattle.elab_plain.specs.vl_flat.specs.Ranges.{type_range, is_signed, has_range}
use Rattle.elab_plain.specs.vl_flat.specs.Items as x
use Rattle.elab_plain.specs.SeenItems.{seen_local, seen_type}
use Rattle.elab_kinds.specs.Facts.{BodyFacts, body_facts, body_facts_of, free_kind}
use Rattle.elab_instance.specs.declared.variables.Variable.{Variable}
use Rattle.elab_instance.specs.declared.variables.Frame.{Frame}

abbrev pub seen_variable : Variable → x.Local
seen_variable v = seen_local (seen_type v.kind.now) v.is_input v.is_free v.name.now

-- what is no memory, of these bits
abbrev pub plain_shape : SigKind → Bool → Bool → ℤ × ℤ → Shape
plain_shape kind signed ranged range = record { kind = kind; signed = signed; ranged = ranged; left = range.0; right = range.1; first = pos 0; last = pos 0 }

-- the variables are the function's, and the table is of its body
pub record IsFrame (frame : Frame) (f : x.Function) : Type 0 where
  pub variables : map seen_variable frame.variables.items ≡ f.locals
  pub roles : body_facts_of frame.roles ≡ body_facts f.body

-- ---- of a function in a module with these names, where so much is known of each name in its body

abbrev pub local_shape : Env → (List ℕ → BodyFacts) → x.Local → Shape
local_shape env told l = plain_shape (free_kind l.is_free (told l.name.name)) (is_signed l.type) (has_range l.type) (type_range env l.type)

-- a variable's meaning among the function's own
abbrev pub with_local : Env → (List ℕ → BodyFacts) → ℕ → Env → x.Local → Env
with_local env told n locals l = bind locals l.name.name (b.Signal n (local_shape env told l))

-- the meanings of variables that are numbered from n on
abbrev pub with_own : Env → (List ℕ → BodyFacts) → ℕ → Env → List x.Local → Env
with_own env told n locals [] = locals
with_own env told n locals (l ∷ ls) = with_own env told (n + 1) (with_local env told n locals l) ls
