-- What a scope knows.
use Rattle.std.specs.Prelude.{ℕ, List, Option}
use Rattle.std.specs.Option.{option_or}
use Rattle.vl_scope.specs.Keys.{value_at}
use Rattle.vl_scope.specs.declared.kind.Kind.{Kind}
use Rattle.vl_scope.specs.declared.scope.Scope.{Scope}

-- what a spelling means in a scope
unfoldable pub look : Scope → List ℕ → Option Kind
look s t = value_at s.kinds t

-- what a spelling means in a scope inside another
abbrev pub look_within : Scope → Scope → List ℕ → Option Kind
look_within outer inner t = option_or (look inner t) (look outer t)
