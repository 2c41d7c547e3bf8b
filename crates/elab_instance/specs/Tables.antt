-- What the program's tables of connections and of names stand for.
use Rattle.std.specs.Prelude.{ℕ, nat_eq, Bool, ◌||◌, List, [], ◌∷◌, fold, map, flat_map, Option, Some, None, option_map, if◌then◌else◌}
use Rattle.std.specs.List.{list_any}
use Rattle.std.specs.Option.{option_or, option_map_or}
use Rattle.std.specs.Borrow.{Bor}
use Rattle.std.specs.Str.{bytes_eq}
use Rattle.indexmap.specs.IndexMap.{IndexMap, get_by}
use Rattle.indexmap.specs.IndexSet.{IndexSet, contains}
use Rattle.elab_plain.specs.vl_flat.specs.Items as x
use Rattle.elab_plain.specs.vl_flat.specs.Scopes.{Env, Scope}
use Rattle.elab_plain.specs.declared.items.Connection.{Connection}
use Rattle.elab_plain.specs.SeenItems.{seen_connection}
use Rattle.elab_constant.specs.Seen.{names_of}

-- what references point to
abbrev pub nows : {X : Type 0} → List (Bor X) → List X
nows refs = map (λ r. r.now) refs

-- the scope of a function whose own names stand in this environment
abbrev pub inside : Env → Env → Scope
inside env locals = record { names = names_of (Some locals) env; calls = env }

-- the connection of each name
abbrev pub Joined : Type 0
Joined = List ℕ → Option x.Connection

-- a table of connections
unfoldable pub joined : {S : Type 0} → IndexMap (Bor (List ℕ)) (Bor Connection) S → Joined
joined m t = option_map (λ q. seen_connection q.now) (get_by (λ k. bytes_eq t k.now) m)

-- no name has a connection
abbrev pub none : Joined
none t = None

-- one more name has a connection: the first that it is given stays
unfoldable pub connect : Joined → List ℕ → x.Connection → Joined
connect before name q t = option_or (before t) (if bytes_eq t name then Some q else None)

-- the same where there is a connection
abbrev pub connect_if : Joined → List ℕ → Option x.Connection → Joined
connect_if before name q = option_map_or (connect before name) q before

-- a name has its connection of another table too
abbrev pub take_over : Joined → Joined → List ℕ → Joined
take_over given before name = connect_if before name (given name)

-- a connection by name
abbrev pub connect_named : Joined → x.Connection → Joined
connect_named before q = option_map_or (λ name. connect before name q) q.name before

-- connections by order, and by name, of names not known yet
abbrev pub in_order_from : Joined → List (List ℕ) → List x.Connection → Joined
in_order_from before [] qs = before
in_order_from before (n ∷ ns) [] = before
in_order_from before (n ∷ ns) (q ∷ qs) = in_order_from (connect before n q) ns qs

abbrev pub in_order : List (List ℕ) → List x.Connection → Joined
in_order = in_order_from none

abbrev pub named : List x.Connection → Joined
named qs = fold connect_named none qs

abbrev pub among : List (List ℕ) → List x.Connection → Joined
among names qs = fold (take_over (named qs)) none names
