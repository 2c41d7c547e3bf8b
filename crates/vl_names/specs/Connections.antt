-- The faults of a list of connections to ports, or of overrides of parameters: refused construct 7 (IEEE 1364-2005, clauses
-- 12.2.2, 12.3.5 and 12.3.6).
use Rattle.std.specs.Prelude.{◌≡◌, ℕ, ◌≤◌, Bool, true, false, not, ◌||◌, nat_le, if◌then◌else◌, List, [], ◌∷◌, ◌++◌, length, flat_map, Option, None}
use Rattle.std.specs.List.{list_all}
use Rattle.vl_scope.specs.vl_base.specs.declared.place.Place.{Place}
use Rattle.vl_scope.specs.vl_tree.specs.declared.tree.Identifier.{Identifier}
use Rattle.vl_scope.specs.vl_tree.specs.declared.tree.Expression.{Expression}
use Rattle.vl_scope.specs.vl_tree.specs.declared.source_tree.Connection.{Connection}
use Rattle.vl_scope.specs.vl_tree.specs.declared.source_tree.Connection.TheVariants.{Ordered, Named}
use Rattle.vl_scope.specs.declared.fault.Fault.{Fault}
use Rattle.vl_scope.specs.DeclarationFaults.{names_have}
use Rattle.vl_scope.specs.Faults.{at, In, fault_if, each_after}

-- where a connection stands
abbrev pub place_of : Connection → Place
place_of (Ordered p e) = p
place_of (Named p n e) = p

-- a connection is by name
abbrev pub is_named : Connection → Bool
is_named (Ordered p e) = false
is_named (Named p n e) = true

-- a connection is by name, where it is to be so, or else by order
abbrev pub has_form : Bool → Connection → Bool
has_form named c = if named then is_named c else not (is_named c)

-- c is by name, or by order, as the first is
abbrev pub is_as : Connection → Connection → Bool
is_as first c = has_form (is_named first) c

-- the name that a connection gives
abbrev pub given_name : Connection → List Identifier
given_name (Ordered p e) = []
given_name (Named p n e) = n ∷ []

-- the names that a list of connections gives
abbrev pub given : List Connection → List Identifier
given cs = flat_map given_name cs

-- one connection by order with nothing in it: so an empty list reads
abbrev pub is_nothing : List Connection → Bool
is_nothing (Ordered p None ∷ []) = true
is_nothing _ = false

-- the faults of a list of connections against the names of ports or parameters, in order
pub data IsConnectionFault (names : List Identifier) (cs : List Connection) : Fault → Type 0 where
  -- a name that isn't there
  unknown : (p : Place) (n : Identifier) (e : Option Expression) → In (Named p n e) cs → names_have names n.name ≡ false → IsConnectionFault names cs (at p 7)
  -- a name given twice: at the later
  given_twice : (before after : List Connection) (p : Place) (n : Identifier) (e : Option Expression) → cs ≡ before ++ Named p n e ∷ after → names_have (given before) n.name ≡ true → IsConnectionFault names cs (at p 7)
  -- one by order for which no name is left
  past : (before after : List Connection) (p : Place) (e : Option Expression) → cs ≡ before ++ Ordered p e ∷ after → length names ≤ length before → is_nothing cs ≡ false → IsConnectionFault names cs (at p 7)
  -- connections by order and by name: at the first that isn't as the list's first one
  mixed : (first c : Connection) (before after : List Connection) → cs ≡ first ∷ before ++ c ∷ after → list_all (is_as first) before ≡ true → is_as first c ≡ false → IsConnectionFault names cs (at (place_of c) 7)

-- ---- the same as a list, by a test of which names are there, and by their count

-- the fault of a name that isn't there or was given before
abbrev pub naming_fault : (List ℕ → Bool) → List Connection → Connection → List Fault
naming_fault there before (Ordered p e) = []
naming_fault there before (Named p n e) = fault_if (not (there n.name) || names_have (given before) n.name) p 7

-- the fault of a connection by order for which no name is left
abbrev pub past_fault : ℕ → List Connection → Connection → List Fault
past_fault count before (Ordered p e) = fault_if (nat_le count (length before)) p 7
past_fault count before (Named p n e) = []

-- the fault of the first connection that isn't of the form
abbrev pub other_faults : Bool → List Connection → List Fault
other_faults named [] = []
other_faults named (c ∷ cs) = if has_form named c then other_faults named cs else (at (place_of c) 7 ∷ [])

-- the fault of the first connection that isn't as the first
abbrev pub mixed_faults : List Connection → List Fault
mixed_faults [] = []
mixed_faults (first ∷ cs) = other_faults (is_named first) cs

-- the faults of a list
abbrev pub connection_faults : (List ℕ → Bool) → ℕ → List Connection → List Fault
connection_faults there count cs =
    each_after (naming_fault there) [] cs
    ++ ((if is_nothing cs then [] else each_after (past_fault count) [] cs)
    ++ mixed_faults cs)
