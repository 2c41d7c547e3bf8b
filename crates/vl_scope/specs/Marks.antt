-- What is known of the declarations of a name so far, as far as later ones depend on it.
use Rattle.std.specs.Prelude.{ℕ, Bool, false, ◌&&◌, ◌||◌, if◌then◌else◌, List, fold, is_some, unwrap_or}
use Rattle.std.specs.Borrow.{Bor}
use Rattle.std.specs.Str.{bytes_eq}
use Rattle.indexmap.specs.IndexMap.{IndexMap}
use Rattle.vl_scope.specs.declared.marks.Marks.{Marks}
use Rattle.vl_scope.specs.Declarations.{Declared}
use Rattle.vl_scope.specs.DeclarationFaults.{is_input, is_no_port, is_memory, is_stored}
use Rattle.vl_scope.specs.Keys.{value_at}

-- what one declaration says
abbrev pub marks_of : Declared → Marks
marks_of a = record {
  directed = is_some a.direction;
  typed = a.typed;
  no_port = is_no_port a.kind.class;
  input = is_input a.direction;
  stored = is_stored a.kind.class;
  memory = is_memory a.kind.class;
}

-- what no declaration says
abbrev pub no_marks : Marks
no_marks = record { directed = false; typed = false; no_port = false; input = false; stored = false; memory = false }

-- what one or the other says
abbrev pub either : Marks → Marks → Marks
either a b = record {
  directed = a.directed || b.directed;
  typed = a.typed || b.typed;
  no_port = a.no_port || b.no_port;
  input = a.input || b.input;
  stored = a.stored || b.stored;
  memory = a.memory || b.memory;
}

-- what is known of a spelling after one more declaration
abbrev pub marks_after : List ℕ → Marks → Declared → Marks
marks_after t known a = if bytes_eq t a.name.name then either known (marks_of a) else known

-- what declarations say of a spelling
abbrev pub marks_in : List Declared → List ℕ → Marks
marks_in ds t = fold (marks_after t) no_marks ds

-- one of the declarations known clashes with a further one
abbrev pub clash_of : Marks → Marks → Bool
clash_of a b = (a.directed && b.directed) || (a.typed && b.typed) || (a.directed && b.no_port) || (a.no_port && b.directed)

-- one of the declarations known doesn't match a further one
abbrev pub mismatch_of : Marks → Marks → Bool
mismatch_of a b = (a.input && b.stored) || (a.stored && b.input) || (a.directed && b.memory) || (a.memory && b.directed)

-- what a map knows of a spelling
abbrev pub marks_at : {S : Type 0} → IndexMap (Bor (List ℕ)) Marks S → List ℕ → Marks
marks_at m t = unwrap_or (value_at m t) no_marks
