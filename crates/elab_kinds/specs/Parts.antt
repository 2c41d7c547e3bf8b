-- What the program's selects, arguments and items of a case do with a name.
use Rattle.std.specs.Prelude.{ℕ, Bool, false, ◌||◌, List, Option}
use Rattle.std.specs.List.{list_any}
use Rattle.std.specs.Option.{option_map_or}
use Rattle.elab_plain.specs.declared.surface.Ex.{Ex}
use Rattle.elab_plain.specs.declared.surface.Left.{Left}
use Rattle.elab_plain.specs.declared.surface.Statement.{Statement}
use Rattle.elab_plain.specs.declared.surface.Select as s
use Rattle.elab_plain.specs.declared.surface.Argument as a
use Rattle.elab_plain.specs.declared.surface.CaseItem as c
use Rattle.elab_plain.specs.Seen.{seen}
use Rattle.elab_plain.specs.SeenStatements.{seen_left, seen_statement}
use Rattle.elab_plain.specs.vl_flat.specs.Uses.{uses, left_uses, left_writes, controls, strays, writes}

-- the expression names t
abbrev pub ex_uses : List ℕ → Ex → Bool
ex_uses t e = uses t (seen e)

-- the select names t
abbrev pub select_uses : List ℕ → s.Select → Bool
select_uses t (s.Index q i) = uses t (seen i)
select_uses t (s.Range q mark l r) = uses t (seen l) || uses t (seen r)

-- the argument names t
abbrev pub argument_uses : List ℕ → a.Argument → Bool
argument_uses t a.Null = false
argument_uses t (a.Value e) = uses t (seen e)

-- the left side names t
abbrev pub target_uses : List ℕ → Left → Bool
target_uses t l = left_uses t (seen_left l)

-- the left side writes t
abbrev pub target_writes : List ℕ → Left → Bool
target_writes t l = left_writes t (seen_left l)

-- the statement has a `for` that t controls; it names t outside of those; it writes t
abbrev pub controls_in : List ℕ → Statement → Bool
controls_in t a = controls t (seen_statement a)

abbrev pub strays_in : List ℕ → Statement → Bool
strays_in t a = strays t (seen_statement a)

abbrev pub writes_in : List ℕ → Statement → Bool
writes_in t a = writes t (seen_statement a)

-- the same of an item of a case
abbrev pub case_controls : List ℕ → c.CaseItem → Bool
case_controls t (c.Labelled labels a) = controls_in t a
case_controls t (c.Default a) = controls_in t a

abbrev pub case_strays : List ℕ → c.CaseItem → Bool
case_strays t (c.Labelled labels a) = list_any (ex_uses t) labels.items || strays_in t a
case_strays t (c.Default a) = strays_in t a

abbrev pub case_writes : List ℕ → c.CaseItem → Bool
case_writes t (c.Labelled labels a) = writes_in t a
case_writes t (c.Default a) = writes_in t a

-- the value, if there is one, names t
abbrev pub optional_ex_uses : List ℕ → Option Ex → Bool
optional_ex_uses t e = option_map_or (ex_uses t) e false
