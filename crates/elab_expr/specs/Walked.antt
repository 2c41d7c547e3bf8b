-- Labels, left sides, statements and items of cases in the design, one after another.
use Rattle.std.specs.Prelude.{List, [], ◌∷◌, fold, ℤ, None, Bool}
use Rattle.vl_base.specs.declared.place.Place.{Place}
use Rattle.vl_design.specs.declared.design.CaseItem.{CaseItem}
use Rattle.vl_design.specs.Placed as p
use Rattle.elab_plain.specs.vl_flat.specs.Scopes.{Scope}
use Rattle.elab_plain.specs.vl_flat.specs.Surface.{Selects}
use Rattle.elab_plain.specs.vl_flat.specs.Expressions.{label, steps}
use Rattle.elab_plain.specs.vl_flat.specs.Targets.{target, stepped}
use Rattle.elab_plain.specs.vl_flat.specs.Statements.{statement}
use Rattle.elab_plain.specs.vl_flat.specs.Connections.{left_of}
use Rattle.vl_design.specs.Seen.{exps_of, stm_of}
use Rattle.elab_plain.specs.declared.surface.Ex.{Ex}
use Rattle.elab_plain.specs.declared.surface.Left.{Left}
use Rattle.elab_plain.specs.declared.surface.Statement.{Statement}
use Rattle.elab_plain.specs.Seen.{seen}
use Rattle.elab_plain.specs.SeenStatements.{seen_left, seen_statement}

-- a bound label in the design
abbrev pub seen_label : Scope → Bool → Ex → p.Exp
seen_label scope wild e = label scope wild (seen e)

-- a bound left side in the design
abbrev pub seen_target : Scope → Left → p.Target
seen_target scope l = target scope (seen_left l)

-- a bound expression that an output is connected to, in the design
abbrev pub seen_output : Scope → Ex → p.Target
seen_output scope e = target scope (left_of (seen e))

-- left sides of the design one after another
abbrev pub targets_listed : List p.Target → p.Targets
targets_listed [] = p.NoTargets
targets_listed (t ∷ ts) = p.MoreTargets t (targets_listed ts)

-- a bound statement in the design
abbrev pub seen_stm : Scope → Statement → p.Stm
seen_stm scope a = statement scope (seen_statement a)

-- statements of the design one after another
abbrev pub stms_listed : List p.Stm → p.Stms
stms_listed [] = p.NoStms
stms_listed (a ∷ as') = p.MoreStms a (stms_listed as')

-- items of a case before others
abbrev pub item_with : CaseItem → p.Items → p.Items
item_with a others = p.MoreItems (exps_of a.labels.items) (stm_of a.body) others

abbrev pub items_with : List CaseItem → p.Items → p.Items
items_with [] others = others
items_with (a ∷ as') others = item_with a (items_with as' others)

-- a left side whose bits are numbered so behind selects
abbrev pub selected : Scope → Place → ℤ × ℤ → p.Target → Selects → p.Target
selected scope at r base ss = fold (stepped at) base (steps scope None r ss)
