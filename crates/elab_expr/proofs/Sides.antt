-- Labels and left sides in the design.
use Rattle.std.proofs.Common.{◌≡◌, refl, ap, sym, ◌∙◌, true, false, List, [], ◌∷◌, map}
use Rattle.std.specs.Prelude.{Option}
use Rattle.std.specs.declared.alloc.Global.{Global}
use Rattle.std.specs.declared.vec.Vec.{Vec}
use Rattle.vl_base.specs.declared.place.Place.{Place}
use Rattle.vl_design.specs.declared.design.Target.{Target}
use Rattle.vl_design.specs.declared.design.TargetNode as d
use Rattle.vl_design.specs.declared.design.TargetNode.TheBlock as blk
use Rattle.elab_plain.specs.vl_flat.specs.Surface as x
use Rattle.vl_design.specs.Placed as p
use Rattle.elab_plain.specs.vl_flat.specs.Scopes.{Scope, range_of, number_of}
use Rattle.elab_plain.specs.vl_flat.specs.declared.binding.Binding.{Binding}
use Rattle.elab_plain.specs.vl_flat.specs.Expressions as flat
use Rattle.elab_plain.specs.vl_flat.specs.Expressions.{is_memory}
use Rattle.elab_plain.specs.vl_flat.specs.Targets as lefts
use Rattle.elab_plain.specs.vl_flat.specs.Connections as conn
use Rattle.vl_design.specs.Seen.{node_target, row_targets, target_of}
use Rattle.elab_plain.specs.declared.surface.Ex as e
use Rattle.elab_plain.specs.declared.surface.Left as l
use Rattle.elab_plain.specs.Seen.{seen}
use Rattle.elab_plain.specs.SeenStatements.{seen_left, lefts_of}
use Rattle.elab_plain.specs.Listed.{of_list}
use Rattle.elab_plain.proofs.LeftSides.{row_lefts-hidden}
use Rattle.elab_expr.specs.Walked as n
pub use Rattle.elab_plain.proofs.Shared.{left-list}

-- a name that is no memory's, and the word of a memory
pub written-plain : (S : Scope) (at : Place) (b : Option Binding) (ss : x.Selects) → is_memory b ≡ false → lefts.named S at b ss ≡ n.selected S at (range_of b) (p.Whole at (number_of b)) ss
written-plain S at b ss h = rw h refl

row_targets-items : {m : _} (k : d.Row_of-Target m) → row_targets k ≡ n.targets_listed (map target_of (d.items-the_row-Target m k))
row_targets-items d.end_of-Target = refl
row_targets-items (d.more_of-Target q v rest) = ap (p.MoreTargets (node_target q v)) (row_targets-items rest)

row_targets-hidden : (v : Vec Target Global) → row_targets (blk.hidden-the_row-Target-0 v) ≡ n.targets_listed (map target_of v.items)
row_targets-hidden v = row_targets-items (blk.hidden-the_row-Target-0 v) ∙ ap (λ z. n.targets_listed (map target_of z)) (d.items_hidden-the_row-Target-0 v)

targets-listed : (S : Scope) (ls : List l.Left) → lefts.targets S (lefts_of (map seen_left ls)) ≡ n.targets_listed (map (n.seen_target S) ls)
targets-listed S [] = refl
targets-listed S (a ∷ as') = ap (p.MoreTargets (n.seen_target S a)) (targets-listed S as')

outputs-listed : (S : Scope) (es : List e.Ex) → lefts.targets S (conn.lefts_of (of_list (map seen es))) ≡ n.targets_listed (map (n.seen_output S) es)
outputs-listed S [] = refl
outputs-listed S (a ∷ as') = ap (p.MoreTargets (n.seen_output S a)) (outputs-listed S as')

-- a row of nothing
pub row-nothing : (v : Vec Target Global) → v.items ≡ [] → row_targets (blk.hidden-the_row-Target-0 v) ≡ p.NoTargets
row-nothing v h = row_targets-hidden v ∙ ap (λ z. n.targets_listed (map target_of z)) h

-- a row of the left sides of a list
pub row-targets : (S : Scope) (v : Vec Target Global) (ls : List l.Left) → map target_of v.items ≡ map (n.seen_target S) ls → row_targets (blk.hidden-the_row-Target-0 v) ≡ lefts.targets S (lefts_of (map seen_left ls))
row-targets S v ls h = row_targets-hidden v ∙ (ap n.targets_listed h ∙ sym (targets-listed S ls))

pub row-outputs : (S : Scope) (v : Vec Target Global) (es : List e.Ex) → map target_of v.items ≡ map (n.seen_output S) es → row_targets (blk.hidden-the_row-Target-0 v) ≡ lefts.targets S (conn.lefts_of (of_list (map seen es)))
row-outputs S v es h = row_targets-hidden v ∙ (ap n.targets_listed h ∙ sym (outputs-listed S es))
