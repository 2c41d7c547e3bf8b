-- Triggers with an edge and without one.
use Rattle.std.proofs.Common.{◌≡◌, true, false, List, [], ◌∷◌, Option, Some, None, refl, sym, ap, ◌∙◌}
use Rattle.std.specs.Prelude.{◌||◌, not, is_some}
use Rattle.std.proofs.lemmas.Bool.{not-true}
use Rattle.std.specs.List.{list_any}
use Rattle.vl_sound.specs.vl_tree.specs.declared.source_tree.Edge.{Edge}
use Rattle.vl_sound.specs.vl_tree.specs.declared.source_tree.Edge.TheVariants.{Rising, Falling}
use Rattle.vl_sound.specs.vl_tree.specs.declared.source_tree.Event.{Event as EventTree}
use Rattle.vl_sound.specs.vl_tree.specs.declared.source_tree.Trigger.{Trigger}
use Rattle.vl_sound.specs.vl_tree.specs.declared.source_tree.Trigger.TheVariants as g
use Rattle.vl_sound.specs.vl_uses.specs.Nodes.{is_clocked}
use Rattle.ten_plan.specs.vl_design.specs.declared.design.ProcKind.TheVariants.{Rise, Fall}
use Rattle.ten_plan.specs.vl_design.specs.Queue.{is_comb}
use Rattle.vl_accept.specs.vl_bits.specs.Drivers.{is_assign}
use Rattle.vl_sound.specs.vl_flat.specs.Kinds.{has_edge}
use Rattle.vl_sound.specs.vl_flat.specs.Processes as q

edges-comb : (es : List EventTree) → is_comb (q.edge_kind es) ≡ not (list_any (λ e. is_some e.edge) es)
edges-comb [] = refl
edges-comb (y ∷ es) = by y.edge (edges-comb es)
  where
    by : (o : Option Edge) → is_comb (q.edge_kind es) ≡ not (list_any (λ e. is_some e.edge) es)
        → is_comb (elim o [ None ↦ q.edge_kind es | Some w ↦ elim w [ Rising ↦ Rise | Falling ↦ Fall ] ]) ≡ not (is_some o || list_any (λ e. is_some e.edge) es)
    by None rest = rest
    by (Some Rising) rest = refl
    by (Some Falling) rest = refl

-- combinational processes are those with triggers without an edge
trigger-is : (trigger : Trigger) → is_comb (q.trigger_kind trigger) ≡ not (has_edge trigger)
trigger-is (g.Events es) = edges-comb es
trigger-is g.Star = refl
trigger-is g.Parenthesized = refl

pub edge-free : (trigger : Trigger) → has_edge trigger ≡ false → is_comb (q.trigger_kind trigger) ≡ true
edge-free trigger h = trigger-is trigger ∙ ap not h

pub trigger-comb : (trigger : Trigger) → is_comb (q.trigger_kind trigger) ≡ true → has_edge trigger ≡ false
trigger-comb trigger h = not-true (has_edge trigger) (sym (trigger-is trigger) ∙ h)

clocked-edge : (trigger : Trigger) → is_clocked trigger ≡ has_edge trigger
clocked-edge (g.Events es) = refl
clocked-edge g.Star = refl
clocked-edge g.Parenthesized = refl

pub comb-unclocked : (trigger : Trigger) → is_comb (q.trigger_kind trigger) ≡ true → is_clocked trigger ≡ false
comb-unclocked trigger h = clocked-edge trigger ∙ trigger-comb trigger h

-- no trigger is that of a continuous assignment
edge-assigns : (es : List EventTree) → is_assign (q.edge_kind es) ≡ false
edge-assigns [] = refl
edge-assigns (y ∷ es) = by y.edge (edge-assigns es)
  where
    by : (o : Option Edge) → is_assign (q.edge_kind es) ≡ false → is_assign (elim o [ None ↦ q.edge_kind es | Some w ↦ elim w [ Rising ↦ Rise | Falling ↦ Fall ] ]) ≡ false
    by None rest = rest
    by (Some Rising) rest = refl
    by (Some Falling) rest = refl

pub trigger-assigns : (trigger : Trigger) → is_assign (q.trigger_kind trigger) ≡ false
trigger-assigns (g.Events es) = edge-assigns es
trigger-assigns g.Star = refl
trigger-assigns g.Parenthesized = refl
