-- Runs of a tenant's design are tame.
use Rattle.std.proofs.Common.{◌≡◌, ℕ, ◌<◌, false, List, Some, ◌∙◌, ap, subst}
use Rattle.std.specs.Prelude.{slice_get}
use Rattle.std.proofs.lemmas.List.Elements.{All-weaker}
use Rattle.std.proofs.lemmas.Option.{slice_get_within, get_or_from_slice_get}
use Rattle.ten_core.specs.vl_design.specs.Alone.{Origin}
use Rattle.ten_core.specs.vl_design.specs.Laws.{can_act}
use Rattle.sub_split.specs.sub_nodes.specs.Nodes.{Node, Run, Trap, Apply}
use Rattle.sub_split.specs.sub_nodes.specs.Code.{table_of}
use Rattle.sub_split.specs.sub_nodes.specs.Cycles.{Stage}
use Rattle.sub_split.specs.sub_nodes.specs.Stands.{Comes}
use Rattle.sub_split.specs.sub_nodes.specs.Early.{early_from}
use Rattle.ten_core.specs.ten_form.specs.Works.{HaveBytes}
use Rattle.ten_core.specs.ten_form.specs.Nets.{nets_of, IsTidy}
use Rattle.ten_core.specs.ten_form.specs.Delays.{IsDue}
use Rattle.ten_core.specs.Runs.{IsTame}
use Rattle.ten_make.specs.Designs.{IsTenantDesign}
use Rattle.ten_make.proofs.Delaying.{delayed-alone}
use Rattle.ten_make.proofs.Others.{none-held}
use Rattle.ten_make.proofs.Parts.{Meets, IsPart, nodes_meet}

module _ (o : Origin) (order : List ℕ) (is : IsTenantDesign o.flat order) where
  -- what holds of a node by its number
  node-at : (n : ℕ) (x : Node) → slice_get (table_of o.flat).nodes n ≡ Some x → IsPart o.flat x
  node-at n x e =
      let nodes = (table_of o.flat).nodes in
      subst (IsPart o.flat) (get_or_from_slice_get nodes n x x e) (nodes_meet o.flat order is n x (slice_get_within nodes n x e))

  abbrev pub Tidies : Type 0
  Tidies = (c : ℕ) (i : Stage) → Comes o (table_of o.flat) (nets_of o.flat o.files order) c i → i.node < early_from o.flat → i.state.finished ≡ false →
      IsTidy o.flat o.files order i.state i.committed

  abbrev pub Commits : Type 0
  Commits = (c : ℕ) (i : Stage) → Comes o (table_of o.flat) (nets_of o.flat o.files order) c i → (to : ℕ) → slice_get (table_of o.flat).nodes i.node ≡ Some (Apply to) → i.committed ≡ i.state.values

  due-at : Commits → (c : ℕ) (i : Stage) (x : Node) → Comes o (table_of o.flat) (nets_of o.flat o.files order) c i → slice_get (table_of o.flat).nodes i.node ≡ Some x → IsDue o.flat x i
  due-at commits c i x comes e = record { later = delayed-alone o (nets_of o.flat o.files order) c i comes; committed = λ to same. commits c i comes to (e ∙ ap Some same) }

  pub tame : HaveBytes o.files → Tidies → Commits → IsTame o order
  tame bytes tidy commits = record {
    one_word = is.words;
    bytes = bytes;
    quiet = λ n g on e. All-weaker (λ a. Meets o.flat a × (can_act a ≡ false)) (λ a. can_act a ≡ false) (λ a h. h.1) g.statements (node-at n (Run g on) e).0;
    calls = λ n task to e. node-at n (Trap task to) e;
    tidy = tidy;
    others = none-held o order is.others;
    due = due-at commits;
  }
