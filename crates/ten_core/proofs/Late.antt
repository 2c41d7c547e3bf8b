-- Behind time zero's wave a run's nodes are those that states of cells do.
use Rattle.std.proofs.Common.{◌≡◌, ℕ, zero, suc, ◌<◌, Bool, true, false, List, [], ◌∷◌, map, take, Option, Some, None, inl, inr, refl, ◌∙◌, arith}
use Rattle.std.specs.Prelude.{All, if◌then◌else◌, slice_get}
use Rattle.std.proofs.lemmas.List.Elements.{All-head, All-tail}
use Rattle.std.proofs.lemmas.Option.{slice_get_cases}
use Rattle.vl_design.specs.vl_base.specs.declared.files.File.{File}
use Rattle.vl_design.specs.declared.design.Form.{Form}
use Rattle.vl_design.specs.Exec.{is_true, some_match}
use Rattle.vl_design.specs.Functions.{scope_of}
use Rattle.vl_design.specs.State.{State}
use Rattle.vl_design.specs.Syntax.{Task, Flat}
use Rattle.vl_design.specs.Value.{Sample}
use Rattle.vl_design.specs.Width.{Scope}
use Rattle.ten_form.specs.sub_nodes.specs.Code.{table_of}
use Rattle.ten_form.specs.sub_nodes.specs.Cycles.{Stage, way_of, segment_done, cycled}
use Rattle.ten_form.specs.sub_nodes.specs.Nodes.{Way, Go, Branch, Switch, Commit, Node, Run, Trap, Apply}
use Rattle.ten_form.specs.sub_nodes.specs.Early.{early_from}
use Rattle.ten_form.specs.sub_nodes.proofs.Leading.{sizes, late_leads}
use Rattle.ten_form.specs.Banks.{cell_nodes}
use Rattle.vl_design.specs.vl_base.proofs.Lists.{get_take as get-take}

module _ (P : ℕ → Type 0) where
  either-in : (b : Bool) (j k : ℕ) → P j → P k → P (if b then j else k)
  either-in true j k f g = f
  either-in false j k f g = g

  way-in : (scope : Scope) (s : Sample) (v : ℕ) (c : Form) (ws : List Way) (other : ℕ) → P other → All P (map (λ w. w.to) ws) → P (way_of scope s v c ws other)
  way-in scope s v c [] other f g = f
  way-in scope s v c (w ∷ ws) other f g =
      either-in (some_match scope s c v w.labels) w.to (way_of scope s v c ws other) (All-head P w.to (map (λ w. w.to) ws) g)
      (way-in scope s v c ws other f (All-tail P w.to (map (λ w. w.to) ws) g))

module _ (d : Flat) where
  abbrev IsLate : ℕ → Type 0
  IsLate n = n < early_from d

  -- such a node is the table's
  pub node-late : (n : ℕ) → n < early_from d → slice_get (cell_nodes d) n ≡ slice_get (table_of d).nodes n
  node-late n l = get-take (early_from d) (table_of d).nodes n l

  pub node-there : (n : ℕ) → n < early_from d → (x : Node) × (slice_get (cell_nodes d) n ≡ Some x)
  node-there n l =
      elim ((slice_get_cases (table_of d).nodes n).1) [
        | inl h ↦ (h.0, node-late n l ∙ h.2)
        | inr h ↦ (let many = (sizes d).all in let past = h.0 in absurd (omega (arith, many, past, l)))
      ]

  -- and such a one is next behind its call, and behind its cycle
  pub call-late : (n : ℕ) (task : Task) (to : ℕ) → n < early_from d → slice_get (table_of d).nodes n ≡ Some (Trap task to) → to < early_from d
  call-late n task to l e = All-head IsLate to [] (late_leads d n (Trap task to) l e)

  module _ (files : List File) (nets : State → List (List ℕ)) where
    pub cycled-late : (x : Option Node) (i : Stage) → i.node < early_from d → slice_get (table_of d).nodes i.node ≡ x → (cycled d files nets x i).node < early_from d
    cycled-late None i l e = l
    cycled-late (Some (Run g (Go to))) i l e = All-head IsLate to [] (late_leads d i.node (Run g (Go to)) l e)
    cycled-late (Some (Run g (Branch t a b))) i l e =
        let h = late_leads d i.node (Run g (Branch t a b)) l e in
        either-in IsLate (is_true (scope_of d files) t (segment_done (scope_of d files) g i.state)) a b
        (All-head IsLate a (b ∷ []) h) (All-head IsLate b [] (All-tail IsLate a (b ∷ []) h))
    cycled-late (Some (Run g (Switch t ways other))) i l e =
        let h = late_leads d i.node (Run g (Switch t ways other)) l e in
        way-in IsLate (scope_of d files) _ _ _ ways other (All-head IsLate other (map (λ w. w.to) ways) h) (All-tail IsLate other (map (λ w. w.to) ways) h)
    cycled-late (Some (Run g (Commit to))) i l e = All-head IsLate to [] (late_leads d i.node (Run g (Commit to)) l e)
    cycled-late (Some (Trap task to)) i l e = l
    cycled-late (Some (Apply to)) i l e = All-head IsLate to [] (late_leads d i.node (Apply to) l e)
