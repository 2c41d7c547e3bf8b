-- What a cycle leaves of a state: statements that hold no call print nothing, open no file, ask for no snapshot and don't finish the run.
use Rattle.std.proofs.Common.{◌≡◌, ℕ, ◌+◌, Bool, true, false, List, [], ◌∷◌, Option, Some, None, refl, ap, ◌∙◌}
use Rattle.std.specs.Prelude.{⊤, ◌||◌, if◌then◌else◌, All}
use Rattle.std.proofs.lemmas.List.Elements.{All-head, All-tail}
use Rattle.vl_design.proofs.Unread.{or_false}
use Rattle.vl_design.specs.vl_base.specs.declared.files.File.{File}
use Rattle.vl_design.specs.Syntax.{Stm, Nop, Then, If, Case, For, Repeat, Set, Later, Sys, Items, NoItems, Labelled, Default, Task, Flat}
use Rattle.vl_design.specs.Width.{Scope}
use Rattle.vl_design.specs.State.{State}
use Rattle.vl_design.specs.Exec.{exec, asks}
use Rattle.vl_design.specs.Functions.{scope_of}
use Rattle.vl_design.specs.Laws.{can_act, items_can_act}
use Rattle.vl_design.specs.Tasks.{called}
use Rattle.vl_design.proofs.Returning.{exec_ticks}
use Rattle.vl_design.proofs.Leading.{AllIn, AllItems, Steps, exec_leads}
use Rattle.ten_form.specs.sub_nodes.specs.Nodes.{Segment, WayOn, Go, Branch, Switch, Commit, Node, Run, Trap, Apply}
use Rattle.ten_form.specs.sub_nodes.specs.Cycles.{Stage, ticked, execs, segment_done, goes_on, cycled, rises}

-- a statement that can't act has no call
mutual
  no_calls : (a : Stm) → can_act a ≡ false → AllIn (λ t. ⊤) (λ t. ⊤) (λ task. ⊥) (λ k. ⊤) a
  no_calls Nop h = tt
  no_calls (Then a b) h = let g = or_false (can_act a) (can_act b) h in (no_calls a g.0, no_calls b g.1)
  no_calls (If t a b) h =
      let g = or_false (asks t) (can_act a || can_act b) h in
      let f = or_false (can_act a) (can_act b) g.1 in
      (no_calls a f.0, no_calls b f.1)
  no_calls (Case e items) h = items_no_calls items h
  no_calls (For k start test step a) h =
      let g = or_false (can_act start) (can_act step || can_act a) h in
      let f = or_false (can_act step) (can_act a) g.1 in
      (tt, no_calls start g.0, no_calls step f.0, no_calls a f.1)
  no_calls (Repeat n a) h = no_calls a h
  no_calls (Set t e) h = tt
  no_calls (Later t e) h = tt
  no_calls (Sys task) h = let z : ⊥ = cc in absurd z

  items_no_calls : (items : Items) → items_can_act items ≡ false → AllItems (λ t. ⊤) (λ t. ⊤) (λ task. ⊥) (λ k. ⊤) items
  items_no_calls NoItems h = tt
  items_no_calls (Labelled es a others) h = let g = or_false (can_act a) (items_can_act others) h in (no_calls a g.0, items_no_calls others g.1)
  items_no_calls (Default a others) h = let g = or_false (can_act a) (items_can_act others) h in (no_calls a g.0, items_no_calls others g.1)

-- nothing is printed, no file is opened or read, no snapshot is asked for, and the run doesn't finish
pub record Silent (s t : State) : Type 0 where
  pub printed : t.printed ≡ s.printed
  pub table : t.table ≡ s.table
  pub finished : t.finished ≡ s.finished
  pub ticks : t.ticks ≡ s.ticks
  pub saves : t.saves ≡ s.saves

silent-on : (a b c : State) → Silent a b → Silent b c → Silent a c
silent-on a b c f g = record { printed = g.printed ∙ f.printed; table = g.table ∙ f.table; finished = g.finished ∙ f.finished; ticks = g.ticks ∙ f.ticks; saves = g.saves ∙ f.saves }

silent-steps : (scope : Scope) → Steps scope Silent (λ t. ⊤) (λ t. ⊤) (λ task. ⊥) (λ k. ⊤)
silent-steps scope = record {
  same = λ s. record { printed = refl; table = refl; finished = refl; ticks = refl; saves = refl };
  next = silent-on;
  counts = λ s. record { printed = refl; table = refl; finished = refl; ticks = refl; saves = refl };
  sets = λ t e s h f. record { printed = refl; table = refl; finished = refl; ticks = refl; saves = refl };
  delays = λ t e s h f. record { printed = refl; table = refl; finished = refl; ticks = refl; saves = refl };
  calls = λ task s h f. absurd h;
  restores = λ k before s h f. record { printed = f.printed; table = f.table; finished = f.finished; ticks = f.ticks; saves = f.saves };
}

abbrev pub AreQuiet : List Stm → Type 0
AreQuiet xs = All (λ a. can_act a ≡ false) xs

execs-silent : (scope : Scope) (xs : List Stm) → AreQuiet xs → (s : State) → Silent s (execs scope xs s)
execs-silent scope [] h s = record { printed = refl; table = refl; finished = refl; ticks = refl; saves = refl }
execs-silent scope (a ∷ xs) h s =
    silent-on s (exec scope a s) _ (exec_leads scope Silent _ _ _ _ (silent-steps scope) a (no_calls a (All-head (λ a. can_act a ≡ false) a xs h)) s)
    (execs-silent scope xs (All-tail (λ a. can_act a ≡ false) a xs h) (exec scope a s))

-- as much holds behind a cycle; where the clock rises, a tick begins, and no snapshot was asked for in it
pub record Quiet (rise : Bool) (s t : State) : Type 0 where
  pub printed : t.printed ≡ s.printed
  pub table : t.table ≡ s.table
  pub finished : t.finished ≡ s.finished
  pub ticks : t.ticks ≡ (if rise then s.ticks + 1 else s.ticks)
  pub saves : t.saves ≡ (if rise then [] else s.saves)

same : (s : State) → Quiet false s s
same s = record { printed = refl; table = refl; finished = refl; ticks = refl; saves = refl }

segment-quiet : (scope : Scope) (g : Segment) → AreQuiet g.statements → (s : State) → Quiet g.rises s (segment_done scope g s)
segment-quiet scope g h s = at g.rises
  where
    at : (b : Bool) → Quiet b s (execs scope g.statements (if b then ticked s else s))
    at true =
        let r = execs-silent scope g.statements h (ticked s) in
        record { printed = r.printed; table = r.table; finished = r.finished; ticks = r.ticks; saves = r.saves }
    at false =
        let r = execs-silent scope g.statements h s in
        record { printed = r.printed; table = r.table; finished = r.finished; ticks = r.ticks; saves = r.saves }

module _ (d : Flat) (files : List File) (nets : State → List (List ℕ)) where
  goes-quiet : (b : Bool) (on : WayOn) (s t : State) (committed : List (List ℕ)) → Quiet b s t → Quiet b s (goes_on d files nets on t committed).state
  goes-quiet b (Go to) s t committed h = h
  goes-quiet b (Branch e x y) s t committed h =
      record { printed = h.printed; table = h.table; finished = h.finished; ticks = h.ticks; saves = h.saves }
  goes-quiet b (Switch e ways other) s t committed h =
      record { printed = h.printed; table = h.table; finished = h.finished; ticks = h.ticks; saves = h.saves }
  goes-quiet b (Commit to) s t committed h =
      record { printed = h.printed; table = h.table; finished = h.finished; ticks = h.ticks; saves = h.saves }

  pub cycled-quiet : (x : Option Node) (i : Stage) → ((g : Segment) (on : WayOn) → x ≡ Some (Run g on) → AreQuiet g.statements) →
      Quiet (rises x) i.state (cycled d files nets x i).state
  cycled-quiet None i h = same i.state
  cycled-quiet (Some (Run g on)) i h =
      goes-quiet g.rises on i.state _ i.committed (segment-quiet (scope_of d files) g (h g on refl) i.state)
  cycled-quiet (Some (Trap task to)) i h = same i.state
  cycled-quiet (Some (Apply to)) i h = record { printed = refl; table = refl; finished = refl; ticks = refl; saves = refl }

-- a call begins no tick
pub call-ticks : (scope : Scope) (task : Task) (s : State) → s.finished ≡ false → s.ticks ≡ (called scope task s).ticks
call-ticks scope task s f = exec_ticks scope (Sys task) s ∙ ap (λ (b : Bool). (if b then s else called scope task s).ticks) f
