-- What is printed stays printed over a cycle of a table and over a served call.
use Rattle.std.proofs.Common.{ℕ, Bool, true, false, List, [], ◌∷◌, Option, Some, None, refl}
use Rattle.std.specs.Prelude.{if◌then◌else◌}
use Rattle.vl_design.specs.vl_base.specs.declared.files.File.{File}
use Rattle.vl_design.specs.Exec.{exec}
use Rattle.vl_design.specs.Functions.{scope_of}
use Rattle.vl_design.specs.Laws.{Grows}
use Rattle.vl_design.specs.State.{State}
use Rattle.vl_design.specs.Syntax.{Stm, Flat}
use Rattle.vl_design.specs.Width.{Scope}
use Rattle.vl_design.proofs.Growing.{call_grows, exec_grows, grows_on, grows_same}
use Rattle.ten_form.specs.sub_nodes.specs.Nodes.{Segment, WayOn, Go, Branch, Switch, Commit, Node, Run, Trap, Apply}
use Rattle.ten_form.specs.sub_nodes.specs.Cycles.{Stage, cycled, execs, goes_on, segment_done, served_by, ticked}

execs_grow : (scope : Scope) (xs : List Stm) (s : State) → Grows s (execs scope xs s)
execs_grow scope [] s = grows_same s s refl
execs_grow scope (a ∷ xs) s = grows_on s (exec scope a s) (execs scope xs (exec scope a s)) (exec_grows scope a s) (execs_grow scope xs (exec scope a s))

segment_grows : (scope : Scope) (g : Segment) (s : State) → Grows s (segment_done scope g s)
segment_grows scope g s = at g.rises
  where
    at : (b : Bool) → Grows s (execs scope g.statements (if b then ticked s else s))
    at true = grows_on s (ticked s) (execs scope g.statements (ticked s)) (grows_same s (ticked s) refl) (execs_grow scope g.statements (ticked s))
    at false = execs_grow scope g.statements s

module _ (d : Flat) (files : List File) (nets : State → List (List ℕ)) where
  goes_grow : (on : WayOn) (s t : State) (committed : List (List ℕ)) → Grows s t → Grows s (goes_on d files nets on t committed).state
  goes_grow (Go to) s t committed h = h
  goes_grow (Branch e x y) s t committed h = record { more = h.more; grown = h.grown }
  goes_grow (Switch e ways other) s t committed h = record { more = h.more; grown = h.grown }
  goes_grow (Commit to) s t committed h = record { more = h.more; grown = h.grown }

  pub cycle_grows : (x : Option Node) (i : Stage) → Grows i.state (cycled d files nets x i).state
  cycle_grows None i = grows_same i.state i.state refl
  cycle_grows (Some (Run g on)) i = goes_grow on i.state (segment_done (scope_of d files) g i.state) i.committed (segment_grows (scope_of d files) g i.state)
  cycle_grows (Some (Trap task to)) i = grows_same i.state i.state refl
  cycle_grows (Some (Apply to)) i = grows_same i.state _ refl

pub serve_grows : (scope : Scope) (x : Option Node) (i : Stage) → Grows i.state (served_by scope x i).state
serve_grows scope None i = grows_same i.state i.state refl
serve_grows scope (Some (Run g on)) i = grows_same i.state i.state refl
serve_grows scope (Some (Trap task to)) i = call_grows scope task i.state
serve_grows scope (Some (Apply to)) i = grows_same i.state i.state refl
