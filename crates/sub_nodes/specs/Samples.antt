-- Small designs as tables, worked by hand, and their runs by so many moves (own).
use Rattle.std.specs.Prelude.{◌≡◌, ℕ, zero, suc, true, false, List, [], ◌∷◌, if◌then◌else◌, slice_set, codes}
use Rattle.vl_design.specs.vl_base.specs.declared.bits.BinOp.TheVariants.{Add}
use Rattle.vl_design.specs.declared.design.SigKind.TheVariants.{Var}
use Rattle.vl_design.specs.Syntax.{Sig, Bin, NoExps, MoreExps, Whole, Literal, Print, Task, Stm, Nop, If, Case, Later, Labelled, Default, NoItems, Flat}
use Rattle.vl_design.specs.Value.{words_of}
use Rattle.vl_design.specs.State.{State}
use Rattle.vl_design.specs.Functions.{scope_of}
use Rattle.vl_design.specs.Alone.{Origin}
use Rattle.vl_design.specs.Examples.{row, flat, rise, seq, show, number}
use Rattle.sub_nodes.specs.Nodes.{Segment, Go, Branch, Switch, Commit, Run, Trap, Apply, Table}
use Rattle.sub_nodes.specs.Cycles.{Stage, cycle, served}
use Rattle.sub_nodes.specs.Stands.{at_trap, first_stage, Comes}

-- ---- runs

-- a run has come to this stage after so many acts
pub record Reached : Type 0 where
  pub acts : ℕ
  pub stage : Stage

module _ (o : Origin) (T : Table) (nets : State → List (List ℕ)) where
  -- a cycle, or at a trap the call is done
  abbrev pub moved : Reached → Reached
  moved r =
      if at_trap T r.stage then record { acts = suc r.acts; stage = served (scope_of o.flat o.files) T.nodes r.stage }
      else
      let i = cycle o.flat o.files nets T.nodes r.stage in
      record { acts = if at_trap T i then r.acts else suc r.acts; stage = i }

  -- so many moves; none once the run has finished
  abbrev pub moved_by : ℕ → Reached → Reached
  moved_by zero r = r
  moved_by (suc n) r = moved_by n (if r.stage.state.finished then r else moved r)

  abbrev pub run_by : ℕ → Reached
  run_by n = moved_by n (record { acts = 0; stage = first_stage o T nets o.resume })

  -- the run of the table comes to this node, has done so many acts and printed these bytes
  pub record Shows (node acts : ℕ) (bytes : List ℕ) : Type 0 where
    pub stage : Stage
    pub comes : Comes o T nets acts stage
    pub there : stage.node ≡ node
    pub printed : stage.state.printed ≡ bytes

-- no net
abbrev pub no_nets : State → List (List ℕ)
no_nets s = s.values

-- assign w = x, where x is signal 1 and w is signal 2
abbrev pub w_is_x : State → List (List ℕ)
w_is_x s = slice_set s.values 2 (words_of s.values 1)

-- ---- tables

abbrev pub started : List Stm → Segment
started statements = record { rises = true; statements = statements }

abbrev pub plain : List Stm → Segment
plain statements = record { rises = false; statements = statements }

abbrev pub text : List ℕ → Task
text bytes = Print (Literal bytes ∷ []) true

-- c <= c + 1
abbrev pub more : Stm
more = Later (Whole 1) (Bin Add (Sig 1) (number 1))

-- reg [7:0] c; always @(posedge clk) begin if (c) begin c <= 0; $display("A"); end else ; c <= c + 1; $display("B"); end
abbrev pub branching : Flat
branching = flat (row (codes "m.c") Var 8 false ∷ [])
    (rise (seq (If (Sig 1) (seq (Later (Whole 1) (number 0) ∷ show (Literal (codes "A") ∷ []) ∷ [])) Nop ∷ more ∷ show (Literal (codes "B") ∷ []) ∷ [])) ∷ [])

-- the stretch behind the `if` stands once behind each branch, and what stands behind its call once
abbrev pub branching_table : Table
branching_table = record {
  nodes =
      Apply 9 ∷ Apply 9
      -- the end of the wave
      ∷ Run (plain []) (Commit 1)
      -- behind the first branch's call
      ∷ Run (plain (more ∷ [])) (Go 4) ∷ Trap (text (codes "B")) 2
      -- the first branch
      ∷ Run (plain (Later (Whole 1) (number 0) ∷ [])) (Go 6) ∷ Trap (text (codes "A")) 3
      -- the second branch
      ∷ Run (plain (more ∷ [])) (Go 8) ∷ Trap (text (codes "B")) 2
      -- the rise, and the choice
      ∷ Run (started []) (Branch (Sig 1) 5 7)
      -- time zero
      ∷ Run (plain []) (Commit 0)
      ∷ [];
  zero = record { first = 10; update = 0 };
  rise = record { first = 9; update = 1 };
  fall = record { first = 10; update = 2 };
}

-- reg [1:0] c; always @(posedge clk) begin case (c) 0: $display("A"); default: ; 1, 2: c <= 0; endcase c <= c + 1; end
abbrev pub switching : Flat
switching = flat (row (codes "m.c") Var 2 false ∷ [])
    (rise (seq (Case (Sig 1) (Labelled (MoreExps (number 0) NoExps) (show (Literal (codes "A") ∷ []))
    (Default Nop (Labelled (MoreExps (number 1) (MoreExps (number 2) NoExps)) (Later (Whole 1) (number 0)) NoItems))) ∷ more ∷ [])) ∷ [])

abbrev pub switching_table : Table
switching_table = record {
  nodes =
      Apply 7 ∷ Apply 7
      -- behind the first item's call, and the item
      ∷ Run (plain (more ∷ [])) (Commit 1)
      ∷ Run (plain []) (Go 4) ∷ Trap (text (codes "A")) 2
      -- the second item
      ∷ Run (plain (Later (Whole 1) (number 0) ∷ more ∷ [])) (Commit 1)
      -- the default
      ∷ Run (plain (more ∷ [])) (Commit 1)
      -- the rise, and the choice
      ∷ Run (started []) (Switch (Sig 1)
      (record { labels = MoreExps (number 0) NoExps; to = 3 } ∷ record { labels = MoreExps (number 1) (MoreExps (number 2) NoExps); to = 5 } ∷ []) 6)
      -- time zero
      ∷ Run (plain []) (Commit 0)
      ∷ [];
  zero = record { first = 8; update = 0 };
  rise = record { first = 7; update = 1 };
  fall = record { first = 8; update = 2 };
}
