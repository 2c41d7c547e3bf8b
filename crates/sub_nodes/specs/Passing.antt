-- What holds of a design's statements and holds of its nodes (own).
use Rattle.std.specs.Prelude.{◌≡◌, false, All, ⊤}
use Rattle.vl_design.specs.Syntax.{Exp, Exps, Task, Stm, Then, If, Case, Sys, Items, NoItems, Labelled, Default}
use Rattle.vl_design.specs.Laws.{can_act}
use Rattle.sub_nodes.specs.Nodes.{WayOn, Go, Branch, Switch, Commit, Node, Run, Trap, Apply}

-- P speaks of statements, E of conditions, L of the labels of an item and R of calls
module _ (P : Stm → Type 0) (E : Exp → Type 0) (L : Exps → Type 0) (R : Task → Type 0) where
  abbrev pub ItemsPass : Items → Type 0
  ItemsPass NoItems = ⊤
  ItemsPass (Labelled es a others) = L es × P a × ItemsPass others
  ItemsPass (Default a others) = P a × ItemsPass others

  -- what holds of a statement passes to its parts
  pub record Passes : Type 0 where
    pub parts : (a b : Stm) → P (Then a b) → P a × P b
    pub branches : (t : Exp) (a b : Stm) → P (If t a b) → E t × P a × P b
    pub items : (e : Exp) (items : Items) → P (Case e items) → E e × ItemsPass items
    pub calls : (task : Task) → P (Sys task) → R task

  abbrev pub MeetsOn : WayOn → Type 0
  MeetsOn (Go to) = ⊤
  MeetsOn (Branch t first second) = E t
  MeetsOn (Switch e ways otherwise) = E e × All (λ w. L w.labels) ways
  MeetsOn (Commit to) = ⊤

  -- so do a node's statements, none of which holds a call, and its choice or its call
  abbrev pub IsNodeOf : Node → Type 0
  IsNodeOf (Run g on) = All (λ a. P a × (can_act a ≡ false)) g.statements × MeetsOn on
  IsNodeOf (Trap task to) = R task
  IsNodeOf (Apply to) = ⊤
