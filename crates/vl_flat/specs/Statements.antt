-- The statements of an instance in its design, and their faults (IEEE 1364-2005, clause 9).
use Rattle.std.specs.Prelude.{ℕ, Bool, true, false, List, [], ◌++◌}
use Rattle.vl_design.specs.declared.stop.Stop.{Stop}
use Rattle.vl_flat.specs.Surface as x
use Rattle.vl_design.specs.Placed as p
use Rattle.vl_flat.specs.Scopes.{Scope, number_of}
use Rattle.vl_flat.specs.Constants.{turns_of}
use Rattle.vl_flat.specs.Expressions.{exp, constant, labels, keeps_texts, args}
use Rattle.vl_flat.specs.ExpressionFaults.{faults, all_faults, task_faults}
use Rattle.vl_flat.specs.Targets.{target, target_faults}

abbrev mutual
  -- the first name in a left side
  pub first_name : x.Left → List ℕ
  first_name (x.LeftName at name ss) = name
  first_name (x.LeftList at ls) = first_among ls

  pub first_among : x.Lefts → List ℕ
  first_among x.NoLefts = []
  first_among (x.MoreLefts l ls) = first_name l

module _ (scope : Scope) where
  abbrev pub set : x.Left → x.Ex → p.Stm
  set l e = p.Set (x.left_place l) (target scope l) (exp scope e)

  abbrev mutual
    pub statement : x.Statement → p.Stm
    statement (x.Null at) = p.Nop at
    statement (x.Block at as') = p.Seq at (statements as')
    statement (x.If at t a b) = p.If at (exp scope t) (statement a) (statement b)
    statement (x.Case at wild e items) = p.Case at (exp scope e) (case_items wild items) wild
    statement (x.For at l e t l' e' a) =
        p.For at (number_of (scope.names (first_name l))) (set l e) (exp scope t) (set l' e') (statement a)
    statement (x.Repeat at n a) = p.Repeat at (turns_of (constant scope n)) (statement a)
    statement (x.Assign at true l e) = p.Set at (target scope l) (exp scope e)
    statement (x.Assign at false l e) = p.Later at (target scope l) (exp scope e)
    statement (x.Task at name given) = p.Task at name (args scope (keeps_texts name) given)

    pub statements : x.Statements → p.Stms
    statements x.NoStatements = p.NoStms
    statements (x.MoreStatements a as') = p.MoreStms (statement a) (statements as')

    -- items of a `casez` where wild
    pub case_items : Bool → x.CaseItems → p.Items
    case_items wild x.NoItems = p.NoItems
    case_items wild (x.Labelled es a others) = p.MoreItems (labels scope wild es) (statement a) (case_items wild others)
    case_items wild (x.Default a others) = p.MoreItems p.NoExps (statement a) (case_items wild others)

  abbrev pub set_faults : x.Left → x.Ex → List Stop
  set_faults l e = target_faults scope l ++ faults scope e

  abbrev mutual
    pub statement_faults : x.Statement → List Stop
    statement_faults (x.Null at) = []
    statement_faults (x.Block at as') = statements_faults as'
    statement_faults (x.If at t a b) = faults scope t ++ (statement_faults a ++ statement_faults b)
    statement_faults (x.Case at wild e items) = faults scope e ++ items_faults items
    statement_faults (x.For at l e t l' e' a) = set_faults l e ++ (faults scope t ++ (set_faults l' e' ++ statement_faults a))
    statement_faults (x.Repeat at n a) = faults scope n ++ statement_faults a
    statement_faults (x.Assign at blocking l e) = set_faults l e
    statement_faults (x.Task at name given) = task_faults scope name given

    pub statements_faults : x.Statements → List Stop
    statements_faults x.NoStatements = []
    statements_faults (x.MoreStatements a as') = statement_faults a ++ statements_faults as'

    pub items_faults : x.CaseItems → List Stop
    items_faults x.NoItems = []
    items_faults (x.Labelled es a others) = all_faults scope es ++ (statement_faults a ++ items_faults others)
    items_faults (x.Default a others) = statement_faults a ++ items_faults others
