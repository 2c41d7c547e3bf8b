-- Names without their numbers: faults of left sides and of statements are the same.
use Rattle.std.proofs.Common.{◌≡◌, ℕ, ◌+◌, Bool, true, false, ◌++◌, Option, refl, not}
use Rattle.vl_flat.specs.vl_design.specs.Rows.{has_width}
use Rattle.vl_flat.specs.vl_design.specs.Stops.{construct_if}
use Rattle.vl_flat.specs.Surface as x
use Rattle.vl_flat.specs.Scopes.{Scope}
use Rattle.vl_flat.specs.Targets as t
use Rattle.vl_flat.specs.Statements as s
use Rattle.vl_sound.specs.Bare.{bare_scope}
use Rattle.vl_sound.proofs.ExpressionsOfAlike.{named-form, name-kept, faults-kept, all-kept, task-kept}

module _ (scope : Scope) where
  abbrev less : Scope
  less = bare_scope scope

  mutual
    left-width-kept : (l : x.Left) → t.left_width less l ≡ t.left_width scope l
    left-width-kept (x.LeftName at name ss) = λ i. (named-form scope (scope.names name) ss i).width
    left-width-kept (x.LeftList at ls) = left-widths-kept ls

    left-widths-kept : (ls : x.Lefts) → t.lefts_width less ls ≡ t.lefts_width scope ls
    left-widths-kept x.NoLefts = refl
    left-widths-kept (x.MoreLefts l ls) = λ i. left-width-kept l i + left-widths-kept ls i

  width-faults-kept : (l : x.Left) → t.width_faults less l ≡ t.width_faults scope l
  width-faults-kept l = λ i. construct_if (not (has_width (left-width-kept l i))) (x.left_place l) 10

  mutual
    pub target-kept : (l : x.Left) → t.target_faults less l ≡ t.target_faults scope l
    target-kept (x.LeftName at name ss) = λ i. width-faults-kept (x.LeftName at name ss) i ++ name-kept scope at (scope.names name) ss i
    target-kept (x.LeftList at ls) = λ i. width-faults-kept (x.LeftList at ls) i ++ targets-kept ls i

    targets-kept : (ls : x.Lefts) → t.targets_faults less ls ≡ t.targets_faults scope ls
    targets-kept x.NoLefts = refl
    targets-kept (x.MoreLefts l ls) = λ i. target-kept l i ++ targets-kept ls i

  set-kept : (l : x.Left) (a : x.Ex) → s.set_faults less l a ≡ s.set_faults scope l a
  set-kept l a = λ i. target-kept l i ++ faults-kept scope a i

  mutual
    pub statement-kept : (a : x.Statement) → s.statement_faults less a ≡ s.statement_faults scope a
    statement-kept (x.Null at) = refl
    statement-kept (x.Block at as') = statements-kept as'
    statement-kept (x.If at q a c) = λ i. faults-kept scope q i ++ (statement-kept a i ++ statement-kept c i)
    statement-kept (x.Case at wild q items) = λ i. faults-kept scope q i ++ items-kept items i
    statement-kept (x.For at l q r h k a) = λ i. set-kept l q i ++ (faults-kept scope r i ++ (set-kept h k i ++ statement-kept a i))
    statement-kept (x.Repeat at n a) = λ i. faults-kept scope n i ++ statement-kept a i
    statement-kept (x.Assign at blocking l q) = set-kept l q
    statement-kept (x.Task at name given) = task-kept scope name given

    statements-kept : (as' : x.Statements) → s.statements_faults less as' ≡ s.statements_faults scope as'
    statements-kept x.NoStatements = refl
    statements-kept (x.MoreStatements a as') = λ i. statement-kept a i ++ statements-kept as' i

    items-kept : (items : x.CaseItems) → s.items_faults less items ≡ s.items_faults scope items
    items-kept x.NoItems = refl
    items-kept (x.Labelled es a others) = λ i. all-kept scope es i ++ (statement-kept a i ++ items-kept others i)
    items-kept (x.Default a others) = λ i. statement-kept a i ++ items-kept others i
