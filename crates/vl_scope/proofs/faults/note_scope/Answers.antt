use Rattle.std.proofs.Common.{◌≡◌, ◌+◌, ◌++◌, ◌∷◌, [], take, sym, ap, ◌∙◌, arith}
use Rattle.std.proofs.lemmas.List.Sums.{fold-append}
use Rattle.vl_scope.specs.Faults.{earliest}
use Rattle.vl_scope.specs.Declarations.{seen, all_seen}
use Rattle.vl_scope.specs.DeclarationFaults.{scope_faults, declaration_faults_after}
use Rattle.vl_scope.specs.Marks.{marks_in, marks_after, no_marks}
use Rattle.vl_scope.proofs.Orders.{earliest-append}
use Rattle.vl_scope.proofs.Noting.{scope_faults-push, push_seen, by_marks}
use Rattle.vl_scope.proofs.faults.note_scope.Goals as goal

pub loop-declaration-preserved : goal.loop-declaration-preserved
loop-declaration-preserved c =
    let xs = c.args.declarations.now in
    let i = c.loop-declaration.declaration-index in
    let x = c.declaration-item.result in
    let a = seen x in
    let before = all_seen (take i xs) in
    let first = c.args.best in
    let more : all_seen (take (i + 1) xs) ≡ before ++ a ∷ [] = push_seen seen xs i x (omega arith) c.declaration-item.is in
    record {
      known = λ t. c.in_ok-add_marks.ensures t ∙ ap (λ m. marks_after t m a) (c.loop-declaration.invariant.known t) ∙ sym (fold-append (marks_after t) no_marks before (a ∷ [])) ∙ ap (λ l. marks_in l t) (sym more);
      best =
          c.note_declaration-best.ensures
          ∙ ap (earliest c.loop-declaration.best) (by_marks before a _ (c.loop-declaration.invariant.known a.name.name))
          ∙ ap (λ b. earliest b (declaration_faults_after before a)) c.loop-declaration.invariant.best
          ∙ sym (earliest-append first (scope_faults before) (declaration_faults_after before a))
          ∙ ap (earliest first) (sym (scope_faults-push before a))
          ∙ ap (λ l. earliest first (scope_faults l)) (sym more);
    }
