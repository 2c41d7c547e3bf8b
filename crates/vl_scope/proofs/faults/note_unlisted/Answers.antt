use Rattle.std.proofs.Common.{◌≡◌, List, ℕ, not, ap, ◌∙◌, arith}
use Rattle.vl_scope.specs.Faults.{earliest, fault_if}
use Rattle.vl_scope.specs.Declarations.{Declared, seen}
use Rattle.vl_scope.specs.Keys.{has}
use Rattle.vl_scope.proofs.Noting.{noted_turn}
use Rattle.vl_scope.proofs.faults.note_unlisted.Goals as goal

pub loop-declaration-preserved : goal.loop-declaration-preserved
loop-declaration-preserved c =
    let name = c.declaration-item.result.name.now in
    let known : c.contains-is_listed.result ≡ has c.args.names.now name.name = c.contains-is_listed.ensures ∙ ap (λ (t : List ℕ). has c.args.names.now t) c.as_slice.ensures in
    let here = c.note_if-best.ensures ∙ ap (λ b. earliest c.loop-declaration.best (fault_if (not b) name.place 7)) known in
    noted_turn (λ (a : Declared). fault_if (not (has c.args.names.now a.name.name)) a.name.place 7) seen c.args.declarations.now c.loop-declaration.declaration-index c.declaration-item.result c.args.best c.loop-declaration.best c.note_if-best.result
    (omega arith) c.declaration-item.is c.loop-declaration.invariant here
