use Rattle.std.proofs.Common.{◌≡◌, refl, sym, ◌∙◌}
use Rattle.std.specs.Prelude.{◌||◌}
use Rattle.std.specs.List.{list_any}
use Rattle.std.specs.Str.{bytes_eq}
use Rattle.indexmap.proofs.MapLemmas.{OnOk-map}
use Rattle.elab_kinds.specs.Names.{has, Adds}
use Rattle.elab_kinds.specs.Parts.{ex_uses, target_uses, argument_uses, strays_in, case_strays}
use Rattle.elab_kinds.proofs.Adding.{as-three, for-made, adds-more, adds-under, ends-one, ends-two}
use Rattle.elab_kinds.proofs.Trees.{block-strays, case-strays, for-strays, task-strays}
use Rattle.elab_kinds.proofs.strays.+strays.Goals as goal

pub add_all_strays-loop-a-preserved : goal.add_all_strays-loop-a-preserved
add_all_strays-loop-a-preserved t c = record {
  names =
      adds-more strays_in c.args.parts.now c.loop-a.a-index c.a-item.result c.loop-a-test.true c.a-item.is c.loop-a.invariant.names
      (adds-under (has c.loop-a.hidden) c.loop-a.invariant.hidden c.in_ok-add_strays.ensures.names);
  hidden = c.in_ok-add_strays.ensures.hidden ∙ c.loop-a.invariant.hidden;
}

pub add_case_strays-loop-one-preserved : goal.add_case_strays-loop-one-preserved
add_case_strays-loop-one-preserved t c = record {
  names =
      adds-more case_strays c.args.items.now c.loop-one.one-index c.one-item.result c.loop-one-test.true c.one-item.is c.loop-one.invariant.names
      (adds-under (has c.loop-one.hidden) c.loop-one.invariant.hidden c.in_ok-add_item_strays.ensures.names);
  hidden = c.in_ok-add_item_strays.ensures.hidden ∙ c.loop-one.invariant.hidden;
}

pub add_strays-returns-in-Block-clause-names : goal.add_strays-returns-in-Block-clause-names
add_strays-returns-in-Block-clause-names t c =
    ends-one c.add_all_strays.result c.args.names.now c.add_all_strays.new.names (has c.args.hidden.now) (λ s as'. list_any (strays_in s) as') strays_in c.as_slice.ensures.value c.in-Block.is
    (λ s. sym (block-strays s c.in-Block.field-0 c.in-Block.parts)) c.add_all_strays.ensures.names

pub add_strays-returns-in_ok-add_strays-in-If-clause-names : goal.add_strays-returns-in_ok-add_strays-in-If-clause-names
add_strays-returns-in_ok-add_strays-in-If-clause-names t c =
    OnOk-map c.add_strays-in-If.result
    (Adds c.add_strays.new.names c.add_strays-in-If.new.names (has c.add_strays.new.hidden) (λ s. strays_in s c.deref-in-If.result.now))
    (Adds c.args.names.now c.add_strays-in-If.new.names (has c.args.hidden.now) (λ s. strays_in s c.args.a.now))
    (λ adds. as-three ex_uses strays_in strays_in strays_in {x = c.in-If.test} refl c.deref.ensures c.deref-in-If.ensures c.in-If.is (λ s. refl)
    c.in_ok-add_uses-in-If.ensures c.in_ok-add_strays-in-If.ensures.names
    (adds-under (has c.add_strays.new.hidden) c.in_ok-add_strays-in-If.ensures.hidden adds))
    c.add_strays-in-If.ensures.names

pub add_strays-returns-in_ok-add_uses-in-Case-clause-names : goal.add_strays-returns-in_ok-add_uses-in-Case-clause-names
add_strays-returns-in_ok-add_uses-in-Case-clause-names t c =
    ends-two c.add_case_strays.result c.args.names.now c.add_uses-in-Case.new.names c.add_case_strays.new.names (has c.args.hidden.now)
    ex_uses (λ s ys. list_any (case_strays s) ys) strays_in {x = c.in-Case.subject} refl c.as_slice-in-Case.ensures.value c.in-Case.is
    (λ s. sym (case-strays s c.in-Case.field-0 c.in-Case.field-1 c.in-Case.subject c.in-Case.items)) c.in_ok-add_uses-in-Case.ensures c.add_case_strays.ensures.names

pub add_strays-returns-in_ok-add_strays-in-For-clause-names : goal.add_strays-returns-in_ok-add_strays-in-For-clause-names
add_strays-returns-in_ok-add_strays-in-For-clause-names t c =
    for-made (has c.args.hidden.now) (has c.hide.new.hidden) c.first_name-name.result.now
    (λ s. target_uses s c.in-For.target || (ex_uses s c.in-For.start || (ex_uses s c.in-For.test || (target_uses s c.in-For.stepped || ex_uses s c.in-For.step))))
    (λ s. strays_in s c.deref-in-For.result.now)
    (λ s. strays_in s c.args.a.now)
    (λ i s. c.in_ok-is_new-in-For.ensures.hidden.added s i)
    c.in_ok-add_head_uses-in-For.ensures
    c.in_ok-add_strays-in-For.ensures.names
    (λ s. for-strays s c.first_name-name.result.now c.args.a.now c.in-For.field-0 c.in-For.target c.in-For.start c.in-For.test c.in-For.stepped c.in-For.step c.in-For.body c.deref-in-For.result.now
    c.first_name-name.ensures c.deref-in-For.ensures c.in-For.is)

pub add_strays-returns-in_ok-add_strays-in-For-clause-hidden : goal.add_strays-returns-in_ok-add_strays-in-For-clause-hidden
add_strays-returns-in_ok-add_strays-in-For-clause-hidden t c =
    let hides : has c.hide.new.hidden ≡ (λ s. has c.args.hidden.now s || bytes_eq s c.first_name-name.result.now) = λ i s. c.in_ok-is_new-in-For.ensures.hidden.added s i in
    c.show.ensures (has c.args.hidden.now) c.in_ok-is_new-in-For.ensures.is_new (c.in_ok-add_strays-in-For.ensures.hidden ∙ hides)

pub add_strays-returns-in-Task-clause-names : goal.add_strays-returns-in-Task-clause-names
add_strays-returns-in-Task-clause-names t c =
    ends-one c.add_argument_uses.result c.args.names.now c.add_argument_uses.new.names (has c.args.hidden.now) (λ s as'. list_any (argument_uses s) as') strays_in c.as_slice-in-Task.ensures.value c.in-Task.is
    (λ s. sym (task-strays s c.in-Task.field-0 c.in-Task.field-1 c.in-Task.given)) c.add_argument_uses.ensures
