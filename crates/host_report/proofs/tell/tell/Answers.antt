use Rattle.std.proofs.Common.{◌≡◌, ℕ, ◌+◌, ◌≤◌, List, ◌∷◌, length, drop, Option, sym, ap, ◌∙◌, subst, subst₂, arith}
use Rattle.std.proofs.lemmas.List.{drop_more}
use Rattle.std.specs.Vec.Iter.{into_iter_items}
use Rattle.host_files.specs.host_text.specs.declared.script.TenantLine.{TenantLine}
use Rattle.host_files.specs.host_text.specs.declared.block.Block.{Block}
use Rattle.fab_model.specs.declared.transit.Transit.{Transit}
use Rattle.host_files.specs.host_form.specs.declared.refusal.Refusal.{Refusal}
use Rattle.host_files.specs.declared.kept.Kept.{Kept}
use Rattle.host_report.specs.Telling.{AreTellable}
use Rattle.host_report.proofs.Onward.{GoesOn, goes-on, rest-tellable, none-there, none-behind, all-told}
use Rattle.host_report.proofs.tell.tell.Goals as goal

pub loop-tenant-preserved : goal.loop-tenant-preserved
loop-tenant-preserved c =
    let s = c.args.script.now in
    let lines : List TenantLine = c.as_slice-tenant-items.result.now in
    let i : ℕ = c.loop-tenant.tenant-index in
    let line : TenantLine = c.tenant-item.result in
    let rest : List TenantLine = drop (i + 1) lines in
    let rs : List (Option Refusal) = into_iter_items c.next.new.self in
    let es : List Transit = into_iter_items c.loop-tenant.ended in
    let blocks : List Block = c.loop-tenant.blocks.items in
    let kept : List (Option Kept) = c.loop-tenant.kept.items in
    let now = c.loop-tenant.invariant in
    let at : drop i lines ≡ line ∷ rest = drop_more lines i line c.loop-tenant-test.true ∙ ap (λ (l : TenantLine). l ∷ rest) (sym c.tenant-item.is) in
    let first : into_iter_items c.loop-tenant.refusals ≡ c.in-Some.refusal ∷ rs = c.in-Some.ensures.items in
    let left = subst (λ (xs : List (Option Refusal)). AreTellable xs es) first now.left in
    let before = subst₂ (λ (ls : List TenantLine) (xs : List (Option Refusal)). GoesOn s c.args.refusals.items c.args.ended.items ls xs es blocks kept) at first now.onward in
    let fs : List Transit = into_iter_items c.say.new.ended in
    let on = goes-on s c.args.refusals.items c.args.ended.items line rest c.in-Some.refusal rs es fs blocks kept c.in_ok-said.said before c.in_ok-said.ensures in
    record {
      left = rest-tellable s line.name c.in-Some.refusal rs es fs c.in_ok-said.said left c.in_ok-said.ensures;
      count = omega (arith, ap length first, now.count);
      onward = subst₂ (λ (bs : List Block) (ks : List (Option Kept)). GoesOn s c.args.refusals.items c.args.ended.items rest rs fs bs ks) (sym c.in_ok-push.ensures.items) (sym c.in_ok-push-2.ensures.items) on;
    }

pub returns : goal.returns
returns c =
    let s = c.args.script.now in
    let lines : List TenantLine = c.as_slice-tenant-items.result.now in
    let i : ℕ = c.loop-tenant.tenant-index in
    let rs : List (Option Refusal) = into_iter_items c.loop-tenant.refusals in
    let es : List Transit = into_iter_items c.loop-tenant.ended in
    let now = c.loop-tenant.invariant in
    let none : length rs ≤ 0 = omega (arith, now.count, c.loop-tenant-test.false) in
    let last = none-behind i lines c.loop-tenant-test.false in
    let on = subst (λ (ls : List TenantLine). GoesOn s c.args.refusals.items c.args.ended.items ls rs es c.loop-tenant.blocks.items c.loop-tenant.kept.items) last now.onward in
    all-told s c.args.refusals.items c.args.ended.items rs es _ (none-there rs none) now.left on
