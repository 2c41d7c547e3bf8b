use Rattle.std.proofs.Common.{◌<◌, ◌++◌, ◌∷◌, [], List, length, map, ap, ◌∙◌, arith}
use Rattle.host_text.specs.declared.script.TenantLine.{TenantLine}
use Rattle.host_text.specs.declared.draft.Draft.{Draft}
use Rattle.host_text.specs.Drafts.{tenant_line}
use Rattle.host_text.proofs.Kept.{line-on}
use Rattle.host_text.proofs.draft.all_finished.Goals as goal

pub drafts-preserved : goal.drafts-preserved
drafts-preserved c =
    let ds = c.drafts.drafts.items in
    let lines = c.drafts.lines.items in
    let some : 0 < length ds = omega arith in
    ap (λ (ls : List TenantLine). ls ++ map tenant_line c.remove.new.self.items) c.in_ok-push.ensures.items
    ∙ ap (λ (t : TenantLine). (lines ++ t ∷ []) ++ map tenant_line c.remove.new.self.items) c.finished-line.ensures
    ∙ ap (λ (xs : List Draft). (lines ++ tenant_line c.remove.result ∷ []) ++ map tenant_line xs) c.remove.ensures.items
    ∙ line-on lines ds c.remove.result some c.remove.ensures.value
    ∙ c.drafts.invariant
