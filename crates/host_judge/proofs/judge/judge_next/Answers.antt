use Rattle.std.proofs.Common.{◌≡◌, List, get_or, length, subst}
use Rattle.std.proofs.lemmas.Result.{on_ok_weaker}
use Rattle.host_files.specs.host_text.specs.declared.script.FabricLine.{FabricLine}
use Rattle.host_judge.specs.Deciding.{IsVerdict}
use Rattle.host_judge.proofs.Noted.{next}
use Rattle.host_judge.proofs.judge.judge_next.Goals as goal

pub returns : goal.returns
returns c =
    let told = c.in_ok-verdict.ensures {u = tt} in
    let verdict = subst (λ (fs : List FabricLine). IsVerdict fs told.0 c.in_ok-verdict.verdict) c.as_slice-2.ensures told.2 in
    let there : get_or c.args.script.now.tenants (length c.args.judged.now.refusals.items) c.index-as_slice-len.result ≡ c.index-as_slice-len.result =
    let slice = c.as_slice.ensures in let count = c.len.ensures in let at = c.index-as_slice-len.is in cc in
    on_ok_weaker c.note.result
    (λ noted seen h. next c.args.script.now seen c.args.judged.now c.note.new.judged h c.args.loaded c.index-as_slice-len.result c.requires.more there
    told.0 c.in_ok-verdict.verdict told.1 verdict noted)
    c.note.ensures
