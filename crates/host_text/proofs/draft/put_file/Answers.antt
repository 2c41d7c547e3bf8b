use Rattle.std.proofs.Common.{◌≤◌, ◌<◌, length, map, sym, arith}
use Rattle.std.proofs.lemmas.List.{length-map}
use Rattle.host_text.specs.Scripts.{with_file}
use Rattle.host_text.specs.Drafts.{tenant_line}
use Rattle.host_text.proofs.Changes.{changed-set, changed-past}
use Rattle.host_text.proofs.draft.put_file.Goals as goal

pub returns-then-number-len : goal.returns-then-number-len
returns-then-number-len c =
    let ds = c.args.tenants.now.items in
    let past : length (map tenant_line ds) ≤ c.args.number = omega (arith, length-map ds tenant_line) in
    sym (changed-past (with_file c.args.file) (map tenant_line ds) c.args.number past)

pub returns : goal.returns
returns c =
    let ds = c.args.tenants.now.items in
    let within : c.args.number < length ds = omega arith in
    changed-set (with_file c.args.file) ds c.args.number _ _ within c.index_mut-tenant.ensures.value c.in_ok-add_file.ensures
