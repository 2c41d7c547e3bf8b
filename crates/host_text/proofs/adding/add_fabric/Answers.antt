use Rattle.std.proofs.Common.{◌≡◌, length, refl, arith}
use Rattle.host_text.proofs.Kept.{kept-fabric}
use Rattle.host_text.proofs.adding.add_fabric.Goals as goal

pub returns-clause-kept : goal.returns-clause-kept
returns-clause-kept c =
    let r = c.args.reading.now in
    let size : c.len-number.result ≡ length r.fabrics.items = omega arith in
    kept-fabric r _ _ c.args.name.now c.len-number.result c.requires.kept c.requires.new c.requires.room size c.in_ok-text.ensures c.in_ok-push.ensures.items refl (λ t. refl) c.in_ok-put_number.ensures
