use Rattle.std.proofs.Common.{ℕ, List}
use Rattle.std.proofs.lemmas.Result.{IfOk-weaker}
use Rattle.vl_front.specs.Sources.{IsAcceptedOf}
use Rattle.ten_build.specs.Builds.{IsImageOf}
use Rattle.host_files.specs.Reading.{bytes_in}
use Rattle.host_judge.specs.declared.judge.Verdict.{Verdict}
use Rattle.host_judge.specs.Deciding.{accepted, IsVerdict, IsVerdictOf}
use Rattle.host_judge.proofs.Weighed.{image-cost, image-room}
use Rattle.host_judge.proofs.judge.judge_fitting.Goals as goal

pub judge_image-requires-clause-image : goal.judge_image-requires-clause-image
judge_image-requires-clause-image c =
    let r = c.requires.accepted in
    (r.0, c.in_ok-image.ensures r.0 r.1)

pub judge_image-requires-clause-cost : goal.judge_image-requires-clause-cost
judge_image-requires-clause-cost c =
    let r = c.requires.accepted in
    image-cost c.args.fabrics.now c.args.line.now r.0 c.in_ok-image.image (c.in_ok-image.ensures r.0 r.1) r.2 c.a_text_is_a_design_or_refused.ensures.design

pub judge_image-requires-clause-room : goal.judge_image-requires-clause-room
judge_image-requires-clause-room c =
    let r = c.requires.accepted in
    image-room c.args.fabrics.now c.args.line.now r.0 c.in_ok-image.image (c.in_ok-image.ensures r.0 r.1) r.2 c.a_text_is_a_design_or_refused.ensures.design

pub returns : goal.returns
returns c =
    let fabrics = c.args.fabrics.now in
    let line = c.args.line.now in
    let bytes = bytes_in c.args.snapshot.now in
    let image = c.in_ok-image.image in
    IfOk-weaker c.judge_image.result (λ (v : Verdict). (text : List ℕ) (is : IsImageOf text image) → IsVerdict fabrics (accepted line is.design c.args.files bytes) v)
    (λ (v : Verdict). (text : List ℕ) → IsAcceptedOf text c.args.accepted → IsVerdictOf text fabrics line c.args.files bytes v)
    (λ v h text is. let told = c.in_ok-image.ensures text is in (told.design, told.stands, h text told))
    c.judge_image.ensures
