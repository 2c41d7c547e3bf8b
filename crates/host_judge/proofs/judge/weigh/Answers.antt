use Rattle.std.proofs.Common.{length, Some, refl, sym, ◌∙◌, subst}
use Rattle.std.proofs.lemmas.Option.{slice_get_read}
use Rattle.host_files.specs.host_form.specs.declared.refusal.Refusal.{Refusal}
use Rattle.host_judge.specs.Deciding.{IsWeighed}
use Rattle.host_judge.proofs.Weighed.{too-dear, has-room}
use Rattle.host_judge.proofs.judge.weigh.Goals as goal

pub returns-then-fits_in : goal.returns-then-fits_in
returns-then-fits_in c = λ e is.
    has-room c.args.fabrics.now c.args.line.now c.args.cost (c.if-not-is_exact.ensures refl) c.index-fabrics-line.result
    (slice_get_read c.args.fabrics.now (length c.args.fabrics.now) c.args.line.now.fabric c.index-fabrics-line.result refl c.requires c.index-fabrics-line.is)
    (sym c.fits_in.ensures ∙ c.if-fits_in.true) e is

pub returns : goal.returns
returns c = λ e is.
    subst (λ (r : Refusal). IsWeighed c.args.fabrics.now c.args.line.now e (Some r)) (sym c.elsewhere.ensures)
    (too-dear c.args.fabrics.now c.args.line.now c.args.cost (c.if-not-is_exact.ensures refl) c.index-fabrics-line.result
    (slice_get_read c.args.fabrics.now (length c.args.fabrics.now) c.args.line.now.fabric c.index-fabrics-line.result refl c.requires c.index-fabrics-line.is)
    c.in_ok-kind.kind (sym c.fits_in.ensures ∙ c.if-fits_in.false) c.in_ok-kind.ensures e is)
