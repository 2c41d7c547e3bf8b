use Rattle.std.proofs.Common.{refl, sym, ap, ◌∙◌}
use Rattle.host_files.specs.host_form.specs.Reports.{status_of}
use Rattle.host_report.proofs.Closing.{reason-is, count-is, printed-is, kept-by, some-end}
use Rattle.host_report.proofs.ending.ending_of.Goals as goal

pub ended-requires : goal.ended-requires
ended-requires c = c.requires.parcel

pub returns : goal.returns
returns c =
    let e = c.args.transit in
    let t = c.requires in
    record {
      reason = t.end;
      last = t.last;
      ends = t.ends;
      status = c.status_of.ensures ∙ ap status_of (some-end _ _ (sym c.in-Some.is ∙ reason-is e t c.ended.result c.ended.ensures.reason));
      ticks = c.ticks-ticks.ensures;
      cycles = count-is e t _ (c.cycles-cycles.ensures t.parcel);
      printed = printed-is e t _ (c.into_remains-remains.ensures.printed t.parcel);
      stays = refl;
      kept = kept-by e t _ c.into_remains-remains.ensures.origin (c.into_remains-remains.ensures.saves t.parcel) (c.into_remains-remains.ensures.written t.parcel t.written);
    }
