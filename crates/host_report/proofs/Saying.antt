-- What is said of one tenant.
use Rattle.std.proofs.Common.{◌≡◌, ℕ, List, Some, refl, ap, ◌∙◌}
use Rattle.std.specs.Prelude.{map}
use Rattle.host_files.specs.host_text.specs.declared.script.Script.{Script}
use Rattle.host_files.specs.host_text.specs.declared.block.Stay.{Stay as StayLine}
use Rattle.host_files.specs.host_text.specs.declared.block.Block.TheVariants as block
use Rattle.fab_model.specs.ten_parcel.specs.Parcels.{run_of, ticks_of}
use Rattle.fab_model.specs.declared.transit.Stay.{Stay}
use Rattle.fab_model.specs.declared.transit.Transit.{Transit}
use Rattle.host_files.specs.host_form.specs.Histories.{times}
use Rattle.host_files.specs.host_form.specs.Reports.{stay_of}
use Rattle.host_report.specs.Told.{visit_of}
use Rattle.host_report.specs.declared.ending.Ending.{Ending}
use Rattle.host_report.specs.Endings.{IsEndingOf, IsSaidOf}
use Rattle.host_report.specs.Orders.{AreInOrder}

-- the block of a tenant that has ended so
pub said-of : (s : Script) (name : List ℕ) (e : Transit) (x : Ending) → IsEndingOf e x → (stays : List Stay) (n printed : List ℕ) (lines : List StayLine)
    → AreInOrder stays x.stays.items → n ≡ name → printed ≡ x.printed.items → lines ≡ map (stay_of s) (map visit_of stays)
    → IsSaidOf s name e (record { block = block.Ran (record { name = n; status = x.status; ticks = x.ticks; cycles = x.cycles; printed = printed; stays = lines }); kept = Some x.kept })
said-of s name e x is stays n printed lines o named bytes listed =
    let shown = bytes ∙ is.printed in
    record {
      run = record { origin = run_of e.parcel; tick = ticks_of e.parcel; reason = is.reason; last = is.last; visits = map visit_of stays };
      is = record { tick = refl; ends = is.ends; ordered = o.ordered; each = λ v. o.each v ∙ ap (λ (ys : List Stay). times v (map visit_of ys)) is.stays };
      block = λ i. block.Ran (record { name = named i; status = is.status i; ticks = is.ticks i; cycles = is.cycles i; printed = shown i; stays = listed i });
      kept = x.kept;
      keeps = refl;
      by = is.kept;
    }
