use Rattle.std.proofs.Common.{◌≡◌, ◌∙◌, map, subst, get_or, ◌<◌, Bool, false, List, sym, rules}
use Rattle.std.specs.Prelude.{◌&&◌, not}
use Rattle.std.specs.List.{list_any}
use Rattle.vl_design.specs.Seen as seen
use Rattle.vl_sites.specs.Seen.{site_of}
use Rattle.vl_check.specs.Bodies.{kind_is}
use Rattle.vl_check.specs.Rules.{reads}
use Rattle.vl_check.specs.Triggers.{has_value}
use Rattle.vl_check.proofs.Marking.{lacking}
use Rattle.vl_check.proofs.triggers.lacks_some.Goals as goal

pub returns-clause-lacks : goal.returns-clause-lacks
returns-clause-lacks c =
    let signals = c.args.signals.now in
    lacking signals (seen.process_of c.args.a.now) (map site_of c.args.all.now) c.as_slice-events.result.now c.is_list.result c.reads_unmarked-lacks.result c.args.marks.now.items c.put_events.new.marks.items c.put_sites.new.marks.items
    c.requires.sites c.as_slice-events.ensures c.is_list.ensures (search rules) c.requires.clean
    (λ k n. c.put_events.ensures.marks k (subst (λ z. k < z) (sym c.requires.long) n))
    (λ k n. c.put_sites.ensures.marks k (subst (λ z. k < z) (sym (c.put_events.ensures.long ∙ c.requires.long)) n))
    (subst (λ (z : List Bool). c.reads_unmarked-lacks.result ≡ list_any (λ s. reads (λ k. kind_is has_value signals k && not (get_or z k false)) s.what) (map site_of c.args.all.now)) c.deref.ensures.value c.reads_unmarked-lacks.ensures)
