use Rattle.std.proofs.Common.{◌∙◌, ap, sym, List, ℕ}
use Rattle.ten_form.specs.vl_runs.specs.Nets.{pass}
use Rattle.vl_design.specs.Value.{value_of}
use Rattle.ten_form.specs.vl_runs.specs.NetsOfSettle.{run}
use Rattle.ten_form.specs.sub_nodes.specs.Code.{table_of}
use Rattle.ten_form.specs.Nets.{nets_of}
use Rattle.vl_design.specs.Width.{names_of}
use Rattle.std.specs.Prelude.{slice_get}
use Rattle.ten_core.proofs.Tidying.{cleared-same, memory-row, fine-many}
use Rattle.ten_core.proofs.laws.each_stage_is_tidy.Goals as goal

pub returns : goal.returns
returns c o order n i checked ord fine writes sets comes late alive =
    let both = c.values_and_committed_values_stay_fine.ensures o (table_of o.flat) order n i fine comes in
    let nets = c.nets_hold_over_the_committed_values.ensures.hold o order n i checked ord fine writes comes late alive in
    let words = c.memories_hold_the_committed_words.ensures o (nets_of o.flat o.files order) n i sets comes late in
    record {
      fine = both.0;
      committed_fine = both.1;
      nets = λ k s q.
          nets.over k q
          ∙ ap (λ (v : List (List ℕ)). value_of (pass (run o.flat o.files i.state) order v) k)
          (cleared-same o.flat.rows i.committed (fine-many o.flat.rows i.committed both.1));
      memories = λ m h. sym (words.words m (memory-row (slice_get (names_of o.flat).rows m) h));
    }
