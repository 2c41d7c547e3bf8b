use Rattle.std.proofs.Common.{List, map, take, drop, length, ◌-◌, sym, ap, ◌∙◌, subst}
use Rattle.std.proofs.lemmas.List.{take_rest}
use Rattle.cell_emit.specs.declared.pending.Site.{Site}
use Rattle.cell_emit.specs.Pendings.{memories_of}
use Rattle.ten_form.specs.declared.store.Store.{Store}
use Rattle.cell_waves.specs.Keeping.{Keeps}
use Rattle.cell_states.proofs.Fronting.{drop-same}
use Rattle.cell_states.proofs.ends.writes.Goals as goal

pub keep-requires-clause-same : goal.keep-requires-clause-same
keep-requires-clause-same c =
    let stores = c.args.stores.now in
    let sites = c.as_slice-sites.result.now in
    let count = c.unchanged-same.result in
    ap (map (λ (x : Store). x.memory)) (take_rest stores count) ∙ (drop-same count stores sites (rw c.as_slice-sites.ensures.value c.requires.same) ∙ sym (ap memories_of (take_rest sites count)))

pub returns : goal.returns
returns c =
    let stores = c.args.stores.now in
    let sites = c.as_slice-sites.result.now in
    let count = c.unchanged-same.result in
    let before = c.in_ok-sets.sets.items in
    let kept = subst (λ (xs : List Store). Keeps xs (take (length sites - count) (drop count sites)) before c.keep.new.sets.items) (take_rest stores count) c.in_ok-keep.ensures in
    let keeps = subst (λ (ss : List Site). Keeps (drop count stores) ss before c.keep.new.sets.items) (take_rest sites count) kept in
    record {
      before = before;
      count = count;
      few = c.unchanged-same.ensures.few;
      there = rw c.as_slice-sites.ensures.value at c.unchanged-same.ensures.there;
      same = rw c.as_slice-sites.ensures.value at c.unchanged-same.ensures.same;
      end = c.in_ok-sets.ensures;
      keeps = rw c.as_slice-sites.ensures.value at keeps;
    }
