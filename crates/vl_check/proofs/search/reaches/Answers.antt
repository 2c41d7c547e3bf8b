use Rattle.std.proofs.Common.{◌<◌, ℕ, length, sym, ◌∙◌, subst, List}
use Rattle.vl_design.specs.First.{In}
use Rattle.vl_check.specs.declared.calls_calls.Call.{Call}
use Rattle.vl_check.specs.Tables.{rows_of, AreBelow}
use Rattle.vl_check.proofs.Lists.{in-last, emptied}
use Rattle.vl_check.proofs.Searching.{Searching, begun, step, ended, below}
use Rattle.vl_check.proofs.Tabling.{row-at, many-rows}
use Rattle.vl_check.proofs.search.reaches.Goals as goal

pub search-init : goal.search-init
search-init c = record {
  long = c.in_ok-add.ensures.long ∙ c.in_ok-seen.ensures.long;
  searches = begun (rows_of c.args.table.now) c.args.from c.in_ok-seen.seen.items c.add.new.seen.items c.new-stack.result.items c.add.new.stack.items c.in_ok-seen.ensures.off c.new-stack.ensures.items c.in_ok-add.ensures.added;
}

pub follow-requires : goal.follow-requires
follow-requires c =
    let table = c.args.table.now in
    let f = c.in-Some.f in
    let s = subst (λ (z : List ℕ). Searching (rows_of table) c.args.from c.search.seen.items z) c.in-Some.ensures.items c.search.invariant.searches in
    let l : f < length table = subst (λ (n : ℕ). f < n) c.search.invariant.long (below c.search.seen.items f (s.pending f (in-last c.pop.new.self.items f))) in
    let here = row-at table f c.index-table-f.result c.as_slice.result.now l c.index-table-f.is c.as_slice.ensures.value in
    subst (λ (n : ℕ). AreBelow n c.as_slice.result.now) (many-rows table ∙ sym c.search.invariant.long) (subst (λ (z : List Call). AreBelow (length (rows_of table)) z) (sym here) (c.requires.within f))

pub search-preserved : goal.search-preserved
search-preserved c =
    let table = c.args.table.now in
    let f = c.in-Some.f in
    let s = subst (λ (z : List ℕ). Searching (rows_of table) c.args.from c.search.seen.items z) c.in-Some.ensures.items c.search.invariant.searches in
    let l : f < length table = subst (λ (n : ℕ). f < n) c.search.invariant.long (below c.search.seen.items f (s.pending f (in-last c.pop.new.self.items f))) in
    let here = row-at table f c.index-table-f.result c.as_slice.result.now l c.index-table-f.is c.as_slice.ensures.value in
    record {
      long = c.in_ok-follow.ensures.long ∙ c.search.invariant.long;
      searches = step (rows_of table) c.args.from c.search.seen.items c.search.stack.items c.pop.new.self.items f c.as_slice.result.now c.follow.new.seen.items c.follow.new.stack.items c.in-Some.ensures.items here
          c.search.invariant.searches c.in_ok-follow.ensures.follows;
    }

pub bounds-table-f : goal.bounds-table-f
bounds-table-f c =
    let f = c.in-Some.f in
    let s = c.search.invariant.searches in
    subst (λ (n : ℕ). f < n) c.search.invariant.long (below c.search.seen.items f (s.pending f (subst (λ (z : List ℕ). In f z) (sym c.in-Some.ensures.items) (in-last c.pop.new.self.items f))))

pub returns : goal.returns
returns c = ended (rows_of c.args.table.now) c.args.from c.search.seen.items c.search.stack.items c.args.to c.is_on.result (emptied c.search.stack.items c.pop.new.self.items _ c.in_default.ensures.items c.in_default.ensures.rest c.in_default.ensures.cases.0) c.search.invariant.searches c.is_on.ensures
