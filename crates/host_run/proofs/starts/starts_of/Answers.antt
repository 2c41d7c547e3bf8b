use Rattle.std.proofs.Common.{◌≡◌, ℕ, ◌∷◌, length, get_or, ◌∙◌, subst, arith}
use Rattle.fab_rounds.specs.ten_shell.specs.Shells.{CanRunOn}
use Rattle.host_run.specs.Made.{IsLoadedOn}
use Rattle.host_run.proofs.Loaded.{all_more, all_pop, is_beside, loaded_more}
use Rattle.host_run.proofs.starts.starts_of.Goals as goal

pub start_of-requires : goal.start_of-requires
start_of-requires c = (all_pop CanRunOn c.loop-origin.origins.items c.pop.new.self.items c.in-Some.origin c.in-Some.ensures.items c.loop-origin.invariant.can).0

pub loop-origin-preserved : goal.loop-origin-preserved
loop-origin-preserved c =
    let v = c.loop-origin.invariant in
    let fs = c.args.fabrics.now in
    let os = c.loop-origin.origins.items in
    let qs = c.pop.new.self.items in
    let o = c.in-Some.origin in
    let s = c.in_ok-start.start in
    let p = c.in-Some.ensures.items in
    let e : c.len-number.result ≡ length qs = c.len-number.ensures ∙ c.pop.new.self.ok.0 in
    let h : IsLoadedOn (length qs) (get_or fs (length qs) 0) o s = subst (λ (n : ℕ). IsLoadedOn n (get_or fs n 0) o s) e c.in_ok-start.ensures in
    record {
      can = (all_pop CanRunOn os qs o p v.can).1;
      few = omega arith;
      rest = o ∷ v.rest;
      all = all_more c.args.origins.items os qs v.rest o v.all p;
      loaded = loaded_more fs os qs v.rest o s c.loop-origin.starts.items c.add_first.new.starts.items p (is_beside fs c.args.origins.items os qs v.rest o c.requires.beside v.all p) c.in_ok-add_first.ensures h v.loaded;
    }
