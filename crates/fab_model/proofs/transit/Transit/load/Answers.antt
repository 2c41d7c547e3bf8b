use Rattle.std.proofs.Common.{◌≡◌, true, List, sym, subst}
use Rattle.ten_core.specs.vl_design.specs.Alone.{first_tick}
use Rattle.ten_parcel.specs.Parcels.{run_of, ticks_of}
use Rattle.fab_model.specs.declared.transit.Stay.{Stay}
use Rattle.fab_model.specs.Stays.{chains}
use Rattle.fab_model.proofs.Firsts.{begins-before, begins-chain}
use Rattle.fab_model.proofs.transit.Transit.load.Goals as goal

pub invariant_of-result-clause-chained : goal.invariant_of-result-clause-chained
invariant_of-result-clause-chained c =
    let p = c.in-Ok.parcel in
    subst (λ (xs : List Stay). chains (first_tick (run_of p).resume) xs (ticks_of p) ≡ true) (sym c.new.ensures.items) (begins-chain c.args.number c.args.origin p c.in-Ok.ensures)

pub invariant_of-result-clause-before_end : goal.invariant_of-result-clause-before_end
invariant_of-result-clause-before_end c = begins-before c.args.number c.args.origin c.in-Ok.parcel c.in-Ok.ensures
