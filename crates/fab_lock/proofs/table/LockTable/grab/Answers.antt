use Rattle.std.proofs.Common.{rules, ap, sym, ◌∙◌, Some, ◌∷◌}
use Rattle.atomic_table.specs.Table.{rest}
use Rattle.fab_lock.proofs.Taking.{grabs}
use Rattle.fab_lock.proofs.table.LockTable.grab.Goals as goal

pub compare_exchange-found-requires : goal.compare_exchange-found-requires
compare_exchange-found-requires g c = (search rules, search rules, grabs _ _ _ _ _ _ _ _ (ap (λ m. m.0.label) c.loop.invariant.1 ∙ c.requires.label))

pub exchange-requires : goal.exchange-requires
exchange-requires g c = let got = c.compare_exchange-found.ensures.2.0 c.if-found-eq-FREE.true in let has = ap (λ m. m.1) got.4 in
    (search rules, (Some got.0, has ∙ (λ i. (0, Some got.0) ∷ sym (ap rest has) i)))
