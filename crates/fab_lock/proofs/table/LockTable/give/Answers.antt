use Rattle.std.proofs.Common.{rules, ap, refl, sym, ◌∙◌, [], ◌∷◌, Some, None}
use Rattle.atomic_table.specs.Table.{rest}
use Rattle.fab_lock.proofs.Taking.{releases}
use Rattle.fab_lock.proofs.table.LockTable.give.Goals as goal

pub exchange-requires : goal.exchange-requires
exchange-requires g c = let has = c.requires.holds.1 in (c.requires.lock, (None, has ∙ (λ i. (0, None) ∷ sym (ap rest has) i)))

pub store-requires : goal.store-requires
store-requires g c = let now = c.exchange.ensures.3 in let has = ap rest c.requires.holds.1 in (
  search rules,
  search rules,
  rw now (rw has (releases _ _ _ _ _ _ _ (c.args.seat.now.me.0, (0, Some c.args.value) ∷ []) c.args.value refl c.requires.view c.requires.holds.0 c.requires.label c.requires.grows.0 c.requires.grows.1 c.requires.grows.2 c.requires.reach.1 (search rules))),
)

pub returns-clause-view : goal.returns-clause-view
returns-clause-view g c = let now = c.exchange.ensures.3 in let has = ap rest c.requires.holds.1 in c.store.ensures.2 ∙ rw now (rw has refl)
