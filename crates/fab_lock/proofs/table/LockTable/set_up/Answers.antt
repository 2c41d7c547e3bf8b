use Rattle.std.proofs.Common.{ap, sym, ◌∙◌, ◌+◌, [], ◌∷◌, ◌++◌, Some, List, ℕ, length, get_or}
use Rattle.std.proofs.lemmas.List.{length-replicate}
use Rattle.fab_lock.proofs.Lists.{zeros}
use Rattle.fab_lock.proofs.Taking.{opens}
use Rattle.fab_lock.proofs.table.LockTable.set_up.Goals as goal

pub new-requires : goal.new-requires
new-requires g c = let is = c.push_reserved.ensures.items ∙ ap (λ l. l ++ Some c.args.value ∷ []) (c.reserve.ensures.items ∙ c.new-slots.ensures.items) in
    let e = c.as_slice.ensures.value ∙ c.in-Ok.ensures.items_if_clones_equal (λ y p. p) in
    rw is (opens _ _ _ _ _ _ c.args.value (ap length e ∙ length-replicate (c.args.count + 1) 0) (λ i. ap (λ (l : List ℕ). get_or l i 0) e ∙ zeros (c.args.count + 1) i) (ap g.T.Kept.label (sym c.of.ensures)) c.requires)
