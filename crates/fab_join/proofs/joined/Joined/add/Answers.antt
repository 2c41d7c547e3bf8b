use Rattle.std.proofs.Common.{List, ◌++◌, ◌∷◌, [], map, ap, ◌∙◌, sym, subst}
use Rattle.trap_runtime.specs.cell_form.specs.Data.{BankData}
use Rattle.trap_runtime.specs.cell_form.specs.Views.{table_of, bank_of}
use Rattle.fab_join.specs.Laid.{part_data, IsLaid}
use Rattle.fab_join.specs.Parts.{PartData}
use Rattle.fab_join.specs.declared.joined.Part.{Part}
use Rattle.fab_join.proofs.Joining.{laid_longer, view_longer, laid_joined, view_joined, Joins, when_err}
use Rattle.fab_join.proofs.joined.Joined.add.Goals as goal

pub returns-in_err-grow-clause-err : goal.returns-in_err-grow-clause-err
returns-in_err-grow-clause-err c =
    when_err _ (view_longer (bank_of c.self.inside.bank) (bank_of c.grow.new.bank) c.self.inside.parts.items c.grow.ensures.kept c.self.invariant ∙ c.self.view_is)

pub invariant_of-self : goal.invariant_of-self
invariant_of-self c =
    laid_longer (bank_of c.self.inside.bank) (bank_of c.grow.new.bank) c.self.inside.parts.items c.grow.ensures.kept c.self.invariant

pub invariant_of-self-in_err-push : goal.invariant_of-self-in_err-push
invariant_of-self-in_err-push c =
    let l = laid_longer (bank_of c.self.inside.bank) (bank_of c.grow.new.bank) c.self.inside.parts.items c.grow.ensures.kept c.self.invariant in
    subst (λ (ps : List Part). IsLaid (bank_of c.grow.new.bank) ps) (sym c.in_err-push.ensures.items) l

pub returns-in_err-push-clause-err : goal.returns-in_err-push-clause-err
returns-in_err-push-clause-err c =
    when_err _ (ap (map (part_data (bank_of c.grow.new.bank))) c.in_err-push.ensures.items ∙ view_longer (bank_of c.self.inside.bank) (bank_of c.grow.new.bank) c.self.inside.parts.items c.grow.ensures.kept c.self.invariant ∙ c.self.view_is)

pub invariant_of-self-2 : goal.invariant_of-self-2
invariant_of-self-2 c =
    let b = bank_of c.self.inside.bank in
    let own = bank_of c.args.zero.now in
    let t = table_of c.args.table.now in
    let x : Part = record { table = c.in_ok-table.table; ports = c.in_ok-ports.ports; place = c.in_ok-place.place; size = c.in_ok-size.size } in
    let j : Joins b own t c.args.ports.now.ports x = record { place = c.in_ok-place.ensures; size = c.in_ok-size.ensures; table = c.in_ok-table.ensures; ports = c.in_ok-ports.ensures; may_run = c.requires } in
    let h = laid_joined b own t c.args.ports.now.ports x j c.self.inside.parts.items c.self.invariant in
    let P : List Part → Type 0 = λ ps. IsLaid (bank_of c.grow.new.bank) ps in
    subst P (sym c.in_ok-push.ensures.items) (subst (λ (z : BankData). IsLaid z (c.self.inside.parts.items ++ x ∷ [])) (sym c.in_ok-grow.ensures.ok) h)

pub returns-clause-ok : goal.returns-clause-ok
returns-clause-ok c =
    let b = bank_of c.self.inside.bank in
    let own = bank_of c.args.zero.now in
    let t = table_of c.args.table.now in
    let x : Part = record { table = c.in_ok-table.table; ports = c.in_ok-ports.ports; place = c.in_ok-place.place; size = c.in_ok-size.size } in
    let j : Joins b own t c.args.ports.now.ports x = record { place = c.in_ok-place.ensures; size = c.in_ok-size.ensures; table = c.in_ok-table.ensures; ports = c.in_ok-ports.ensures; may_run = c.requires } in
    ap (map (part_data (bank_of c.grow.new.bank))) c.in_ok-push.ensures.items
    ∙ ap (λ (z : BankData). map (part_data z) (c.self.inside.parts.items ++ x ∷ [])) c.in_ok-grow.ensures.ok
    ∙ view_joined b own t c.args.ports.now.ports x j c.self.inside.parts.items c.self.invariant
    ∙ ap (λ (qs : List PartData). qs ++ record { table = t; ports = c.args.ports.now.ports; bank = own } ∷ []) c.self.view_is
